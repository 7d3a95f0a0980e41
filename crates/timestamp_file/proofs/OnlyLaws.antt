-- The one member of an object.
use mathlib.Core.Path.{◌≡◌, refl, sym, ap, ◌∙◌}
use Rattle.std.specs.declared.option.Option.{Option}
use Rattle.std.specs.declared.option.Option.TheVariants.{None, Some}
use Rattle.canonical_json.specs.Options.{bind}
use mathlib.Core.Bool.{Bool, true, false}
use Prim.Native.Nat.{ℕ}
use native.Mathlib.Omega.{arith}
use lib.ListN.{drop}
use Rattle.base.specs.Bytes.{Bytes, same}
use Rattle.canonical_json.specs.Json.{Json, Members, mnil, mcons}
use Rattle.canonical_json.specs.Read.{raw}
use Rattle.canonical_json.specs.Fields.{members, keep}
use Rattle.lookup.specs.Place.{Stands, PlaceOf, Finds, Takes}
use Rattle.lookup.specs.Walk.{MembersLeft, members-end, members-at, MembersOf, FirstMember, NextMember}
use Rattle.lookup.specs.declared.Member.{Member}
use Rattle.lookup.specs.declared.Member.TheVariants.{End, At}
use Rattle.lookup.proofs.MemberLaws.{member-stands, member-name}
use Rattle.rules.specs.Take.{◌>>=◌, single, sole}
use Rattle.forms.proofs.StepLaws.{stop, on}
use Rattle.timestamp_file.specs.View.{only}

-- no member is left where the walk is over, and some where it is not
over : {s rest : Bytes} {m : Member} {ms : Members} → MembersLeft s rest m ms → {e : ℕ} → m ≡ End e → ms ≡ mnil
over (members-end t) q = refl
over (members-at t u g) q = let z : ◌≡◌ {A = ℕ} 0 1 = cc in absurd (omega arith)

not-over : {s rest : Bytes} {m : Member} {ms : Members} → MembersLeft s rest m ms → ((e : ℕ) → m ≡ End e → ⊥) → (n : Bytes) (v : Json) (k : Bytes) → single k (mcons n v ms) ≡ None
unfolding single
not-over (members-end {e = e} t) q n v k = absurd (q e refl)
not-over (members-at t u g) q n v k = refl

-- what is read in it
sole-only : {A : Type 0} (k : Bytes) (f : Json → Option A) (v : Json) → sole k f v ≡ (only k v >>= f)
unfolding sole only bind
sole-only k f v = go (members v)
  where
    go : (m : Option Members) → (m >>= λ ms. single k ms >>= f) ≡ ((m >>= single k) >>= f)
    go None = refl
    go (Some ms) = refl

module _ (s : Bytes) (p : ℕ) (k : Bytes) {m : Member} (w : FirstMember s p m) where
  -- an object without members, or none
  pub only-none : ((i j : ℕ) → m ≡ At i j → ⊥) → Finds s p (only k) None
  unfolding only bind single
  only-none q v h = go (members v) (w.means v h)
    where
      left : {rest : Bytes} {x : Member} {ms : Members} → MembersLeft s rest x ms → ((i j : ℕ) → x ≡ At i j → ⊥) → single k ms ≡ None
      left (members-end t) q = refl
      left (members-at {i = i} {j = j} t u g) q = absurd (q i j refl)

      go : (o : Option Members) → MembersOf s h.rest m o → (o >>= single k) ≡ None
      go None e = refl
      go (Some ms) l = left l q

  module _ (i j : ℕ) (q : m ≡ At i j) where
    -- what the members say, from the first on
    by_first : (T : Option Json → Type 0) → ((rest n : Bytes) (v : Json) (ms : Members) → MembersLeft s rest (At i j) (mcons n v ms) → T (single k (mcons n v ms)))
        → (v : Json) → Stands s p v → T (only k v)
    unfolding only bind
    by_first T f v h = go (members v) (w.means v h)
      where
        left : {rest : Bytes} {ms : Members} → MembersLeft s rest (At i j) ms → T (single k ms)
        left {rest} (members-at {n = n} {v = v} {ms = ms} t u g) = f rest n v ms (members-at t u g)

        go : (o : Option Members) → MembersOf s h.rest m o → T (o >>= single k)
        go None e = let z : ◌≡◌ {A = ℕ} 0 1 = cc in absurd (omega arith)
        go (Some ms) l = left (rw q at l)

    named : {rest : Bytes} (n : Bytes) (v : Json) (ms : Members) → MembersLeft s rest (At i j) (mcons n v ms) → (b : Bool) → b ≡ same (raw (drop i s)) k → same n k ≡ b
    named n v ms l b e = ap (λ (x : Bytes). same x k) (sym (member-name l)) ∙ sym e

    pub only-other : false ≡ same (raw (drop i s)) k → Finds s p (only k) None
    unfolding single keep
    only-other e = by_first (λ o. o ≡ None) (λ rest n v ms l. go n v ms (named n v ms l false e))
      where
        go : (n : Bytes) (v : Json) (ms : Members) → same n k ≡ false → single k (mcons n v ms) ≡ None
        go n v mnil e = rw e refl
        go n v (mcons m x ms) e = refl

    -- of whose value the form says nothing
    pub sole-broken : {A : Type 0} (f : Json → Option A) → Takes s j f None → Takes s p (sole k f) None
    unfolding single keep bind
    sole-broken {A} f t v h = sym (sole-only k f v ∙ by_first (λ o. (o >>= f) ≡ None) (λ rest n v ms l. go n v ms (sym (t v (member-stands l)))) v h)
      where
        kept : (b : Bool) (v : Json) → f v ≡ None → (keep b v >>= f) ≡ None
        kept true v e = e
        kept false v e = refl

        go : (n : Bytes) (v : Json) (ms : Members) → f v ≡ None → (single k (mcons n v ms) >>= f) ≡ None
        go n v mnil e = kept (same n k) v e
        go n v (mcons m x ms) e = refl

    module _ {x : Member} (d : NextMember s j x) where
      pub only-more : ((e : ℕ) → x ≡ End e → ⊥) → Finds s p (only k) None
      only-more e = by_first (λ o. o ≡ None) (λ rest n v ms l. not-over (d.means i n v ms l) e n v k)

      pub only_one : true ≡ same (raw (drop i s)) k → (e : ℕ) → x ≡ End e → Finds s p (only k) (Some j)
      unfolding single keep
      only_one t e q =
          by_first (λ o. PlaceOf s (Some j) o)
          (λ rest n v ms l. (v, rw (over (d.means i n v ms l) q, named n v ms l true t) refl, member-stands l))

module _ {A : Type 0} (s : Bytes) (p : ℕ) (k : Bytes) (f : Json → Option A) where
  pub sole-none : Finds s p (only k) None → Takes s p (sole k f) None
  sole-none w v h = sym (sole-only k f v ∙ stop f (w v h))

  pub sole-at : (x : ℕ) → Finds s p (only k) (Some x) → (o : Option A) → Takes s x f o → Takes s p (sole k f) o
  sole-at x w o t v h = let z = w v h in t z.0 z.2 ∙ sym (sole-only k f v ∙ on f z.1)
