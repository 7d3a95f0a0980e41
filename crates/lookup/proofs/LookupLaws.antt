-- The search for a member by name, one member after the other.
use mathlib.Core.Path.{◌≡◌, refl, sym, ap, ◌∙◌}
use Rattle.std.specs.declared.option.Option.{Option}
use Rattle.std.specs.declared.option.Option.TheVariants.{None, Some}
use Rattle.canonical_json.specs.Options.{bind}
use mathlib.Core.Bool.{true, false, cond}
use Prim.Native.Nat.{ℕ}
use lib.ListN.{drop}
use Rattle.base.specs.Bytes.{Bytes, same}
use Rattle.canonical_json.specs.Json.{Json, Members, mcons}
use Rattle.canonical_json.specs.Read.{raw}
use Rattle.canonical_json.specs.Fields.{members, lookup, field}
use Rattle.lookup.specs.Place.{Stands, PlaceOf}
use Rattle.lookup.specs.Walk.{MembersLeft, members-end, members-at, MembersOf, FirstMember, NextMember}
use Rattle.lookup.specs.declared.Member.{Member}
use Rattle.lookup.specs.declared.Member.TheVariants.{NoObject, End, At}
use Rattle.lookup.proofs.MemberLaws.{member-stands, member-name}

-- o is what the members that are left at m hold under the name k
abbrev pub Sought : Bytes → Bytes → Member → Option Json → Type 0
Sought s k NoObject o = o ≡ None
Sought s k (End e) o = o ≡ None
Sought s k (At i j) o =
    (rest : Bytes) × (n : Bytes) × (v : Json) × (ms : Members) × MembersLeft s rest (At i j) (mcons n v ms) × (o ≡ lookup k (mcons n v ms))

module _ (s k : Bytes) where
  left_sought : {rest : Bytes} {m : Member} {ms : Members} → MembersLeft s rest m ms → Sought s k m (lookup k ms)
  unfolding lookup
  left_sought (members-end t) = refl
  left_sought {rest} (members-at {n = n} {v = v} {ms = ms} t u g) = (rest, n, v, ms, members-at t u g, refl)

  pub sought_first : {p : ℕ} {m : Member} → FirstMember s p m → (v : Json) → Stands s p v → Sought s k m (field k v)
  unfolding field bind
  sought_first {p} {m} w v h = go (members v) (w.means v h)
    where
      go : (o : Option Members) → MembersOf s h.rest m o → Sought s k m (bind o (lookup k))
      go None e = rw e refl
      go (Some ms) l = left_sought l

  module _ (m : Member) (o : Option Json) (w : Sought s k m o) where
    pub sought_end : (e : ℕ) → m ≡ End e → o ≡ None
    sought_end e q = rw q at w

    module _ (i j : ℕ) (q : m ≡ At i j) where
      here : Sought s k (At i j) o
      here = rw q at w

      lookup-is : o ≡ cond (same (raw (drop i s)) k) (Some here.2) (lookup k here.3)
      unfolding lookup
      lookup-is = here.5 ∙ ap (λ (n : Bytes). cond (same n k) (Some here.2) (lookup k here.3)) (sym (member-name here.4))

      pub sought_here : true ≡ same (raw (drop i s)) k → PlaceOf s (Some j) o
      sought_here e = (here.2, lookup-is ∙ rw (sym e) refl, member-stands here.4)

      pub sought_next : false ≡ same (raw (drop i s)) k → {x : Member} → NextMember s j x → Sought s k x o
      sought_next e {x} n =
          let r : o ≡ lookup k here.3 = lookup-is ∙ rw (sym e) refl in
          rw r (left_sought (n.means i here.1 here.2 here.3 here.4))
