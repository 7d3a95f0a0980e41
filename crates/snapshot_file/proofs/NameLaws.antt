-- A name that is copied, what is said of it, and the list of names.
use mathlib.Core.Path.{◌≡◌, refl, sym, ap, ◌∙◌}
use mathlib.Core.List.{List}
use Rattle.std.specs.Option.{is_some}
use Rattle.std.specs.declared.option.Option.{Option}
use Rattle.std.specs.declared.option.Option.TheVariants.{None, Some}
use Rattle.canonical_json.specs.Options.{bind}
use mathlib.Core.Bool.{Bool, true, false, and-false, ◌&&◌}
use Prim.Native.Nat.{ℕ, ◌≤◌, ◌<◌, min}
use native.Mathlib.Omega.{arith}
use lib.Dec.{leb}
use lib.ListN.{length, take}
use borrow.Author.Tests.{le-leb, lt-leb, leb-true}
use Rattle.base.specs.Bytes.{Bytes, bytes}
use Rattle.base.specs.Window.{window}
use Rattle.base.proofs.TestLaws.{never}
use Rattle.base.proofs.WindowLaws.{window-part}
use Rattle.canonical_json.specs.Json.{Json, Members}
use Rattle.canonical_json.specs.Fields.{members, lookup, field, count, keep}
use Rattle.lookup.specs.Place.{PlaceOf, Finds, Takes}
use Rattle.lookup.specs.Leaves.{Copies}
use Rattle.lookup.specs.declared.Member.{Member}
use Rattle.lookup.specs.declared.Member.TheVariants.{NoObject, End, At}
use Rattle.lookup.proofs.StringLaws.{copied-front, copied-length}
use Rattle.rules.specs.Limits.{max_name, max_names}
use Rattle.rules.specs.Take.{◌>>=◌, name_of, each_named}
use Rattle.rules.specs.Records.{Named, Listed}
use Rattle.rules.specs.Forms.{listed, named, names}
use Rattle.records.specs.View.{view_name}
use Rattle.forms.specs.Each.{each_member}

-- ## A name

module _ (t : Bytes) where
  pub name-empty : length t < 1 → None ≡ name_of max_name t
  unfolding name_of keep
  name-empty h = rw (lt-leb 1 (length t) h)

  -- copied to the front of a buffer of that many bytes
  module _ (before after : Bytes) (l : length before ≡ max_name) (fits : Bool) (w : Copies t before fits after) where
    name-fits : fits ≡ leb (length t) max_name
    name-fits = w.fits ∙ ap (λ (n : ℕ). leb (length t) n) l

    pub name-long : fits ≡ false → None ≡ name_of max_name t
    unfolding name_of keep
    name-long q = rw (sym name-fits ∙ q, and-false)

    pub name-is : fits ≡ true → 1 ≤ length t → Some (view_name (record { length = length t; bytes = after })) ≡ name_of max_name t
    unfolding name_of keep view_name
    name-is q h =
        let f : leb (length t) max_name ≡ true = sym name-fits ∙ q in
        let s : length t ≤ max_name = leb-true (length t) max_name f in
        let m : min (length t) max_name ≡ length t = omega arith in
        let a : length after ≡ max_name = ap length w.is ∙ copied-length t before ∙ l in
        let p : window after 0 (length t) ≡ take (length t) after = window-part after 0 (length t) (omega arith) in
        let c : take (length t) after ≡ t = ap (λ (x : Bytes). take (length t) x) w.is ∙ copied-front t before (omega arith) in
        rw (le-leb 1 (length t) h, f, m, p, c) refl

-- ## What is said of it

module _ (t : Bytes) (v : Json) where
  pub no-name : None ≡ name_of max_name t → None ≡ named t v
  unfolding named bind
  no-name e = rw (← e)

  module _ (n : Bytes) (e : Some n ≡ name_of max_name t) where
    pub no-listed : None ≡ listed v → None ≡ named t v
    unfolding named bind
    no-listed f = rw (← e, ← f)

    pub named-is : (l : Listed) → Some l ≡ listed v → Some (record { name = n; listed = l }) ≡ named t v
    unfolding named bind
    named-is l f = rw (← e, ← f)

-- ## The list

names-by : (v : Json) → names v ≡ (field (bytes "targets.json") v >>= λ _. each_member 1 max_names named v)
unfolding names each_member field bind keep
names-by v = go (members v)
  where
    inner : (b : Bool) (ms : Members) (o : Option Json) → lookup (bytes "targets.json") ms ≡ o
        → (keep b ms >>= λ ms. lookup (bytes "targets.json") ms >>= λ _. each_named named ms) ≡ (o >>= λ _. keep b ms >>= each_named named)
    inner false ms None e = refl
    inner false ms (Some x) e = refl
    inner true ms None e = rw e refl
    inner true ms (Some x) e = rw e refl

    go : (o : Option Members) → (o >>= λ ms. keep (leb 1 (count ms) && leb (count ms) max_names) ms >>= λ ms. lookup (bytes "targets.json") ms >>= λ _. each_named named ms)
        ≡ ((o >>= lookup (bytes "targets.json")) >>= λ _. o >>= λ ms. keep (leb 1 (count ms) && leb (count ms) max_names) ms >>= each_named named)
    go None = refl
    go (Some ms) = inner (leb 1 (count ms) && leb (count ms) max_names) ms (lookup (bytes "targets.json") ms) refl

module _ (s : Bytes) (p : ℕ) where
  -- the list is broken
  pub names-broken : Takes s p (each_member 1 max_names named) None → Takes s p names None
  unfolding bind
  names-broken t v h = sym (names-by v ∙ rw (← t v h) (go (field (bytes "targets.json") v)))
    where
      go : (x : Option Json) → ◌≡◌ {A = Option (List Named)} (x >>= λ _. None) None
      go None = refl
      go (Some w) = refl

  module _ (r : Option ℕ) (w : Finds s p (field (bytes "targets.json")) r) where
    pub targets-missing : is_some r ≡ false → Takes s p names None
    unfolding bind
    targets-missing q v h = sym (names-by v ∙ rw (go r q (w v h)) refl)
      where
        go : (r : Option ℕ) → is_some r ≡ false → PlaceOf s r (field (bytes "targets.json") v) → field (bytes "targets.json") v ≡ None
        go None q t = t
        go (Some x) q t = never q

    pub targets-there : is_some r ≡ true → (o : Option (List Named)) → Takes s p (each_member 1 max_names named) o → Takes s p names o
    unfolding bind
    targets-there q o t v h = let z = go r q (w v h) in t v h ∙ sym (names-by v ∙ rw z.1 refl)
      where
        go : (r : Option ℕ) → is_some r ≡ true → PlaceOf s r (field (bytes "targets.json") v) → (x : Json) × (field (bytes "targets.json") v ≡ Some x)
        go None q t = never (sym q)
        go (Some x) q t = (t.0, t.1)

-- a walk that has come to no member and to no end
pub no-object : (m : Member) → ((i j : ℕ) → m ≡ At i j → ⊥) → ((e : ℕ) → m ≡ End e → ⊥) → m ≡ NoObject
no-object NoObject a e = refl
no-object (End x) a e = absurd (e x refl)
no-object (At i j) a e = absurd (a i j refl)
