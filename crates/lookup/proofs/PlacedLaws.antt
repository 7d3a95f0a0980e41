-- The search for a member by name, with the exact place of its value.
use mathlib.Core.Path.{◌≡◌, refl, sym, ap, ◌∙◌}
use mathlib.Core.List.{[], ◌∷◌, ◌++◌}
use Rattle.std.specs.declared.option.Option.{Option}
use Rattle.std.specs.declared.option.Option.TheVariants.{None, Some}
use Rattle.canonical_json.specs.Options.{bind}
use mathlib.Core.Bool.{true, false, cond}
use Prim.Native.Nat.{ℕ, suc, ◌+◌, ◌-◌}
use native.Mathlib.Omega.{arith}
use lib.ListN.{length, drop, length-append, length-drop}
use Rattle.base.specs.Bytes.{Bytes, same}
use Rattle.canonical_json.specs.Json.{Json, str, Members, mcons, put, put_bytes, put_str}
use Rattle.canonical_json.specs.Read.{raw}
use Rattle.canonical_json.specs.Fields.{members, place_from}
use Rattle.canonical_json.proofs.Puts.{put-str}
use Rattle.canonical_json.proofs.Slices.{put-split}
use Rattle.lookup.specs.Place.{Stands}
use Rattle.lookup.specs.Walk.{MembersLeft, members-end, members-at, MembersOf, NameAt, FirstMember, NextMember}
use Rattle.lookup.specs.declared.Member.{Member}
use Rattle.lookup.specs.declared.Member.TheVariants.{NoObject, End, At}
use Rattle.lookup.proofs.MemberLaws.{member-stands, member-name}
use Rattle.lookup.proofs.StandsLaws.{inside}

-- ## Lengths

name-length : (n r : Bytes) → suc (length (put_bytes n (34 ∷ r))) ≡ length (put_str n []) + length r
name-length n r =
    let e : put_str n r ≡ put_str n [] ++ r = rw (put-str, put-str) at (put-split (str n) r) in
    ap length e ∙ length-append (put_str n []) r

-- where a value ends
pub value-length : (s : Bytes) (j : ℕ) (v : Json) (h : Stands s j v) → length s - length h.rest ≡ j + length (put v [])
value-length s j v h =
    let e = ap length (h.text ∙ put-split v h.rest) ∙ length-append (put v []) h.rest in
    omega (arith, length-drop j s, inside s j v h)

-- where the value of a member begins whose name's opening quote stands at p
value-place : (s : Bytes) (p i j : ℕ) {rest : Bytes} (n : Bytes) (v : Json) (ms : Members) → MembersLeft s rest (At i j) (mcons n v ms) → i ≡ p + 1
    → j ≡ p + length (put_str n []) + 1
value-place s p i j {rest} n v ms l e = go l
  where
    go : MembersLeft s rest (At i j) (mcons n v ms) → j ≡ p + length (put_str n []) + 1
    go (members-at t u g) =
        let k = ap length t in
        let m = name-length n (58 ∷ drop j s) in
        omega (arith, length-drop i s, length-drop j s, inside s j v (member-stands l))

-- ## The search

-- o is the place that the members left at m have for the value of k
abbrev pub Placed : Bytes → Bytes → Member → Option ℕ → Type 0
Placed s k NoObject o = o ≡ None
Placed s k (End e) o = o ≡ None
Placed s k (At i j) o =
    (p : ℕ) × (n : Bytes) × (v : Json) × (ms : Members) × ((rest : Bytes) × MembersLeft s rest (At i j) (mcons n v ms)) × (i ≡ p + 1) × (o ≡ place_from p k (mcons n v ms))

module _ (s k : Bytes) where
  left-placed : {rest : Bytes} {m : Member} {ms : Members} (p : ℕ) → MembersLeft s rest m ms → NameAt m (p + 1) → Placed s k m (place_from p k ms)
  unfolding place_from
  left-placed p (members-end t) e = refl
  left-placed {rest} p (members-at {n = n} {v = v} {ms = ms} t u g) e = (p, n, v, ms, (rest, members-at t u g), e, refl)

  pub placed_first : (p : ℕ) (m : Member) → FirstMember s p m → (v : Json) → Stands s p v → Placed s k m (bind (members v) (place_from (p + 1) k))
  unfolding bind
  placed_first p m w v h = go (members v) (w.means v h)
    where
      go : (o : Option Members) → MembersOf s h.rest m o → Placed s k m (bind o (place_from (p + 1) k))
      go None e = rw e refl
      go (Some ms) l = left-placed (p + 1) l w.place

  module _ (m : Member) (o : Option ℕ) (w : Placed s k m o) where
    pub placed_end : (e : ℕ) → m ≡ End e → None ≡ o
    placed_end e q = sym (rw q at w)

    module _ (i j : ℕ) (q : m ≡ At i j) where
      here : Placed s k (At i j) o
      here = rw q at w

      begins : j ≡ here.0 + length (put_str here.1 []) + 1
      begins = value-place s here.0 i j here.1 here.2 here.3 here.4.1 here.5

      ends : ℕ
      ends = here.0 + length (put_str here.1 []) + 1 + length (put here.2 []) + 1

      place_is : o ≡ cond (same (raw (drop i s)) k) (Some (here.0 + length (put_str here.1 []) + 1)) (place_from ends k here.3)
      unfolding place_from ends
      place_is = here.6 ∙ ap (λ (n : Bytes). cond (same n k) (Some (here.0 + length (put_str here.1 []) + 1)) (place_from ends k here.3)) (sym (member-name here.4.1))

      pub placed-here : true ≡ same (raw (drop i s)) k → Some j ≡ o
      placed-here e = sym (place_is ∙ rw (sym e) (ap Some (sym begins)))

      pub placed-next : false ≡ same (raw (drop i s)) k → (x : Member) → NextMember s j x → Placed s k x o
      unfolding ends
      placed-next e x n =
          let r : o ≡ place_from ends k here.3 = place_is ∙ rw (sym e) refl in
          let h = member-stands here.4.1 in
          let z : length s - length h.rest + 1 ≡ ends = omega (arith, value-length s j here.2 h, begins) in
          rw r (left-placed ends (n.means i here.1 here.2 here.3 here.4.1) (later x (length s - length h.rest + 1) ends z (n.place here.2 h)))
        where
          later : (x : Member) (a b : ℕ) → a ≡ b → NameAt x (a + 1) → NameAt x (b + 1)
          later x a b e t = rw e at t
