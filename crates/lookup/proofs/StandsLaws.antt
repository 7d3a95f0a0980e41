-- A value that stands at a place: it lies in the text, and where it ends.
use mathlib.Core.Path.{◌≡◌, refl, sym, ap, ◌∙◌}
use mathlib.Core.List.{[], ◌∷◌, ◌++◌}
use Rattle.std.specs.declared.option.Option.{Option}
use mathlib.Core.Bool.{Bool, true, false}
use Prim.Native.Nat.{ℕ, ◌≤◌, ◌<◌, ◌+◌, ◌-◌}
use native.Mathlib.Omega.{arith}
use lib.Dec.{leb}
use lib.ListN.{length, take, drop, get_or, length-append, length-drop}
use lib.Seq.{drop-drop, take_at, drop_at}
use borrow.Author.Tests.{leb-true, leb-false}
use Rattle.base.specs.Bytes.{Bytes}
use Rattle.base.proofs.PlaceLaws.{at-cons, at-end}
use Rattle.canonical_json.specs.Json.{Json, put, Canonical, max_depth}
use Rattle.std.specs.declared.option.Option.TheVariants.{None, Some}
use Rattle.canonical_json.specs.Read.{got, read}
use Rattle.canonical_json.proofs.Slices.{put-split}
use Rattle.canonical_json.proofs.Complete.{complete}
use Rattle.lookup.specs.Place.{Stands, Takes, PlaceAfter, EndsAt, KnownEnd, FoundEnd}
use Rattle.lookup.proofs.FirstByte.{Begins, begins}

-- where a text goes on with a byte, it does
pub there : (s : Bytes) (i x : ℕ) (t : Bytes) → drop i s ≡ x ∷ t → (i < length s) × (get_or s i 0 ≡ x) × (drop (i + 1) s ≡ t)
there s i x t e = go (leb (length s) i) refl
  where
    go : (b : Bool) → leb (length s) i ≡ b → (i < length s) × (get_or s i 0 ≡ x) × (drop (i + 1) s ≡ t)
    go true l =
        let k : x ∷ t ≡ [] = sym e ∙ at-end s i (leb-true (length s) i l) in
        let z : ◌≡◌ {A = ℕ} 0 1 = cc in absurd (omega arith)
    go false l =
        let h : i < length s = leb-false (length s) i l in
        let k : get_or s i 0 ∷ drop (i + 1) s ≡ x ∷ t = sym (at-cons s i h) ∙ e in
        (h, cc, cc)

-- a place that was found
pub place_after : (s : Bytes) (p : ℕ) (r : Option ℕ) → PlaceAfter s p r → (x : ℕ) → r ≡ Some x → (p < x) × (x ≤ length s)
place_after s p r a x q = rw q at a

-- the value of a canonical text stands at its beginning, and nothing follows
pub whole : (s : Bytes) → Canonical max_depth s → (v : Json) × (here : Stands s 0 v) × (here.rest ≡ [])
whole s c = (c.0, record { rest = []; text = c.2; free = tt; valid = c.1 }, refl)

module _ (s : Bytes) (p : ℕ) (v : Json) (h : Stands s p v) where
  pub front : Begins v (drop p s)
  front = begins v max_depth h.rest (drop p s) h.valid h.text

  pub inside : p < length s
  inside = (there s p front.first front.others front.is).0

  split : drop p s ≡ put v [] ++ h.rest
  split = h.text ∙ put-split v h.rest

  ends : length s - length h.rest ≡ p + length (put v [])
  ends =
      let l : length s - p ≡ length (put v []) + length h.rest = sym (length-drop p s) ∙ ap length split ∙ length-append (put v []) h.rest in
      let i = inside in
      omega arith

  -- the rest begins where the value ends
  pub rest_at : drop (length s - length h.rest) s ≡ h.rest
  rest_at =
      let a = put v [] in
      ap (λ (n : ℕ). drop n s) ends ∙ sym (drop-drop (length a) p s) ∙ ap (λ (t : Bytes). drop (length a) t) split ∙ drop_at a h.rest (length a) refl

  -- what stands from its place to its end is its text
  pub text-to : (e : ℕ) → e ≡ length s - length h.rest → take (e - p) (drop p s) ≡ put v []
  text-to e q =
      let a = put v [] in
      let n = ends in
      let m : e - p ≡ length a = omega arith in
      rw (m, split) (take_at a h.rest (length a) refl)

  module _ {r : Option ℕ} (w : EndsAt s p r) where
    pub end-found : r ≡ None → ⊥
    end-found q =
        let k : None ≡ Some (length s - length h.rest) = sym q ∙ w.means v h in
        let z : ◌≡◌ {A = ℕ} 0 1 = cc in omega arith

    pub end_is : (e : ℕ) → r ≡ Some e → e ≡ length s - length h.rest
    end_is e q = let k : Some e ≡ Some (length s - length h.rest) = sym q ∙ w.means v h in cc

-- ## Ends that may be known

-- an end that was looked for is known
pub ended : (s : Bytes) (p : ℕ) (r : Option ℕ) → EndsAt s p r → KnownEnd s p r
ended s p None w = tt
ended s p (Some e) w = w

-- where nothing is known
pub known-none : (s : Bytes) (p : ℕ) (f : Option ℕ) → f ≡ None → KnownEnd s p f
known-none s p f e = rw e tt

-- a value that was found, by its place
pub end_of-found : (s : Bytes) (found end : Option ℕ) (x : ℕ) → found ≡ Some x → KnownEnd s x end → FoundEnd s found end
end_of-found s found end x q k = rw q k

pub end_of-none : (s : Bytes) (found end : Option ℕ) → found ≡ None → FoundEnd s found end
end_of-none s found end q = rw q tt

-- ## One value only stands at a place: the one that is read there

module _ (s : Bytes) (p : ℕ) (w : Json) (q : Bytes) (k : read max_depth (drop p s) ≡ got w q) where
  same-value : (v : Json) (h : Stands s p v) → (v ≡ w) × (h.rest ≡ q)
  same-value v h =
      let e : got v h.rest ≡ got w q = sym (complete v max_depth h.rest h.valid h.free) ∙ ap (read max_depth) (sym h.text) ∙ k in
      (cc, cc)

  -- what a form says of it
  pub takes_of : {A : Type 0} (f : Json → Option A) (o : Option A) → o ≡ f w → Takes s p f o
  takes_of f o e v h = e ∙ ap f (sym (same-value v h).0)

  -- where it ends
  pub ends_of : (e : ℕ) → drop e s ≡ q → p < e → e ≤ length s → EndsAt s p (Some e)
  ends_of e t a b = record {
    means = λ v h. let l : length (drop e s) ≡ length h.rest = ap length (t ∙ sym (same-value v h).1) in let d = length-drop e s in ap Some (omega arith);
    onward = (a, b);
  }
