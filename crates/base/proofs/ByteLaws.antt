-- Equality of byte strings: as a test, and of a part that begins at a place.
use mathlib.Core.Path.{◌≡◌, refl, sym, ap, ◌∙◌}
use mathlib.Core.List.{[], ◌∷◌, ◌++◌}
use mathlib.Core.Bool.{Bool, true, false, ◌&&◌, and-false}
use Rattle.std.specs.Str.{bytes_eq}
use Prim.Native.Nat.{ℕ, suc, ◌≤◌, ◌<◌, ◌+◌, ◌-◌}
use native.Mathlib.Omega.{arith}
use lib.Dec.{eqb, leb}
use lib.ListN.{length, take, drop, length-take, length-drop, take-append-drop}
use lib.Seq.{drop-drop}
use borrow.Author.Tests.{eq-eqb, ne_eqb, eqb-true, le-leb, lt-leb, leb-true}
use Rattle.base.specs.Bytes.{Bytes, same, is_digit}
use Rattle.base.proofs.TestLaws.{never, both, same_test}

pub same_self : (a : Bytes) → same a a ≡ true
unfolding same
same_self [] = refl
same_self (x ∷ a) = rw (eq-eqb x x refl) (same_self a)

pub same_true : (a b : Bytes) → same a b ≡ true → a ≡ b
unfolding same
same_true [] [] e = refl
same_true [] (y ∷ b) e = never (sym e)
same_true (x ∷ a) [] e = never (sym e)
same_true (x ∷ a) (y ∷ b) e =
    let w = both (eqb x y) (same a b) e in
    ap (λ (n : ℕ). n ∷ a) (eqb-true x y w.0) ∙ ap (λ (t : Bytes). y ∷ t) (same_true a b w.1)

pub same-sym : (a b : Bytes) → same a b ≡ same b a
same-sym a b =
    same_test (same a b) (same b a) (λ e. rw (same_true a b e) (same_self b)) (λ e. rw (same_true b a e) (same_self a))

-- byte strings of different lengths differ
pub same-lengths : (a b : Bytes) → (length a ≡ length b → ⊥) → same a b ≡ false
unfolding same
same-lengths [] [] h = absurd (h refl)
same-lengths [] (y ∷ b) h = refl
same-lengths (x ∷ a) [] h = refl
same-lengths (x ∷ a) (y ∷ b) h = rw (same-lengths a b (λ e. h (ap suc e)), and-false)

-- as the library compares byte strings
pub same-compared : (a b : Bytes) → bytes_eq a b ≡ same a b
unfolding same
same-compared [] [] = refl
same-compared [] (y ∷ b) = refl
same-compared (x ∷ a) [] = refl
same-compared (x ∷ a) (y ∷ b) = ap (λ (t : Bool). eqb x y && t) (same-compared a b)

-- ## The bytes w, and what stands at `at`

-- as the library tests how a rest begins
pub stood : (s w rest : Bytes) (at : ℕ) → rest ≡ drop at s → bytes_eq w (take (length w) rest) ≡ same (take (length w) (drop at s)) w
stood s w rest at e = rw e (same-compared w (take (length w) (drop at s)) ∙ same-sym w (take (length w) (drop at s)))

-- fewer bytes are left
pub stood-short : (s w : Bytes) (at : ℕ) → length s - at < length w → same (take (length w) (drop at s)) w ≡ false
stood-short s w at h = same-lengths _ _ (λ e. let l = length-drop at s in let k = length-take (length w) (drop at s) in omega arith)

-- none are left
pub stood_none : (s w : Bytes) (at : ℕ) → length s ≤ at → same (take (length w) (drop at s)) w ≡ eqb (length w) 0
unfolding same
stood_none s [] at h = refl
stood_none s (x ∷ w) at h = stood-short s (x ∷ w) at (omega arith) ∙ sym (ne_eqb (suc (length w)) 0 (λ e. omega arith))

-- all of them are the same: w, and what follows it
pub stood_text : (s w : Bytes) (at : ℕ) → same (take (length w) (drop at s)) w ≡ true → drop at s ≡ w ++ drop (at + length w) s
stood_text s w at e =
    sym (take-append-drop (length w) (drop at s)) ∙ ap (λ (x : Bytes). x ++ drop (length w) (drop at s)) (same_true _ _ e) ∙ ap (λ (x : Bytes). w ++ x) (drop-drop (length w) at s)

pub stood_within : (s w : Bytes) (at : ℕ) → same (take (length w) (drop at s)) w ≡ true → 0 < length w → at + length w ≤ length s
stood_within s w at e n =
    let l : length (take (length w) (drop at s)) ≡ length w = ap length (same_true _ _ e) in
    let d = length-drop at s in
    let k = length-take (length w) (drop at s) in
    omega arith

-- ## Digits

pub digit : (b : ℕ) → 48 ≤ b → b ≤ 57 → is_digit b ≡ true
digit b h k = rw (le-leb 48 b h, le-leb b 57 k)

pub digit_low : (b : ℕ) → b < 48 → is_digit b ≡ false
digit_low b h = rw (lt-leb 48 b h)

pub digit-high : (b : ℕ) → 57 < b → is_digit b ≡ false
digit-high b h = rw (lt-leb b 57 h, and-false)

pub digit_range : (b : ℕ) → is_digit b ≡ true → (48 ≤ b) × (b ≤ 57)
digit_range b e = let w = both (leb 48 b) (leb b 57) e in (leb-true 48 b w.0, leb-true b 57 w.1)
