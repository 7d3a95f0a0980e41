-- The form of a date's text: as a test, one turn of a loop that compares, and the digits that it gives.
use mathlib.Core.Path.{◌≡◌, refl, sym, ◌∙◌, ap}
use mathlib.Core.List.{[], ◌∷◌}
use mathlib.Core.Bool.{Bool, true, false, ◌&&◌, and-false}
use Rattle.std.specs.List.{list_all, zip}
use Prim.Native.Nat.{ℕ, zero, suc, ◌≤◌, ◌<◌, ◌+◌}
use lib.ListN.{length, get_or}
use native.Mathlib.Omega.{arith}
use borrow.Author.Tests.{eq-eqb}
use Rattle.base.specs.Bytes.{Bytes, is_digit}
use Rattle.base.proofs.TestLaws.{never, both}
use Rattle.base.proofs.ByteLaws.{digit_range}
use Rattle.date.specs.Calendar.{fits, has_form, form}
use Rattle.date.specs.Parts.{DigitsAt}

-- ## A byte

pub fits-digit : (f b : ℕ) → f ≡ 48 → fits f b ≡ is_digit b
unfolding fits
fits-digit f b e = rw (eq-eqb f 48 e)

-- ## Lists of bytes

pub form_lengths : (fs s : Bytes) → (length fs ≡ length s → ⊥) → has_form fs s ≡ false
unfolding has_form
form_lengths [] [] h = absurd (h refl)
form_lengths [] (b ∷ s) h = refl
form_lengths (f ∷ fs) [] h = refl
form_lengths (f ∷ fs) (b ∷ s) h = rw (form_lengths fs s (λ e. h (ap suc e)), and-false)

pub form-length : (fs s : Bytes) → has_form fs s ≡ true → length fs ≡ length s
unfolding has_form
form-length [] [] h = refl
form-length [] (b ∷ s) h = never (sym h)
form-length (f ∷ fs) [] h = never (sym h)
form-length (f ∷ fs) (b ∷ s) h = ap suc (form-length fs s (both (fits f b) (has_form fs s) h).1)

-- as the pairs of bytes are tested
pub form-pairs : (fs s : Bytes) → length fs ≡ length s → list_all (λ (p : ℕ × ℕ). fits p.0 p.1) (zip fs s) ≡ has_form fs s
unfolding has_form
form-pairs [] [] h = refl
form-pairs [] (b ∷ s) h = absurd (omega arith)
form-pairs (f ∷ fs) [] h = absurd (omega arith)
form-pairs (f ∷ fs) (b ∷ s) h = ap (λ (t : Bool). fits f b && t) (form-pairs fs s (omega arith))

-- ## A digit stands wherever the form has a 0

record Digit (s : Bytes) (i : ℕ) : Type 0 where
  within : i < length s
  low : 48 ≤ get_or s i 0
  high : get_or s i 0 ≤ 57

digit-there : (fs s : Bytes) (i : ℕ) → has_form fs s ≡ true → get_or fs i 0 ≡ 48 → Digit s i
unfolding has_form
digit-there [] s i h e = absurd (omega arith)
digit-there (f ∷ fs) [] i h e = never (sym h)
digit-there (f ∷ fs) (b ∷ s) zero h e =
    let w = digit_range b (rw (fits-digit f b e) at (both (fits f b) (has_form fs s) h).0) in
    record { within = omega arith; low = w.0; high = w.1 }
digit-there (f ∷ fs) (b ∷ s) (suc i) h e =
    let w = digit-there fs s i (both (fits f b) (has_form fs s) h).1 e in
    record { within = omega (arith, w.within); low = w.low; high = w.high }

-- r is the answer of a test for the form that passed
pub digits-at : (s : Bytes) {r : Bool} → r ≡ has_form form s → r ≡ true → (i : ℕ) → get_or form i 0 ≡ 48 → get_or form (i + 1) 0 ≡ 48 → DigitsAt s i
digits-at s {r} h k i e e' =
    let w = sym h ∙ k in
    let a = digit-there form s i w e in
    let b = digit-there form s (i + 1) w e' in
    record { within = b.within; low = a.low; high = a.high; low-next = b.low; high-next = b.high }
