-- Digits one after the other, with n before those at a place; times from the numbers that were read.
use Rattle.std.proofs.Common.{◌≡◌, refl, ◌∙◌, ℕ, ◌+◌, ◌-◌, ◌*◌, ◌≤◌, ◌<◌, true, false, [], ◌∷◌, length, drop, get_or, arith, ℤ, pos, ◌-ℤ◌, Some, None}
use Rattle.std.specs.Option.{option_map}
use Rattle.std.proofs.lemmas.Int.{ints}
use mathlib.Core.Bool.{and-false}
use mir.Syntax.{w64}
use mir.Val.{SFits, to_z, of_z}
use mir.Facts.{to_z-of_z, to_z_pos}
use borrow.Author.Tests.{le-leb, lt-leb, eq-eqb, ne_eqb}
use Rattle.base.specs.Bytes.{Bytes, is_digit}
use Rattle.base.proofs.PlaceLaws.{at-cons, at-end}
use Rattle.script.specs.Numbers.{digits, number, time, below}

module _ (most : ℕ) (s : Bytes) (i n : ℕ) where
  pub digits-spent : length s ≤ i → digits most n (drop i s) ≡ Some n
  unfolding digits
  digits-spent h = rw (at-end s i h)

  pub digits-other : i < length s → is_digit (get_or s i 0) ≡ false → digits most n (drop i s) ≡ None
  unfolding digits
  digits-other h f = rw (at-cons s i h) (simp f)

  pub digits-over : i < length s → most < n * 10 + (get_or s i 0 - 48) → digits most n (drop i s) ≡ None
  unfolding digits
  digits-over h f = rw (at-cons s i h, lt-leb (n * 10 + (get_or s i 0 - 48)) most f, and-false)

  pub digits-next :
      (m : ℕ) → i < length s → is_digit (get_or s i 0) ≡ true → m ≡ n * 10 + (get_or s i 0 - 48) → m ≤ most →
      digits most n (drop i s) ≡ digits most m (drop (i + 1) s)
  unfolding digits
  digits-next m h f e l = rw e (rw (at-cons s i h) (simp (f, le-leb (n * 10 + (get_or s i 0 - 48)) most (rw e at l))))

pub ruleset digit_turns = (digits-spent, digits-other, digits-over, digits-next)

pub number-none : (most : ℕ) (s : Bytes) → length s ≡ 0 → number most s ≡ None
unfolding number
number-none most [] e = refl
number-none most (b ∷ s) e = absurd (omega arith)

pub number_digits : (most : ℕ) (s : Bytes) → 0 < length s → number most s ≡ digits most 0 s
unfolding number
number_digits most [] h = absurd (omega arith)
number_digits most (b ∷ s) h = refl

-- ## Times

pub time-below : (s : Bytes) → 0 < length s → get_or s 0 0 ≡ 45 → time s ≡ option_map below (number 9223372036854775808 (drop 1 s))
unfolding time
time-below [] h e = absurd (omega arith)
time-below (b ∷ s) h e = rw (eq-eqb b 45 e)

pub time-since : (s : Bytes) → (0 < length s → get_or s 0 0 ≡ 45 → ⊥) → time s ≡ option_map pos (number 9223372036854775807 s)
unfolding time number
time-since [] f = refl
time-since (b ∷ s) f = rw (ne_eqb b 45 (f (omega arith)))

none_less : (n : ℕ) → pos 0 -ℤ pos n ≡ below n
unfolding below
none_less n = omega (arith, ints)

-- what was computed, read back from its bits
pub before_is : (n : ℕ) (z : ℤ) → SFits w64 (pos 0 -ℤ pos n) → z ≡ pos 0 -ℤ pos n → to_z w64 (of_z w64 z) ≡ below n
before_is n z h e = rw e (to_z-of_z {w = w64} h ∙ none_less n)

pub since_is : (n : ℕ) → n ≤ 9223372036854775807 → to_z w64 n ≡ pos n
since_is n h = to_z_pos w64 {n = n} (omega arith)
