-- The bits of a number, and of what `|`, `&` and `<<` make.
use Prim.Native.Nat.{ℕ, zero, suc, ◌+◌, ◌*◌, ◌/◌, ◌%◌, ◌^◌, ◌<◌}
use mathlib.Core.Path.{◌≡◌, refl, sym, ap, ◌∙◌}
use mathlib.Core.Bool.{false, cond, ◌&&◌, ◌||◌}
use native.Mathlib.Omega.{arith}
use native.Mathlib.Nat.{div-one, zero-div}
use native.Mathlib.Numerals.{one-add}
use lib.Dec.{eqb, eqb-zero-suc, eqb-suc-zero, eqb-suc-suc}
use lib.Bits.{bit_and, bit_or, or_shr, or_mod, and_shr, and_mod, shifted_half, shifted_even}
use lib.Count.{ones, ones_step}
use lib.Pow.{shr-shr, shl_exact}
use Rattle.records.specs.View.{has}

-- what holds of 0 and of 1 holds of a bit
bit : (P : ℕ → Type 0) (x : ℕ) → P 0 → P 1 → P (x % 2)
bit P x p q = at (x % 2) (omega arith)
  where
    at : (y : ℕ) → y < 2 → P y
    at zero h = p
    at (suc zero) h = q
    at (suc (suc y)) h = absurd (omega arith)

bits : (P : ℕ → ℕ → Type 0) (x y : ℕ) → P 0 0 → P 0 1 → P 1 0 → P 1 1 → P (x % 2) (y % 2)
bits P x y a b c d = bit (λ u. P u (y % 2)) x (bit (P 0) y a b) (bit (P 1) y c d)

-- ## The lowest bit, and the others

pub has-low : (x : ℕ) → has x 0 ≡ eqb (x % 2) 1
unfolding has
has-low x = rw div-one

pub has-next : (x k : ℕ) → has x (suc k) ≡ has (x / 2) k
unfolding has
has-next x k = ap (λ (y : ℕ). eqb (y % 2) 1) (ap (λ (e : ℕ). x / 2 ^ e) (sym (one-add k)) ∙ sym (shr-shr x 1 k))

pub has-zero : (k : ℕ) → has 0 k ≡ false
unfolding has
has-zero k = rw zero-div

-- the count of ones, by the lowest bit
pub ones_low : (x : ℕ) → ones x ≡ cond (has x 0) 1 0 + ones (x / 2)
ones_low x = rw (ones_step x, has-low x, ← bit (λ y. y ≡ cond (eqb y 1) 1 0) x refl refl)

-- ## Operations

pub has-or : (a b k : ℕ) → has (bit_or a b) k ≡ has a k || has b k
unfolding has
has-or a b k = rw (or_shr a b k, or_mod (a / 2 ^ k) (b / 2 ^ k) 1) (bits (λ x y. eqb (bit_or x y) 1 ≡ eqb x 1 || eqb y 1) (a / 2 ^ k) (b / 2 ^ k) refl refl refl refl)

pub has-and : (a b k : ℕ) → has (bit_and a b) k ≡ has a k && has b k
unfolding has
has-and a b k = rw (and_shr a b k, and_mod (a / 2 ^ k) (b / 2 ^ k) 1) (bits (λ x y. eqb (bit_and x y) 1 ≡ eqb x 1 && eqb y 1) (a / 2 ^ k) (b / 2 ^ k) refl refl refl refl)

one_bit : (j k : ℕ) → has (1 * 2 ^ j) k ≡ eqb j k
one_bit zero zero = has-low 1
one_bit zero (suc k) = has-next 1 k ∙ has-zero k ∙ sym (eqb-zero-suc k)
one_bit (suc j) zero = has-low (1 * 2 ^ suc j) ∙ rw (shifted_even 1 j, eqb-suc-zero j)
one_bit (suc j) (suc k) = has-next (1 * 2 ^ suc j) k ∙ rw (shifted_half 1 j, eqb-suc-suc j k) (one_bit j k)

-- a single bit of sixteen
pub has_shifted : (j k : ℕ) → j < 16 → has (1 * 2 ^ j % 65536) k ≡ eqb j k
has_shifted j k h = rw (shl_exact {a = 1} 1 j 16 (omega arith) (omega arith)) (one_bit j k)
