-- Integers as differences of natural numbers: each operation on differences gives a difference, so that an equation or a bound of
-- integers becomes one of natural numbers, which `omega` proves.
use Prim.Native.Nat.{ℕ, zero, suc, ◌+◌, ◌-◌, ◌*◌, ◌/◌, ◌≤◌, ◌<◌, ◌^◌}
use mathlib.Core.Path.{◌≡◌, refl, sym, ◌∙◌, ap}
use mathlib.Core.Bool.{Bool, true, false, true≢false}
use native.Mathlib.Omega.{arith}
use native.Mathlib.Nat.{add-mul, mul-add-div_right, div-le_self, lt_of_le_of_lt}
use borrow.Author.Tests.{ltb-true, ltb-false, lt-ltb, le-ltb, le-leb}
use lib.Dec.{ltb}
use lib.IntN.{ℤ, pos, negsuc, neg_ℤ, sub_ℕ, ◌+ℤ◌, ◌-ℤ◌, ◌*ℤ◌}
use lib.Signed.{mag, lt_z, le_z}
use mir.Syntax.{w64}
use mir.Val.{SFits, to_z, of_z}
use mir.Facts.{to_z-of_z, to_z_pos}
use Rattle.date.specs.Parts.{floor_div}
use Rattle.date.proofs.Quotients.{complement}

-- ## Differences

is_pos : (x y n : ℕ) → x ≡ y + n → sub_ℕ x y ≡ pos n
is_pos x y n e = let h : x - y ≡ n = omega arith in rw (le-ltb x y (omega arith), h)

is_neg : (x y n : ℕ) → y ≡ x + suc n → sub_ℕ x y ≡ negsuc n
is_neg x y n e = let h : y - suc x ≡ n = omega arith in rw (lt-ltb x y (omega arith), h)

-- a difference is a natural number or below zero
data Sign (x y : ℕ) : Type 0 where
  above : (n : ℕ) → x ≡ y + n → Sign x y
  below : (n : ℕ) → y ≡ x + suc n → Sign x y

sign : (x y : ℕ) → Sign x y
sign x y = by (ltb x y) refl
  where
    by : (t : Bool) → ltb x y ≡ t → Sign x y
    by true e = below (y - suc x) (omega (arith, ltb-true x y e))
    by false e = above (x - y) (omega (arith, ltb-false x y e))

pub sub_eq : (x y u v : ℕ) → x + v ≡ u + y → sub_ℕ x y ≡ sub_ℕ u v
sub_eq x y u v e = by (sign x y)
  where
    by : Sign x y → sub_ℕ x y ≡ sub_ℕ u v
    by (above n h) = is_pos x y n h ∙ sym (is_pos u v n (omega arith))
    by (below n h) = is_neg x y n h ∙ sym (is_neg u v n (omega arith))

pub pos-sub : (n : ℕ) → pos n ≡ sub_ℕ n 0
pos-sub n = sym (is_pos n 0 n (omega arith))

neg_sub : (x y : ℕ) → neg_ℤ (sub_ℕ x y) ≡ sub_ℕ y x
neg_sub x y = by (sign x y)
  where
    by : Sign x y → neg_ℤ (sub_ℕ x y) ≡ sub_ℕ y x
    by (above zero h) = ap neg_ℤ (is_pos x y 0 h) ∙ sym (is_pos y x 0 (omega arith))
    by (above (suc n) h) = ap neg_ℤ (is_pos x y (suc n) h) ∙ sym (is_neg y x n (omega arith))
    by (below n h) = ap neg_ℤ (is_neg x y n h) ∙ sym (is_pos y x (suc n) (omega arith))

sub-plus : (x y u v : ℕ) → sub_ℕ x y +ℤ sub_ℕ u v ≡ sub_ℕ (x + u) (y + v)
sub-plus x y u v = by (sign x y) (sign u v)
  where
    by : Sign x y → Sign u v → sub_ℕ x y +ℤ sub_ℕ u v ≡ sub_ℕ (x + u) (y + v)
    by (above n h) (above k l) = rw (is_pos x y n h, is_pos u v k l) (sym (is_pos (x + u) (y + v) (n + k) (omega arith)))
    by (above n h) (below k l) = rw (is_pos x y n h, is_neg u v k l) (sub_eq n (suc k) (x + u) (y + v) (omega arith))
    by (below n h) (above k l) = rw (is_neg x y n h, is_pos u v k l) (sub_eq k (suc n) (x + u) (y + v) (omega arith))
    by (below n h) (below k l) = rw (is_neg x y n h, is_neg u v k l) (sym (is_neg (x + u) (y + v) (suc (n + k)) (omega arith)))

sub-minus : (x y u v : ℕ) → sub_ℕ x y -ℤ sub_ℕ u v ≡ sub_ℕ (x + v) (y + u)
sub-minus x y u v = rw (neg_sub u v) (sub-plus x y v u)

sub-times : (x y k : ℕ) → sub_ℕ x y *ℤ pos k ≡ sub_ℕ (x * k) (y * k)
sub-times x y k = by (sign x y)
  where
    by : Sign x y → sub_ℕ x y *ℤ pos k ≡ sub_ℕ (x * k) (y * k)
    by (above n h) = rw (is_pos x y n h) (sym (is_pos (x * k) (y * k) (n * k) (ap (λ (t : ℕ). t * k) h ∙ add-mul y n k)))
    by (below n h) =
        let e : y * k ≡ x * k + suc n * k = ap (λ (t : ℕ). t * k) h ∙ add-mul x (suc n) k in
        rw (is_neg x y n h) (ap neg_ℤ (pos-sub (suc n * k)) ∙ neg_sub (suc n * k) 0 ∙ sub_eq 0 (suc n * k) (x * k) (y * k) (omega arith))

-- a quotient rounded down takes a multiple out
sub-floor : (m x k : ℕ) → 0 < m → floor_div (sub_ℕ x (k * m)) m ≡ sub_ℕ (x / m) k
sub-floor m x k p = by (sign x (k * m))
  where
    by : Sign x (k * m) → floor_div (sub_ℕ x (k * m)) m ≡ sub_ℕ (x / m) k
    by (above n h) =
        rw (is_pos x (k * m) n h) (sym (is_pos (x / m) k (n / m) (ap (λ (t : ℕ). t / m) h ∙ mul-add-div_right p k n)))
    by (below n h) = rw (is_neg x (k * m) n h) (sym (is_neg (x / m) k (n / m) (complement m p x n k h)))

pub sub_le_z : (x u y : ℕ) → x ≤ u → le_z (sub_ℕ x y) (sub_ℕ u y) ≡ true
sub_le_z x u y l = by (sign x y) (sign u y)
  where
    by : Sign x y → Sign u y → le_z (sub_ℕ x y) (sub_ℕ u y) ≡ true
    by (above n h) (above k t) = rw (is_pos x y n h, is_pos u y k t) (le-leb n k (omega arith))
    by (above n h) (below k t) = absurd (omega arith)
    by (below n h) (above k t) = rw (is_neg x y n h, is_pos u y k t)
    by (below n h) (below k t) = rw (is_neg x y n h, is_neg u y k t) (le-leb k n (omega arith))

-- ## A number below zero, and one that is not

below-zero : (n : ℕ) → ltb n 0 ≡ true → ⊥
below-zero n e = omega (arith, ltb-true n 0 e)

-- below zero, -1 - a is the magnitude
pub neg_one : (a : ℤ) → lt_z a (pos 0) ≡ true → negsuc 0 -ℤ a ≡ pos (mag a)
neg_one (pos n) e = absurd (below-zero n e)
neg_one (negsuc n) e = is_pos (suc n) 1 n (omega arith)

pub from_one : (q : ℕ) → negsuc 0 -ℤ pos q ≡ negsuc q
from_one zero = refl
from_one (suc q) = let e : 0 + q ≡ q = omega arith in rw e

pub not_neg : (a : ℤ) → lt_z a (pos 0) ≡ false → a ≡ pos (mag a)
not_neg (pos n) e = refl
not_neg (negsuc n) e = absurd (true≢false e)

-- ## Differences in an i64

-- a value read back from its bits
abbrev pub W : ℤ → ℤ
W z = to_z w64 (of_z w64 z)

-- z is x - y
pub record Is (z : ℤ) (x y : ℕ) : Type 0 where
  pub same : z ≡ sub_ℕ x y

-- z is x - y, both small enough for z to fit
pub record Fits (z : ℤ) (x y : ℕ) : Type 0 where
  pub same : z ≡ sub_ℕ x y
  pub small : x < 2 ^ 63
  pub small_too : y < 2 ^ 63

pub nat : (n : ℕ) → n < 2 ^ 63 → Is (to_z w64 n) n 0
nat n h = record { same = to_z_pos w64 {n = n} h ∙ pos-sub n }

pub literal : (n : ℕ) → Is (pos n) n 0
literal n = record { same = pos-sub n }

pub fits : {z : ℤ} {x y : ℕ} → Fits z x y → SFits w64 z
fits {z} {x} {y} d = rw d.same (by (sign x y))
  where
    by : Sign x y → SFits w64 (sub_ℕ x y)
    by (above n h) = rw (is_pos x y n h) (record { sfits = omega (arith, d.small) })
    by (below n h) = rw (is_neg x y n h) (record { sfits = omega (arith, d.small_too) })

pub bits : {z : ℤ} {x y : ℕ} → Fits z x y → Is (W z) x y
bits d = record { same = to_z-of_z {w = w64} (fits d) ∙ d.same }

-- the operations, each with the difference X - Y to write its result as
module _ {a b : ℤ} {x y u v : ℕ} (p : Is a x y) (q : Is b u v) (X Y : ℕ) where
  pub plus : x + u + Y ≡ X + (y + v) → X < 2 ^ 63 → Y < 2 ^ 63 → Fits (a +ℤ b) X Y
  plus e h k = record { same = rw (p.same, q.same) (sub-plus x y u v ∙ sub_eq (x + u) (y + v) X Y e); small = h; small_too = k }

  pub minus : x + v + Y ≡ X + (y + u) → X < 2 ^ 63 → Y < 2 ^ 63 → Fits (a -ℤ b) X Y
  minus e h k = record { same = rw (p.same, q.same) (sub-minus x y u v ∙ sub_eq (x + v) (y + u) X Y e); small = h; small_too = k }

pub times : {a : ℤ} {x y : ℕ} → Is a x y → (k : ℕ) → x * k < 2 ^ 63 → y * k < 2 ^ 63 → Fits (a *ℤ pos k) (x * k) (y * k)
times {a} {x} {y} p k h l = record { same = rw p.same (sub-times x y k); small = h; small_too = l }

pub floor : {a f : ℤ} {x : ℕ} (m k : ℕ) → 0 < m → Is a x (k * m) → f ≡ floor_div a m → x < 2 ^ 63 → k < 2 ^ 63 → Fits f (x / m) k
floor {a} {f} {x} m k h p e l t =
    record { same = e ∙ rw p.same (sub-floor m x k h); small = lt_of_le_of_lt (div-le_self x m) l; small_too = t }
