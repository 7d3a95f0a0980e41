-- The calendar's sums in closed form, and its definitions by cases.
use Prim.Native.Nat.{ℕ, zero, suc, ◌+◌, ◌-◌, ◌*◌, ◌/◌, ◌%◌, ◌≤◌, ◌<◌}
use mathlib.Core.Path.{◌≡◌, refl, ◌∙◌, ap}
use mathlib.Core.Bool.{Bool, true, false, cond, not, ◌&&◌, ◌||◌, false≢true, and-false}
use mathlib.Core.Logic.{◌⊎◌, inl, inr}
use Rattle.std.specs.declared.option.Option.TheVariants.{None, Some}
use native.Mathlib.Omega.{arith}
use borrow.Author.Tests.{eqb-true, lt-leb, le-leb, eq-eqb, ne_eqb}
use lib.Dec.{eqb}
use Rattle.base.specs.Bytes.{Bytes}
use Rattle.date.specs.Calendar.{is_leap, month_days, years_before, first_months, day_number, second_number, epoch, has_form, form, two_digits, civil_time, time_of, date_of}
use Rattle.date.specs.Parts.{Civil}
use Rattle.date.proofs.Quotients.{rounded_up}

-- ## Months

pub february : (b : Bool) → 28 + cond b 1 0 ≡ cond b 29 28
february true = refl
february false = refl

pub one-most : (n : ℕ) (b : Bool) → n ≡ cond b 1 0 → n ≤ 1
one-most n true e = omega arith
one-most n false e = omega arith

pub thirty : (y m : ℕ) → ((m ≡ 4) ⊎ ((m ≡ 6) ⊎ ((m ≡ 9) ⊎ (m ≡ 11)))) → 30 ≡ month_days y m
thirty y m (inl e) = rw e
thirty y m (inr (inl e)) = rw e
thirty y m (inr (inr (inl e))) = rw e
thirty y m (inr (inr (inr e))) = rw e

pub thirty-one : (y m : ℕ) → (m ≡ 2 → ⊥) → ((m ≡ 4) ⊎ ((m ≡ 6) ⊎ ((m ≡ 9) ⊎ (m ≡ 11))) → ⊥) → 31 ≡ month_days y m
thirty-one y m h k =
    simp (
      ne_eqb m 2 h,
      ne_eqb m 4 (λ e. k (inl e)),
      ne_eqb m 6 (λ e. k (inr (inl e))),
      ne_eqb m 9 (λ e. k (inr (inr (inl e)))),
      ne_eqb m 11 (λ e. k (inr (inr (inr e)))),
    )

pub month-most : (y m : ℕ) → month_days y m ≤ 31
month-most y m = most (eqb m 2) (is_leap y) (eqb m 4 || eqb m 6 || eqb m 9 || eqb m 11)
  where
    most : (a b c : Bool) → cond a (cond b 29 28) (cond c 30 31) ≤ 31
    most true true c = omega arith
    most true false c = omega arith
    most false b true = omega arith
    most false b false = omega arith

pub months-next : (y k : ℕ) → 1 ≤ k → first_months y k ≡ first_months y (k - 1) + month_days y k
unfolding first_months
months-next y zero h = absurd (omega arith)
months-next y (suc k) h = let e : suc k - 1 ≡ k = omega arith in rw e

-- ## Years

four : (y : ℕ) → eqb (y % 100) 0 ≡ true → eqb (y % 4) 0 ≡ true
four y e = eq-eqb (y % 4) 0 (omega (arith, eqb-true (y % 100) 0 e))

hundred : (y : ℕ) → eqb (y % 400) 0 ≡ true → eqb (y % 100) 0 ≡ true
hundred y e = eq-eqb (y % 100) 0 (omega (arith, eqb-true (y % 400) 0 e))

-- a year more, by which of its three remainders are 0
year_step : (Y x p₀ q₀ r₀ p q r : ℕ) (a b c : Bool) → (b ≡ true → a ≡ true) → (c ≡ true → b ≡ true)
    → p ≡ p₀ + cond a 1 0 → q ≡ q₀ + cond b 1 0 → r ≡ r₀ + cond c 1 0
    → Y + q₀ ≡ x + p₀ + r₀ → Y + cond (a && not b || c) 366 365 + q ≡ x + 365 + p + r
year_step Y x p₀ q₀ r₀ p q r true true true h k e f g z = omega arith
year_step Y x p₀ q₀ r₀ p q r true true false h k e f g z = omega arith
year_step Y x p₀ q₀ r₀ p q r true false true h k e f g z = absurd (false≢true (k refl))
year_step Y x p₀ q₀ r₀ p q r true false false h k e f g z = omega arith
year_step Y x p₀ q₀ r₀ p q r false true c h k e f g z = absurd (false≢true (h refl))
year_step Y x p₀ q₀ r₀ p q r false false true h k e f g z = absurd (false≢true (k refl))
year_step Y x p₀ q₀ r₀ p q r false false false h k e f g z = omega arith

-- the sum over the years: 365 for each, and one for each multiple of 4 but those of 100 that are none of 400
pub years-closed : (y : ℕ) → years_before y + (y + 99) / 100 ≡ 365 * y + (y + 3) / 4 + (y + 399) / 400
unfolding years_before
years-closed zero = refl
years-closed (suc y) =
    year_step (years_before y) (365 * y) ((y + 3) / 4) ((y + 99) / 100) ((y + 399) / 400) ((suc y + 3) / 4) ((suc y + 99) / 100) ((suc y + 399) / 400)
    (eqb (y % 4) 0) (eqb (y % 100) 0) (eqb (y % 400) 0) (four y) (hundred y) (rounded_up 4 (omega arith) y _ refl)
    (rounded_up 100 (omega arith) y _ refl) (rounded_up 400 (omega arith) y _ refl) (years-closed y)
    ∙ ap (λ (n : ℕ). n + (suc y + 3) / 4 + (suc y + 399) / 400) (omega arith)

pub epoch-days : years_before 1970 ≡ 719528
unfolding years_before
epoch-days = refl

pub epoch-seconds : epoch ≡ 62167219200
unfolding epoch second_number day_number years_before first_months
epoch-seconds = refl

-- ## The numbers of a date, by cases

module _ (y m d h mi s : ℕ) where
  pub out-of-months : (m < 1) ⊎ (12 < m) → None ≡ civil_time y m d h mi s
  unfolding civil_time
  out-of-months (inl p) = simp (lt-leb _ _ p)
  out-of-months (inr p) = simp (lt-leb _ _ p, and-false)

  pub out-of-days : (d < 1) ⊎ (month_days y m < d) → None ≡ civil_time y m d h mi s
  unfolding civil_time
  out-of-days (inl p) = simp (lt-leb _ _ p, and-false)
  out-of-days (inr p) = simp (lt-leb _ _ p, and-false)

  pub past-hours : 23 < h → None ≡ civil_time y m d h mi s
  unfolding civil_time
  past-hours p = simp (lt-leb _ _ p, and-false)

  pub past-minutes : 59 < mi → None ≡ civil_time y m d h mi s
  unfolding civil_time
  past-minutes p = simp (lt-leb _ _ p, and-false)

  pub past-seconds : 59 < s → None ≡ civil_time y m d h mi s
  unfolding civil_time
  past-seconds p = simp (lt-leb _ _ p, and-false)

  pub civil : Civil y m d h mi s → d ≤ month_days y m → Some (time_of y m d h mi s) ≡ civil_time y m d h mi s
  unfolding civil_time
  civil c p =
      simp (
        le-leb _ _ c.first_month,
        le-leb _ _ c.months,
        le-leb _ _ c.first_day,
        le-leb _ _ p,
        le-leb _ _ c.hours,
        le-leb _ _ c.minutes,
        le-leb _ _ c.seconds,
      )

-- ## A date's text, by cases

module _ (s : Bytes) where
  pub no-form : has_form form s ≡ false → None ≡ date_of s
  unfolding date_of
  no-form h = rw h

  pub date-form : has_form form s ≡ true
      → civil_time (two_digits s 0 * 100 + two_digits s 2) (two_digits s 5) (two_digits s 8) (two_digits s 11) (two_digits s 14) (two_digits s 17) ≡ date_of s
  unfolding date_of
  date-form h = rw h
