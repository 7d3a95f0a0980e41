-- What holds of every date: 20 bytes, and a count between the first second of the year 0000 and the last of the year 9999.
use Prim.Native.Nat.{ℕ, zero, suc, ◌+◌, ◌-◌, ◌*◌, ◌≤◌, ◌<◌}
use mathlib.Core.Path.{◌≡◌, refl, sym, ◌∙◌}
use mathlib.Core.Bool.{Bool, true, false, cond}
use Rattle.std.specs.declared.option.Option.TheVariants.{None, Some}
use native.Mathlib.Omega.{arith}
use borrow.Author.Tests.{leb-true}
use lib.ListN.{length}
use lib.IntN.{ℤ, pos, neg_ℤ}
use lib.Signed.{le_z}
use Rattle.base.specs.Bytes.{Bytes, bytes}
use Rattle.base.proofs.TestLaws.{both}
use Rattle.date.specs.Calendar.{is_leap, year_days, month_days, is_civil, years_before, first_months, day_number, second_number, epoch, time_of, civil_time, fits, has_form, form, two_digits, date_of}
use Rattle.date.proofs.Differences.{sub_le_z}
use Rattle.date.proofs.FormLaws.{form-length, digits-at}
use Rattle.date.proofs.CalendarLaws.{years-closed, months-next, epoch-seconds, no-form, date-form}

-- ## The days of a year

whole_year : (y : ℕ) → first_months y 12 ≡ year_days y
unfolding first_months
whole_year y = by (is_leap y)
  where
    by : (b : Bool) → 0 + 31 + cond b 29 28 + 31 + 30 + 31 + 30 + 31 + 31 + 30 + 31 + 30 + 31 ≡ cond b 366 365
    by true = refl
    by false = refl

months_rise : (y m k : ℕ) → first_months y m ≤ first_months y (m + k)
months_rise y m zero = let e : m + 0 ≡ m = omega arith in rw e (omega arith)
months_rise y m (suc k) =
    let e : m + suc k ≡ m + k + 1 = omega arith in
    let l = months-next y (m + k + 1) (omega arith) in
    let f : m + k + 1 - 1 ≡ m + k = omega arith in
    let n : first_months y (m + k + 1) ≡ first_months y (m + k) + month_days y (m + k + 1) = rw f at l in
    rw e (omega (arith, n, months_rise y m k))

-- the day is one of the year's
within_year : (y m d : ℕ) → 1 ≤ m → m ≤ 12 → 1 ≤ d → d ≤ month_days y m → first_months y (m - 1) + (d - 1) < year_days y
within_year y m d p q r t =
    let e : m + (12 - m) ≡ 12 = omega arith in
    let l : first_months y m ≤ first_months y 12 = rw e at (months_rise y m (12 - m)) in
    omega (arith, l, months-next y m p, whole_year y)

years-next : (y : ℕ) → years_before (suc y) ≡ years_before y + year_days y
unfolding years_before
years-next y = refl

-- ## The seconds

last-second : (y m d h mi s : ℕ) → y ≤ 9999 → is_civil y m d h mi s ≡ true → second_number y m d h mi s ≤ 315569519999
unfolding second_number day_number
last-second y m d h mi s k e =
    let a = both _ _ e in
    let b = both _ _ a.0 in
    let c = both _ _ b.0 in
    let f = both _ _ c.0 in
    let g = both _ _ f.0 in
    let i = both _ _ g.0 in
    let w = within_year y m d (leb-true _ _ i.0) (leb-true _ _ i.1) (leb-true _ _ g.1) (leb-true _ _ f.1) in
    omega (arith, years-next y, w, years-closed (suc y), leb-true h 23 c.1, leb-true mi 59 b.1, leb-true s 59 a.1)

year-most : (s : Bytes) → has_form form s ≡ true → two_digits s 0 * 100 + two_digits s 2 ≤ 9999
year-most s h = let a = digits-at s (sym h) refl 0 refl refl in let b = digits-at s (sym h) refl 2 refl refl in omega arith

-- ## The counts

-- 0000-01-01T00:00:00Z
abbrev pub first : ℤ
first = neg_ℤ (pos 62167219200)

-- 9999-12-31T23:59:59Z
abbrev pub last : ℤ
last = pos 253402300799

pub record Within (z : ℤ) : Type 0 where
  pub from : le_z first z ≡ true
  pub to : le_z z last ≡ true

time-within : (y m d h mi s : ℕ) → y ≤ 9999 → is_civil y m d h mi s ≡ true → Within (time_of y m d h mi s)
unfolding time_of
time-within y m d h mi s k e =
    let n = second_number y m d h mi s in
    rw epoch-seconds (record { from = sub_le_z 0 n 62167219200 (omega arith); to = sub_le_z n 315569519999 62167219200 (last-second y m d h mi s k e) })

civil-within : (y m d h mi s : ℕ) (z : ℤ) → y ≤ 9999 → civil_time y m d h mi s ≡ Some z → Within z
unfolding civil_time
civil-within y m d h mi s z k e = by (is_civil y m d h mi s) refl e
  where
    by : (b : Bool) → is_civil y m d h mi s ≡ b → cond b (Some (time_of y m d h mi s)) None ≡ Some z → Within z
    by true f g = let w : time_of y m d h mi s ≡ z = cc in rw w at (time-within y m d h mi s k f)
    by false f g = let w : ◌≡◌ {A = ℕ} 0 1 = cc in absurd (omega arith)

-- ## A date's text

formed : (s : Bytes) (z : ℤ) → date_of s ≡ Some z → has_form form s ≡ true
formed s z e = by (has_form form s) refl
  where
    by : (b : Bool) → has_form form s ≡ b → b ≡ true
    by true f = refl
    by false f = let w : None ≡ Some z = no-form s f ∙ e in let k : ◌≡◌ {A = ℕ} 0 1 = cc in absurd (omega arith)

pub date-length : (s : Bytes) (z : ℤ) → date_of s ≡ Some z → length s ≡ 20
date-length s z e = sym (form-length form s (formed s z e))

pub date-within : (s : Bytes) (z : ℤ) → date_of s ≡ Some z → Within z
date-within s z e = let f = formed s z e in civil-within _ _ _ _ _ _ z (year-most s f) (date-form s f ∙ e)

pub first-date : date_of (bytes "0000-01-01T00:00:00Z") ≡ Some first
unfolding fits has_form date_of civil_time time_of epoch second_number day_number years_before first_months
first-date = refl

pub last-date : date_of (bytes "9999-12-31T23:59:59Z") ≡ Some last
unfolding fits has_form date_of civil_time time_of epoch second_number day_number years_before first_months
last-date = refl
