-- `civil_seconds` is the year's part and what has passed of the year.
use Prim.Native.Nat.{ℕ, ◌≤◌, ◌+◌, ◌-◌, ◌*◌}
use mathlib.Core.Path.{◌≡◌, ◌∙◌}
use native.Mathlib.Omega.{arith}
use lib.IntN.{ℤ, pos, ◌-ℤ◌, ◌+ℤ◌, ◌*ℤ◌}
use mir.Syntax.{w64}
use mir.Val.{to_z}
use Rattle.date.specs.Calendar.{years_before, first_months, day_number, second_number, time_of}
use Rattle.date.specs.Parts.{Civil}
use Rattle.date.proofs.CalendarLaws.{years-closed, epoch-days, epoch-seconds}
use Rattle.date.proofs.Differences.{W, Fits, fits, bits, nat, plus, times}
use Rattle.date.proofs.civil_seconds.Goals as goal

module _ (y m d h mi s : ℕ) (p : Civil y m d h mi s) {z : ℤ} (e : z ≡ pos (years_before y) -ℤ pos (years_before 1970)) where
  start : Fits z (years_before y) 719528
  start = record { same = e ∙ rw epoch-days; small = omega (arith, years-closed y); small_too = omega arith }

  year : Fits (W z *ℤ pos 86400) (years_before y * 86400) 62167219200
  year = times (bits start) 86400 (omega (arith, years-closed y)) (omega arith)

  module _ (r : ℕ) (f : r ≡ first_months y (m - 1)) (few : r ≤ 400) where
    abbrev passed : ℕ
    passed = (((r + (d - 1)) * 24 + h) * 60 + mi) * 60 + s

    all : Fits (W (W z *ℤ pos 86400) +ℤ to_z w64 passed) (second_number y m d h mi s) 62167219200
    unfolding second_number day_number
    all = plus (bits year) (nat passed (omega arith)) _ _ (omega arith) (omega (arith, years-closed y)) (omega arith)

    total : W (W (W z *ℤ pos 86400) +ℤ to_z w64 passed) ≡ time_of y m d h mi s
    unfolding time_of
    total = (bits all).same ∙ rw epoch-seconds

pub overflow_mul-result : goal.overflow_mul-result
overflow_mul-result c = let a = c.args in fits (year a.year a.month a.day a.hour a.minute a.second c.requires c.year_start.ensures)

pub overflow_add-result : goal.overflow_add-result
overflow_add-result c = let a = c.args in fits (all a.year a.month a.day a.hour a.minute a.second c.requires c.year_start.ensures _ c.months_before.ensures.value c.months_before.ensures.upper_bound)

pub returns : goal.returns
returns c = let a = c.args in total a.year a.month a.day a.hour a.minute a.second c.requires c.year_start.ensures _ c.months_before.ensures.value c.months_before.ensures.upper_bound
