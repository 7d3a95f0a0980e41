use Rattle.std.proofs.Common.{◌≡◌, ◌-◌, ◌+◌, ◌≤◌, ℕ, refl, arith}
use Rattle.date.specs.Calendar.{month_days, first_months}
use Rattle.date.proofs.CalendarLaws.{months-next, month-most}
use Rattle.date.proofs.months_before.Goals as goal

next : (y k days r : ℕ) → 1 ≤ k → days ≡ first_months y (k - 1) → r ≡ month_days y k → days + r ≡ first_months y (k + 1 - 1)
next y k days r h e f = let g : k + 1 - 1 ≡ k = omega arith in rw g (cc (months-next y k h))

few : (y k r : ℕ) → r ≡ month_days y k → r ≤ 31
few y k r e = rw e (month-most y k)

pub loop-k-init : goal.loop-k-init
unfolding first_months
loop-k-init c = (refl, omega arith)

pub overflow_add-days : goal.overflow_add-days
overflow_add-days c = omega (arith, few c.args.year c.loop-k.k c.month_days-days.result c.month_days-days.ensures)

pub loop-k-preserved : goal.loop-k-preserved
loop-k-preserved c = (
  next _ _ _ _ (omega arith) c.loop-k.invariant.0 c.month_days-days.ensures,
  omega (arith, few c.args.year c.loop-k.k c.month_days-days.result c.month_days-days.ensures),
)

pub returns : goal.returns
returns c = let e : c.loop-k.k ≡ c.args.month = omega arith in record { value = rw e at c.loop-k.invariant.0; upper_bound = omega arith }
