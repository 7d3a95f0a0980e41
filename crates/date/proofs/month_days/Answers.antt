-- `month_days` is the table of the months' lengths.
use native.Mathlib.Omega.{arith}
use borrow.Author.Rules.{rules}
use Rattle.date.specs.Calendar.{is_leap}
use Rattle.date.proofs.CalendarLaws.{february, one-most, thirty, thirty-one}
use Rattle.std.proofs.Common.{rules}
use Rattle.date.proofs.month_days.Goals as goal

pub overflow_add-result : goal.overflow_add-result
overflow_add-result c = omega (arith, one-most c.leap_day.result (is_leap c.args.year) c.leap_day.ensures)

pub returns-in-2 : goal.returns-in-2
returns-in-2 c = simp (c.in-2.is, c.leap_day.ensures, february)

pub returns-in-4 : goal.returns-in-4
returns-in-4 c = thirty c.args.year c.args.month c.in-4.is

pub returns-in_default : goal.returns-in_default
returns-in_default c = thirty-one c.args.year c.args.month (search rules) (search rules)
