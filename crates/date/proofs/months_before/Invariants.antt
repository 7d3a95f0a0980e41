-- `months_before` adds up the months that have passed.
use Rattle.std.proofs.Common.{◌≡◌, ◌≤◌, ◌*◌, ◌-◌}
use Rattle.date.specs.Calendar.{first_months}
use Rattle.date.proofs.months_before.Given as goal

abbrev pub invariant-loop-k : goal.invariant-loop-k
invariant-loop-k l = (l.days ≡ first_months l.year (l.k - 1)) × (l.days ≤ (l.k - 1) * 31)
