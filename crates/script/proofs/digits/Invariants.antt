-- `digits`: n is at most `most`, and the digits left behind it write the same number.
use Rattle.std.proofs.Common.{◌≡◌, ◌≤◌, drop}
use Rattle.script.specs.Numbers.{digits}
use Rattle.script.proofs.digits.Given as goal

abbrev pub invariant-loop-b : goal.invariant-loop-b
invariant-loop-b l = (l.n ≤ l.most) × (digits l.most 0 l.s ≡ digits l.most l.n (drop l.b-index l.s))
