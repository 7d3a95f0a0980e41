-- `digits_end`: the number ends where the digits from `i` on end.
use Rattle.std.proofs.Common.{◌≡◌, length, drop}
use Rattle.canonical_json.specs.Read.{end_of, digits}
use Rattle.canonical_json.proofs.digits_end.Given as goal

abbrev pub invariant-loop-i : goal.invariant-loop-i
invariant-loop-i l = end_of (length l.s) (digits (drop l.at l.s)) ≡ end_of (length l.s) (digits (drop l.i l.s))
