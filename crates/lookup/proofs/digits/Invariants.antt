-- `digits` meets its contract. The invariant: n is at most hi, and with the digits left it is the number.
use mathlib.Core.Path.{◌≡◌}
use Prim.Native.Nat.{◌≤◌}
use lib.ListN.{drop}
use Rattle.lookup.specs.Leaves.{leading}
use Rattle.lookup.proofs.digits.Given as goal

abbrev pub invariant-loop-b : goal.invariant-loop-b
invariant-loop-b l = (l.n ≤ l.hi) × (leading 0 l.s ≡ leading l.n (drop l.b-index l.s))
