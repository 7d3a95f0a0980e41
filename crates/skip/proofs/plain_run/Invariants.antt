-- `plain_run` meets its contract. The invariant: the string goes on plain up to `i`.
use Prim.Native.Nat.{◌-◌}
use lib.ListN.{length}
use Rattle.skip.specs.Skim.{Leads, Bare}
use Rattle.skip.proofs.plain_run.Given as goal

abbrev pub invariant-loop-i : goal.invariant-loop-i
invariant-loop-i l = Leads l.s l.at l.i (Bare l.s l.at l.i)

abbrev pub decreases-loop-i : goal.decreases-loop-i
decreases-loop-i l = length l.s - l.i
