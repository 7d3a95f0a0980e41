-- `string_end` meets its contract. The invariant: the string goes on at `i`.
use Prim.Native.Nat.{◌-◌}
use lib.ListN.{length}
use Rattle.skip.specs.Skim.{Leads, Plain}
use Rattle.skip.proofs.string_end.Given as goal

abbrev pub invariant-loop-i : goal.invariant-loop-i
invariant-loop-i l = Leads l.s l.at l.i (Plain l.s l.at l.i)

abbrev pub decreases-loop-i : goal.decreases-loop-i
decreases-loop-i l = length l.s - l.i
