-- `bracket_end` meets its contract. The invariant: `depth` brackets are open at `i`, and the last of them closes where the first one does.
-- one bracket opens at most with each byte, so that the count does not wrap
use mathlib.Core.Path.{◌≡◌}
use Prim.Native.Nat.{◌-◌, ◌+◌, ◌<◌, ◌≤◌}
use lib.ListN.{length, drop}
use Rattle.skip.specs.Skim.{Leads, skim}
use Rattle.skip.proofs.bracket_end.Given as goal

abbrev pub invariant-loop-i : goal.invariant-loop-i
invariant-loop-i l = (0 < l.depth) × (l.depth ≤ l.i + 1) × Leads l.s l.at l.i (skim (drop l.at l.s) 1 ≡ skim (drop l.i l.s) l.depth)

abbrev pub decreases-loop-i : goal.decreases-loop-i
decreases-loop-i l = length l.s - l.i
