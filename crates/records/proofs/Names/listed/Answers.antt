-- The view reads the same values by index.
use Rattle.std.proofs.Common.{arith}
use Rattle.records.specs.View.{view_names}
use Rattle.records.proofs.MeantLaws.{meant}
use Rattle.records.proofs.Names.listed.Goals as goal

pub returns-clause-viewed : goal.returns-clause-viewed
unfolding view_names
returns-clause-viewed c = rw c.at_most.ensures (meant _ _ _ _ _ (omega arith))
