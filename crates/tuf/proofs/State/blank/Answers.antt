-- `blank` meets its contract.
use Rattle.tuf.specs.View.{view}
use Rattle.std.proofs.Common.{rules}
use Rattle.tuf.proofs.State.blank.Goals as goal

pub returns : goal.returns
unfolding view
returns c = search rules
