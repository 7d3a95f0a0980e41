-- `sum`: by definition.
use Rattle.sha256.specs.Compress.{sum}
use Rattle.sha256.proofs.sum.Goals as goal

pub returns : goal.returns
unfolding sum
returns c = cc
