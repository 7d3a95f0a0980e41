-- `compress`: by definition.
use Rattle.sha256.specs.Compress.{compress}
use Rattle.sha256.proofs.compress.Goals as goal

pub returns : goal.returns
unfolding compress
returns c = cc
