-- `zero_count`: by definition.
use Rattle.std.proofs.Common.{refl}
use Rattle.sha256.specs.Message.{zeros}
use Rattle.sha256.proofs.zero_count.Goals as goal

pub returns : goal.returns
unfolding zeros
returns c = refl
