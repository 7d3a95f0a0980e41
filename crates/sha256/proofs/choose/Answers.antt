-- `choose`: by definition.
use Rattle.std.proofs.Common.{refl}
use Rattle.sha256.specs.Words.{ch, complement}
use Rattle.sha256.proofs.choose.Goals as goal

pub returns : goal.returns
unfolding ch complement
returns c = refl
