-- `names`: the bit, by its definition.
use Rattle.std.proofs.Common.{refl}
use Rattle.records.specs.View.{has}
use Rattle.keys.proofs.names.Goals as goal

pub returns : goal.returns
unfolding has
returns c = refl
