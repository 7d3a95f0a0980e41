-- `small_sigma_1`: by definition.
use Rattle.sha256.specs.Words.{σ₁, rotr, shr, shl}
use Rattle.sha256.proofs.small_sigma_1.Goals as goal

pub returns : goal.returns
unfolding σ₁ rotr shr shl
returns c = cc
