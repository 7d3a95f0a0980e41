-- `small_sigma_0`: by definition.
use Rattle.sha256.specs.Words.{σ₀, rotr, shr, shl}
use Rattle.sha256.proofs.small_sigma_0.Goals as goal

pub returns : goal.returns
unfolding σ₀ rotr shr shl
returns c = cc
