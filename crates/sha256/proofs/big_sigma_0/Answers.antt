-- `big_sigma_0`: by definition.
use Rattle.sha256.specs.Words.{Σ₀, rotr, shr, shl}
use Rattle.sha256.proofs.big_sigma_0.Goals as goal

pub returns : goal.returns
unfolding Σ₀ rotr shr shl
returns c = cc
