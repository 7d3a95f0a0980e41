-- `big_sigma_1`: by definition.
use Rattle.sha256.specs.Words.{Σ₁, rotr, shr, shl}
use Rattle.sha256.proofs.big_sigma_1.Goals as goal

pub returns : goal.returns
unfolding Σ₁ rotr shr shl
returns c = cc
