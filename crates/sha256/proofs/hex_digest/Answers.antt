-- `hex_digest`: the digest, then its digits.
use Rattle.std.proofs.Common.{ap, ◌∙◌}
use Rattle.base.specs.Hex.{hex_of}
use Rattle.sha256.proofs.hex_digest.Goals as goal

pub returns : goal.returns
returns c = c.hex.ensures ∙ ap hex_of c.digest.ensures
