-- `digest` meets its contract: 32 bytes are kept whole.
use Rattle.tuf.proofs.TargetsLaws.{digest-kept}
use Rattle.tuf.proofs.digest.Goals as goal

pub returns : goal.returns
returns c = digest-kept _ _ c.digest-hash.ensures
