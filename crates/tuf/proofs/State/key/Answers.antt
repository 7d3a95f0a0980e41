-- `key` meets its contract: what is handed back of what decides it.
use Rattle.tuf.proofs.KeyLaws.{key-of}
use Rattle.tuf.proofs.State.key.Goals as goal

pub returns : goal.returns
returns c = key-of _ _ _ c.listed_key.ensures _ c.given.ensures
