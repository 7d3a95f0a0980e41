-- `timestamp` meets its contract: what is handed back of what decides it.
use Rattle.tuf.proofs.StepLaws.{step-of}
use Rattle.tuf.proofs.State.timestamp.Goals as goal

pub returns : goal.returns
returns c = step-of _ _ _ _ c.after_timestamp.ensures c.stepped.ensures
