-- `targets` meets its contract: what is handed back of what decides it.
use Rattle.tuf.proofs.StepLaws.{step-of}
use Rattle.tuf.proofs.State.targets.Goals as goal

pub returns : goal.returns
returns c = step-of _ _ _ _ c.after_targets.ensures c.stepped.ensures
