-- `install` meets its contract: a refused one returns the blank state.
use Rattle.tuf.proofs.StepLaws.{began-of}
use Rattle.tuf.proofs.State.install.Goals as goal

pub returns : goal.returns
returns c = began-of _ _ c.blank.ensures _ _ c.installed.ensures c.stepped.ensures
