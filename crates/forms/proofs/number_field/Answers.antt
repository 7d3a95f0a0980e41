-- `number_field` meets its contract.
use Rattle.lookup.proofs.NumberLaws.{number_takes}
use Rattle.forms.proofs.StepLaws.{must-lacks, must-holds}
use Rattle.forms.proofs.number_field.Goals as goal

pub returns-in_err-found : goal.returns-in_err-found
returns-in_err-found c = must-lacks _ _ _ c.in_err-found.was _ c.from_residual.ensures

pub returns : goal.returns
returns c = must-holds _ _ _ _ c.in_ok-found.was _ (number_takes _ _ _ _ _ c.number_at.ensures)
