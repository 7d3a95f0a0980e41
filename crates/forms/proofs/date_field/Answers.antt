-- `date_field` meets its contract.
use mathlib.Core.Path.{ap}
use Rattle.date.specs.View.{view_date}
use Rattle.forms.proofs.StepLaws.{must-lacks, must-holds}
use Rattle.forms.proofs.date_field.Goals as goal

pub returns-in_err-found : goal.returns-in_err-found
returns-in_err-found c = must-lacks _ _ _ c.in_err-found.was _ (ap view_date c.from_residual.ensures)

pub returns : goal.returns
returns c = must-holds _ _ _ _ c.in_ok-found.was _ c.date_at.ensures
