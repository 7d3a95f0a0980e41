-- `role_field` meets its contract.
use mathlib.Core.Path.{ap}
use Rattle.std.specs.Option.{option_map}
use Rattle.records.specs.View.{view_role}
use Rattle.forms.proofs.StepLaws.{must-lacks, must-holds}
use Rattle.root_file.proofs.role_field.Goals as goal

pub returns-in_err-found : goal.returns-in_err-found
returns-in_err-found c = must-lacks _ _ _ c.in_err-found.was _ (ap (option_map (view_role _)) c.from_residual.ensures)

pub returns : goal.returns
returns c = must-holds _ _ _ _ c.in_ok-found.was _ c.role_at.ensures
