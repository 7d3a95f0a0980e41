-- `id_at` meets its contract.
use mathlib.Core.Path.{ap}
use Rattle.std.specs.Option.{option_map}
use Rattle.records.specs.View.{view_id}
use Rattle.forms.proofs.StepLaws.{text-none, text_at}
use Rattle.rules.specs.Take.{hex}
use Rattle.forms.proofs.id_at.Goals as goal

pub returns-in_err-string_at : goal.returns-in_err-string_at
unfolding hex
returns-in_err-string_at c = text-none _ _ c.string_at.ensures _ _ c.in_err-string_at.was (ap (option_map view_id) c.from_residual.ensures)

pub returns : goal.returns
unfolding hex
returns c = text_at _ _ c.string_at.ensures _ _ _ c.in_ok-string_at.was c.id_in.ensures
