-- `date_at` meets its contract.
use mathlib.Core.Path.{ap}
use Rattle.date.specs.View.{view_date}
use Rattle.forms.proofs.StepLaws.{text-none, text_at}
use Rattle.rules.specs.Take.{date}
use Rattle.forms.proofs.date_at.Goals as goal

pub returns-in_err-string_at : goal.returns-in_err-string_at
unfolding date
returns-in_err-string_at c = text-none _ _ c.string_at.ensures _ _ c.in_err-string_at.was (ap view_date c.from_residual.ensures)

pub returns : goal.returns
unfolding date
returns c = text_at _ _ c.string_at.ensures _ _ _ c.in_ok-string_at.was c.date_in.ensures
