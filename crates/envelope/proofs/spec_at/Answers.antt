-- `spec_at` meets its contract.
use mathlib.Core.Path.{ap}
use Rattle.std.specs.declared.option.Option.TheVariants.{Some}
use Rattle.forms.proofs.StepLaws.{text-none, text_at}
use Rattle.envelope.specs.Header.{spec_known}
use Rattle.envelope.proofs.spec_at.Goals as goal

pub returns-in_err-i : goal.returns-in_err-i
unfolding spec_known
returns-in_err-i c = text-none _ _ c.string_at.ensures _ _ c.in_err-i.was c.from_residual.ensures

pub returns : goal.returns
unfolding spec_known
returns c = text_at _ _ c.string_at.ensures _ _ _ c.in_ok-i.was (ap Some c.spec_in.ensures)
