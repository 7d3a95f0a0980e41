-- `spec_field` meets its contract.
use Rattle.forms.proofs.StepLaws.{must-none, must-at}
use Rattle.envelope.proofs.spec_field.Goals as goal

pub returns-in_err-found : goal.returns-in_err-found
returns-in_err-found c = λ p k w. must-none _ p k w _ _ c.in_err-found.was c.from_residual.ensures

pub returns : goal.returns
returns c = λ p k w. must-at _ p k w _ _ _ c.in_ok-found.was c.spec_at.ensures
