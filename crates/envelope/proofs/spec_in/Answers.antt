-- `spec_in` meets its contract.
use mathlib.Core.Path.{sym, ◌∙◌}
use Rattle.envelope.proofs.HeaderLaws.{spec-one, spec_dot}
use Rattle.envelope.proofs.spec_in.Goals as goal

pub returns-then-text_is : goal.returns-then-text_is
returns-then-text_is c = c.if-text_is.true ∙ spec-one _ (sym c.if-text_is.true ∙ c.text_is.ensures)

pub returns-else-text_is : goal.returns-else-text_is
returns-else-text_is c = spec_dot _ (sym c.if-text_is.false ∙ c.text_is.ensures) _ c.one_dot.ensures
