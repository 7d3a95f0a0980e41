-- `number_may` meets its contract.
use mathlib.Core.Path.{refl, sym, ◌∙◌}
use Rattle.canonical_json.specs.Options.{bind}
use Rattle.lookup.proofs.NumberLaws.{number_takes}
use Rattle.forms.proofs.StepLaws.{may-lacks, may-holds}
use Rattle.forms.proofs.number_may.Goals as goal

pub returns-in_default : goal.returns-in_default
returns-in_default c = may-lacks _ _ _ c.in_default.is

pub returns-in_err-n : goal.returns-in_err-n
unfolding bind
returns-in_err-n c = may-holds _ _ _ _ c.in-Some.is _ (number_takes _ _ _ _ _ (sym c.in_err-n.was ∙ c.number_at.ensures)) _ c.from_residual.ensures

pub returns : goal.returns
unfolding bind
returns c = may-holds _ _ _ _ c.in-Some.is _ (number_takes _ _ _ _ _ (sym c.in_ok-n.was ∙ c.number_at.ensures)) _ refl
