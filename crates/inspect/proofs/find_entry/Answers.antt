-- `find_entry` meets its contract.
use mathlib.Core.Path.{refl, sym}
use Rattle.forms.proofs.StepLaws.{must-none}
use Rattle.inspect.proofs.ElementLaws.{member-at}
use Rattle.inspect.proofs.find_entry.Goals as goal

pub returns-in_err-entries : goal.returns-in_err-entries
returns-in_err-entries c = λ v h. rw c.from_residual.ensures (sym (must-none _ _ _ c.in_err-entries.ensures.means _ _ refl refl v h))

pub returns : goal.returns
returns c = member-at _ _ _ c.in_ok-entries.ensures.means _ refl _ c.nth_element.result c.nth_element.ensures
