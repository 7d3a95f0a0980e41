-- `date_in` meets its contract.
use Rattle.forms.proofs.TextLaws.{date-not}
use mathlib.Core.Path.{refl}
use Rattle.forms.proofs.date_in.Goals as goal

pub returns-then-not-fill_text : goal.returns-then-not-fill_text
returns-then-not-fill_text c = date-not _ _ _ _ refl c.fill_text.ensures c.if-not-fill_text.true
