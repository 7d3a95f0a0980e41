-- `fill_text` meets its contract.
use Rattle.forms.proofs.TextLaws.{fills}
use mathlib.Core.Path.{sym, ◌∙◌}
use Rattle.forms.proofs.fill_text.Goals as goal

pub returns-then-text_len-out : goal.returns-then-text_len-out
returns-then-text_len-out c = fills _ _ (sym c.text_len.ensures ∙ c.if-text_len-out.true) _ _ c.copy_text.ensures
