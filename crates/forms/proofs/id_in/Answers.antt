-- `id_in` meets its contract.
use mathlib.Core.Path.{sym, ◌∙◌}
use Rattle.records.specs.View.{view_id}
use Rattle.forms.proofs.TextLaws.{unhex-window}
use Rattle.forms.proofs.id_in.Goals as goal

pub returns : goal.returns
unfolding view_id
returns c = unhex-window 32 _ _ (sym c.in_ok-bytes.was ∙ c.hex_in.ensures)
