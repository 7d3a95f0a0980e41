-- `digest_at` meets its contract.
use Rattle.rules.specs.Forms.{sha256}
use Rattle.forms.proofs.digest_at.Goals as goal

pub returns : goal.returns
unfolding sha256
returns c = c.id_field.ensures _ _ c.find_member.ensures.means
