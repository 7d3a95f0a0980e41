-- `digest_place` meets its contract.
use mathlib.Core.Path.{refl}
use Rattle.rules.specs.Forms.{sha256}
use Rattle.forms.specs.View.{undone_at}
use Rattle.forms.proofs.StepLaws.{must-none, must-at}
use Rattle.targets_file.proofs.digest_place.Goals as goal

pub returns-in_err-hashes : goal.returns-in_err-hashes
unfolding undone_at
returns-in_err-hashes c = rw c.from_residual.ensures (λ p k w. must-none _ p k w _ _ c.in_err-hashes.was refl, tt)

pub returns : goal.returns
unfolding sha256
returns c =
    let d = c.digits_field.ensures in
    (λ p k w. must-at _ p k w _ _ _ c.in_ok-hashes.was (d.0 _ _ c.find_member-found.ensures.means), d.1)
