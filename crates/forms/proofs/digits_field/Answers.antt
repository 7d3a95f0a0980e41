-- `digits_field` meets its contract.
use mathlib.Core.Path.{ap}
use Rattle.forms.specs.View.{undone_at}
use Rattle.forms.proofs.StepLaws.{must-lacks, must-holds}
use Rattle.forms.proofs.TextLaws.{hex_at-none}
use Rattle.forms.proofs.digits_field.Goals as goal

pub returns-in_err-found : goal.returns-in_err-found
unfolding undone_at
returns-in_err-found c =
    let e = c.from_residual.ensures in
    (must-lacks _ _ _ c.in_err-found.was _ (ap (undone_at c.args.s.now) e), hex_at-none c.args.n c.args.s.now _ e)

pub returns : goal.returns
returns c = (must-holds _ _ _ _ c.in_ok-found.was _ c.digits_at.ensures.0, c.digits_at.ensures.1)
