-- `meta_listed` meets its contract.
use mathlib.Core.Path.{refl}
use Rattle.lookup.proofs.StandsLaws.{end_of-none, end_of-found}
use Rattle.forms.proofs.StepLaws.{must-none, must-at}
use Rattle.timestamp_file.proofs.meta_listed.Goals as goal

pub returns-in_err-found : goal.returns-in_err-found
returns-in_err-found c =
    let q = c.in_err-found.was in
    rw c.from_residual.ensures (record { means = λ p k w. must-none _ p k w _ _ q refl; end = end_of-none _ _ _ q })

pub returns : goal.returns
returns c =
    let q = c.in_ok-found.was in
    record { means = λ p k w. must-at _ p k w _ _ _ q c.sole_listed.ensures.means; end = end_of-found _ _ _ _ q c.sole_listed.ensures.end }
