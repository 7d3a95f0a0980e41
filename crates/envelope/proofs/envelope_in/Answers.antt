-- `envelope_in` meets its contract.
use mathlib.Core.Path.{refl}
use Rattle.canonical_json.specs.Fields.{keep}
use Rattle.forms.proofs.StepLaws.{must-none, must-at}
use Rattle.envelope.proofs.OpenLaws.{opens_unsigned, opens-nothing, opens_scalar, opens-all}
use Rattle.envelope.proofs.envelope_in.Goals as goal

pub returns-in_err-found : goal.returns-in_err-found
returns-in_err-found c = rw c.from_residual.ensures (opens_unsigned _ (must-none _ _ _ c.in_err-found.ensures.means _ _ refl refl))

pub returns-in_err-read : goal.returns-in_err-read
returns-in_err-read c =
    rw c.from_residual-in_err-read.ensures (opens_unsigned _ (must-at _ _ _ c.in_ok-found.ensures.means _ _ _ refl c.in_err-read.ensures.means))

pub returns-in_err-start : goal.returns-in_err-start
returns-in_err-start c = rw c.from_residual-in_err-start.ensures (opens-nothing _ (c.in_err-start.ensures c.in_ok-read.ensures.end))

pub returns-then-not-is_object : goal.returns-then-not-is_object
unfolding keep
returns-then-not-is_object c = opens_scalar _ _ (c.in_ok-start.ensures c.in_ok-read.ensures.end) c.if-not-is_object.ensures

pub returns : goal.returns
unfolding keep
returns c =
    opens-all _ _ (c.in_ok-start.ensures c.in_ok-read.ensures.end) c.if-not-is_object.ensures _ refl
    (must-at _ _ _ c.in_ok-found.ensures.means _ _ _ refl c.in_ok-read.ensures.means)
