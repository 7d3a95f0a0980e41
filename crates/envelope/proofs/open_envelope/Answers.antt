-- `open_envelope` meets its contract.
use mathlib.Core.Path.{sym, ◌∙◌}
use native.Mathlib.Omega.{arith}
use Rattle.base.proofs.TestLaws.{never}
use Rattle.envelope.proofs.OpenLaws.{opens-long, opens-other, opens-form}
use Rattle.envelope.proofs.open_envelope.Goals as goal

pub returns-then-file-gt-MAX_FILE : goal.returns-then-file-gt-MAX_FILE
returns-then-file-gt-MAX_FILE c = opens-long _ c.if-file-gt-MAX_FILE.true

pub returns-then-not-is_canonical : goal.returns-then-not-is_canonical
returns-then-not-is_canonical c = opens-other _ (omega arith) (λ k. never (sym (c.is_canonical.ensures.1 k) ∙ c.if-not-is_canonical.true))

pub returns : goal.returns
returns c =
    rw c.ok_or.ensures.value (opens-form _ (omega arith) (c.is_canonical.ensures.0 c.if-not-is_canonical.false) _ c.envelope_in.ensures)
