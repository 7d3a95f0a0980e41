-- `plain_length` meets its contract.
use native.Mathlib.Omega.{arith}
use Rattle.targets_file.proofs.PlainLaws.{plain-length}
use Rattle.targets_file.proofs.plain_length.Goals as goal

pub returns : goal.returns
returns c = plain-length _ _ _ _ c.in_ok-e.ensures (omega (arith, c.if-s-e.false)) c.if-s-e-ne125.false c.in_ok-length.ensures
