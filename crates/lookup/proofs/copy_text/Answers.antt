use native.Mathlib.Omega.{arith}
use Rattle.lookup.proofs.StringLaws.{copy_refused}
use Rattle.lookup.proofs.copy_text.Goals as goal

pub returns-then-out-text_len : goal.returns-then-out-text_len
returns-then-out-text_len c =
    let n = c.text_len.ensures in
    copy_refused _ _ (omega arith)
