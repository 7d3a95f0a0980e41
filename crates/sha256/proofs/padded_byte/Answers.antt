-- `padded_byte`: one law for each part of the padded message.
use Rattle.std.proofs.Common.{◌-◌, length, ◌∙◌, arith}
use Rattle.sha256.proofs.PaddingLaws.{padded_message, padded_mark, padded-zero, padded-length}
use Rattle.sha256.proofs.padded_byte.Goals as goal

pub returns-then-i-n : goal.returns-then-i-n
returns-then-i-n c = padded_message _ _ (omega arith)

pub returns-then-i-n-2 : goal.returns-then-i-n-2
returns-then-i-n-2 c = padded_mark _ _ (omega arith)

pub returns-then-k-z : goal.returns-then-k-z
returns-then-k-z c =
    let a = c.args in
    padded-zero a.s.now a.i (a.i - length a.s.now - 1) (omega arith) (omega arith)

pub returns : goal.returns
returns c =
    let a = c.args in
    c.length_byte.ensures ∙ padded-length a.s.now a.i (a.i - length a.s.now - 1) _ (omega arith) (omega arith)
