-- `plain_image`: the bytes that were compared are the text of one image.
use borrow.Author.Rules.{rules}
use mathlib.Core.Path.{sym, ◌∙◌}
use Prim.Native.Nat.{◌+◌, ◌*◌}
use native.Mathlib.Omega.{arith}
use lib.ListN.{length}
use Rattle.base.proofs.ByteLaws.{stood_text, stood_within}
use Rattle.rules.specs.Limits.{digest_size}
use Rattle.forms.proofs.TextLaws.{digits-within}
use Rattle.targets_file.specs.Plain.{opening, between}
use Rattle.targets_file.proofs.PlainLaws.{plain-image}
use Rattle.targets_file.proofs.plain_image.Goals as goal

pub overflow_add-digest : goal.overflow_add-digest
overflow_add-digest c =
    let a = c.args in
    let h = stood_within a.s.now opening a.at (sym c.has_at.ensures ∙ c.if-not-has_at.false) (omega arith) in
    search rules

pub overflow_add-e : goal.overflow_add-e
overflow_add-e c =
    let a = c.args in
    let d = digits-within digest_size a.s.now _ (sym c.has_digits.ensures ∙ c.if-not-has_digits.false) in
    search rules

pub overflow_add-e-2 : goal.overflow_add-e-2
overflow_add-e-2 c =
    let a = c.args in
    let h = stood_within a.s.now between (a.at + length opening + digest_size * 2) (sym c.has_at-2.ensures ∙ c.if-not-has_at-2.false) (omega arith) in
    search rules

pub returns : goal.returns
returns c =
    let a = c.args in
    let before = stood_text a.s.now opening a.at (sym c.has_at.ensures ∙ c.if-not-has_at.false) in
    let after = stood_text a.s.now between (a.at + length opening + digest_size * 2) (sym c.has_at-2.ensures ∙ c.if-not-has_at-2.false) in
    λ _. plain-image _ _ _ _ _ _ before (sym c.has_digits.ensures ∙ c.if-not-has_digits.false) after c.in_ok-length.ensures (omega arith)
