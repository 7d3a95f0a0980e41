-- `plain_entry`: the bytes that were compared are the text of one entry.
use mathlib.Core.Path.{sym, ◌∙◌}
use Prim.Native.Nat.{◌+◌, ◌*◌}
use native.Mathlib.Omega.{arith}
use lib.ListN.{length}
use Rattle.base.proofs.ByteLaws.{stood_text, stood_within}
use Rattle.rules.specs.Limits.{key_size, signature_size}
use Rattle.forms.proofs.TextLaws.{digits-within}
use Rattle.envelope.specs.Plain.{opening, between, closing}
use Rattle.envelope.proofs.PlainLaws.{plain-reads}
use Rattle.std.proofs.Common.{rules}
use Rattle.envelope.proofs.plain_entry.Goals as goal

pub overflow_add-keyid : goal.overflow_add-keyid
overflow_add-keyid c =
    let a = c.args in
    let o = stood_within a.s.now opening a.at (sym c.has_at.ensures ∙ c.if-not-has_at.false) (omega arith) in
    search rules

pub overflow_add-e : goal.overflow_add-e
overflow_add-e c =
    let a = c.args in
    let d = digits-within key_size a.s.now _ (sym c.has_digits.ensures ∙ c.if-not-has_digits.false) in
    search rules

pub overflow_add-sig : goal.overflow_add-sig
overflow_add-sig c =
    let a = c.args in
    let b = stood_within a.s.now between (a.at + length opening + key_size * 2) (sym c.has_at-2.ensures ∙ c.if-not-has_at-2.false) (omega arith) in
    search rules

pub overflow_add-f : goal.overflow_add-f
overflow_add-f c =
    let a = c.args in
    let d = digits-within signature_size a.s.now _ (sym c.has_digits-2.ensures ∙ c.if-not-has_digits-2.false) in
    search rules

pub overflow_add-result : goal.overflow_add-result
overflow_add-result c =
    let a = c.args in
    let l = stood_within a.s.now closing (a.at + length opening + key_size * 2 + length between + signature_size * 2) (sym c.has_at-3.ensures ∙ c.if-not-has_at-3.false) (omega arith) in
    search rules

pub returns : goal.returns
returns c =
    let a = c.args in
    let l = stood_within a.s.now closing (a.at + length opening + key_size * 2 + length between + signature_size * 2) (sym c.has_at-3.ensures ∙ c.if-not-has_at-3.false) (omega arith) in
    let before = stood_text a.s.now opening a.at (sym c.has_at.ensures ∙ c.if-not-has_at.false) in
    let middle = stood_text a.s.now between (a.at + length opening + key_size * 2) (sym c.has_at-2.ensures ∙ c.if-not-has_at-2.false) in
    let after = stood_text a.s.now closing (a.at + length opening + key_size * 2 + length between + signature_size * 2) (sym c.has_at-3.ensures ∙ c.if-not-has_at-3.false) in
    λ o. plain-reads _ _ _ _ before (sym c.has_digits.ensures ∙ c.if-not-has_digits.false) middle (sym c.has_digits-2.ensures ∙ c.if-not-has_digits-2.false) after (omega arith) (omega arith)
