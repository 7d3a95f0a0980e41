-- What decides a key: no root, a keyid that is not hex, one that the root does not list, and one that it lists.
use mathlib.Core.Path.{sym, ap, ◌∙◌}
use Rattle.envelope.proofs.ReadLaws.{was-some, was-none}
use Rattle.answers.specs.Number.{refusal_number}
use Rattle.answers.specs.declared.Refusal.TheVariants.{NotListed}
use Rattle.tuf.specs.View.{view}
use Rattle.tuf.proofs.KeyLaws.{held-keys, key-not-held, key-not-hex, key-told, key-refused}
use Rattle.tuf.proofs.State.listed_key.Goals as goal

pub returns-then-lacks_root : goal.returns-then-lacks_root
unfolding view
returns-then-lacks_root c = key-not-held _ _ _ c.lacks_root.ensures c.if-lacks_root.true

pub returns-in_err-bytes : goal.returns-in_err-bytes
unfolding view
returns-in_err-bytes c =
    let w = was-none NotListed c.hex_array.result _ c.in_err-bytes.ensures.value in
    key-refused c.args.self c.args.keyid.now _ (key-not-hex _ _ _ c.lacks_root.ensures c.if-lacks_root.false (sym c.hex_array.ensures ∙ w.0)) c.in_err-bytes.field-0.0 (ap refusal_number w.1) _
    c.from_residual.ensures.1

pub returns : goal.returns
unfolding view
returns c =
    let w = was-some NotListed c.hex_array.result _ c.in_ok-bytes.ensures.value in
    key-told _ _ _ c.lacks_root.ensures c.if-lacks_root.false _ (sym c.hex_array.ensures ∙ w) _ (held-keys _ _ _ c.public_key.ensures) _ c.ok_or-2.ensures.value
