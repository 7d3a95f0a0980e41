-- `entry_in` meets its contract: digits stand at the places of an entry that was read, so that they are undone.
use mathlib.Core.Path.{sym, ◌∙◌}
use Rattle.rules.specs.Limits.{key_size, signature_size}
use Rattle.rules.specs.Asked.{the_entry}
use Rattle.rules.proofs.OptionLaws.{none-not-some, some_is}
use Rattle.forms.proofs.TextLaws.{unhex_yes, unhex-window}
use Rattle.envelope.specs.Header.{entry_in}
use Rattle.inspect.specs.View.{view_entry_read}
use Rattle.inspect.proofs.AskedLaws.{asked-no, asked-is}
use Rattle.inspect.proofs.entry_in.Goals as goal

pub returns-in_err-entry : goal.returns-in_err-entry
returns-in_err-entry c = λ v h. rw c.from_residual.ensures (asked-no v (c.in_err-entry.ensures.reads.means v h))

pub returns-in_err-keyid : goal.returns-in_err-keyid
returns-in_err-keyid c = none-not-some (c.in_err-keyid.ensures ∙ sym (unhex_yes key_size _ c.in_ok-entry.ensures.digits.keyid))

pub returns-in_err-sig : goal.returns-in_err-sig
returns-in_err-sig c = none-not-some (c.in_err-sig.ensures ∙ sym (unhex_yes signature_size _ c.in_ok-entry.ensures.digits.sig))

pub returns : goal.returns
unfolding view_entry_read the_entry entry_in
returns c =
    let r = c.in_ok-entry.ensures in
    let keyid = some_is (c.in_ok-keyid.ensures ∙ sym (unhex_yes key_size _ r.digits.keyid)) in
    let sig = some_is (unhex-window signature_size _ _ c.in_ok-sig.ensures ∙ sym (unhex_yes signature_size _ r.digits.sig)) in
    λ v h. rw (keyid, sig) (asked-is v _ _ (r.reads.means v h))
