-- `read_root` meets its contract.
use mathlib.Core.Path.{◌≡◌, refl, sym, ◌∙◌}
use borrow.Author.Tests.{not-true, not-false}
use Rattle.std.proofs.Common.{rules}
use Rattle.std.specs.declared.option.Option.TheVariants.{None, Some}
use Rattle.std.specs.declared.result.Result.TheVariants.{Err}
use Rattle.base.specs.Bytes.{bytes}
use Rattle.rules.specs.Forms.{root_keyids}
use Rattle.records.specs.View.{view_root}
use Rattle.envelope.specs.Header.{view_header}
use Rattle.envelope.specs.declared.Fault.TheVariants.{BadForm}
use Rattle.envelope.proofs.RoleLaws.{role-refused, role-broken, role_headless, role-keyids, role-other, role-says}
use Rattle.root_file.specs.Body.{root_kept}
use Rattle.root_file.specs.View.{view_body, view_roles}
use Rattle.root_file.proofs.FileLaws.{keep_file, root_by-body}
use Rattle.root_file.proofs.read_root.Goals as goal

pub returns-in_err-opened : goal.returns-in_err-opened
returns-in_err-opened c =
    let r : c.from_residual.result ≡ Err c.in_err-opened.field-0.0 = search rules in
    rw r (role-refused (bytes "root") root_kept root_keyids keep_file view_root _ _ c.in_err-opened.ensures) ∙ sym (root_by-body _)

pub returns-in_default : goal.returns-in_default
returns-in_default c =
    let b : c.root_at.result ≡ None = search rules in
    role-broken (bytes "root") root_kept root_keyids keep_file view_root _ _ c.in_ok-opened.ensures (rw b at c.root_at.ensures.means) ∙ sym (root_by-body _)

pub returns-in_err-header : goal.returns-in_err-header
returns-in_err-header c =
    let r : c.from_residual-in_err-header.result ≡ Err BadForm = search rules in
    let b : c.root_at.result ≡ Some c.in-Some.body = search rules in
    let n : c.header_at.result ≡ None = search rules in
    let t = c.header_at.ensures (rw b at c.root_at.ensures.end) in
    rw r (role_headless (bytes "root") root_kept root_keyids keep_file view_root _ _ c.in_ok-opened.ensures (rw n at t)) ∙ sym (root_by-body _)

pub returns-then-not-keyids_field : goal.returns-then-not-keyids_field
unfolding root_keyids
returns-then-not-keyids_field c =
    let b : c.root_at.result ≡ Some c.in-Some.body = search rules in
    let n : c.header_at.result ≡ Some c.in_ok-header.header = search rules in
    let t = c.header_at.ensures (rw b at c.root_at.ensures.end) in
    role-keyids (bytes "root") root_kept root_keyids keep_file view_root _ _ c.in_ok-opened.ensures _ (rw b at c.root_at.ensures.means) _ (rw n at t)
    (c.if-not-keyids_field.ensures _ _ c.find_member.ensures.means)
    ∙ sym (root_by-body _)

pub returns-then-not-header : goal.returns-then-not-header
unfolding root_keyids view_header
returns-then-not-header c =
    let b : c.root_at.result ≡ Some c.in-Some.body = search rules in
    let n : c.header_at.result ≡ Some c.in_ok-header.header = search rules in
    let t = c.header_at.ensures (rw b at c.root_at.ensures.end) in
    role-other (bytes "root") root_kept root_keyids keep_file view_root _ _ c.in_ok-opened.ensures _ (rw b at c.root_at.ensures.means) _ (rw n at t)
    (c.if-not-keyids_field.ensures _ _ c.find_member.ensures.means) (not-true _ c.if-not-header.true)
    ∙ sym (root_by-body _)

pub returns : goal.returns
unfolding root_keyids view_root view_body view_roles view_header keep_file
returns c =
    let b : c.root_at.result ≡ Some c.in-Some.body = search rules in
    let n : c.header_at.result ≡ Some c.in_ok-header.header = search rules in
    let t = c.header_at.ensures (rw b at c.root_at.ensures.end) in
    role-says (bytes "root") root_kept root_keyids keep_file view_root _ _ c.in_ok-opened.ensures _ (rw b at c.root_at.ensures.means) _ (rw n at t)
    (c.if-not-keyids_field.ensures _ _ c.find_member.ensures.means) (not-false _ c.if-not-header.false) _ (λ spec. refl) refl
    ∙ sym (root_by-body _)
