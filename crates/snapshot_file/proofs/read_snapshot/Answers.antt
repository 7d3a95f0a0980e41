-- `read_snapshot` meets its contract.
use mathlib.Core.Path.{◌≡◌, refl}
use borrow.Author.Tests.{not-true, not-false}
use Rattle.std.proofs.Common.{rules}
use Rattle.std.specs.declared.option.Option.TheVariants.{None, Some}
use Rattle.std.specs.declared.result.Result.TheVariants.{Err}
use Rattle.rules.specs.Forms.{snapshot}
use Rattle.rules.specs.Reading.{no_table, read_snapshot}
use Rattle.rules.specs.State.{keep_snapshot, snapshot_in}
use Rattle.records.specs.View.{view_snapshot}
use Rattle.envelope.specs.Header.{view_header}
use Rattle.envelope.specs.declared.Fault.TheVariants.{BadForm}
use Rattle.envelope.proofs.RoleLaws.{role-refused, role-broken, role_headless, role-other, role-says}
use Rattle.snapshot_file.proofs.read_snapshot.Goals as goal

pub returns-in_err-opened : goal.returns-in_err-opened
unfolding snapshot_in read_snapshot snapshot
returns-in_err-opened c =
    let r : c.from_residual.result ≡ Err c.in_err-opened.field-0.0 = search rules in
    rw r (role-refused _ _ no_table keep_snapshot view_snapshot c.args.file.now _ c.in_err-opened.ensures)

pub returns-in_err-meta : goal.returns-in_err-meta
unfolding snapshot_in read_snapshot snapshot
returns-in_err-meta c =
    let r : c.from_residual-in_err-meta.result ≡ Err BadForm = search rules in
    let b : c.meta_names.result ≡ None = search rules in
    let body = rw b at (c.meta_names.ensures.means _ _ c.find_member-found.ensures.means) in
    rw r (role-broken _ _ no_table keep_snapshot view_snapshot c.args.file.now _ c.in_ok-opened.ensures body)

pub returns-in_err-header : goal.returns-in_err-header
unfolding snapshot_in read_snapshot snapshot
returns-in_err-header c =
    let r : c.from_residual-in_err-header.result ≡ Err BadForm = search rules in
    let b : c.meta_names.result ≡ Some c.in_ok-meta.meta = search rules in
    let n : c.header_at.result ≡ None = search rules in
    let header = rw n at (c.header_at.ensures (c.extent_of-body.ensures _ (rw b at c.meta_names.ensures.end))) in
    rw r (role_headless _ _ no_table keep_snapshot view_snapshot c.args.file.now _ c.in_ok-opened.ensures header)

pub returns-then-not-header : goal.returns-then-not-header
unfolding snapshot_in read_snapshot snapshot view_header
returns-then-not-header c =
    let b : c.meta_names.result ≡ Some c.in_ok-meta.meta = search rules in
    let n : c.header_at.result ≡ Some c.in_ok-header.header = search rules in
    let body = rw b at (c.meta_names.ensures.means _ _ c.find_member-found.ensures.means) in
    let header = rw n at (c.header_at.ensures (c.extent_of-body.ensures _ (rw b at c.meta_names.ensures.end))) in
    role-other _ _ no_table keep_snapshot view_snapshot c.args.file.now _ c.in_ok-opened.ensures _ body _ header (λ v h. refl) (not-true _ c.if-not-header.true)

pub returns : goal.returns
unfolding snapshot_in read_snapshot snapshot view_snapshot keep_snapshot view_header
returns c =
    let b : c.meta_names.result ≡ Some c.in_ok-meta.meta = search rules in
    let n : c.header_at.result ≡ Some c.in_ok-header.header = search rules in
    let body = rw b at (c.meta_names.ensures.means _ _ c.find_member-found.ensures.means) in
    let header = rw n at (c.header_at.ensures (c.extent_of-body.ensures _ (rw b at c.meta_names.ensures.end))) in
    role-says _ _ no_table keep_snapshot view_snapshot c.args.file.now _ c.in_ok-opened.ensures _ body _ header (λ v h. refl) (not-false _ c.if-not-header.false) _ (λ spec. refl) refl
