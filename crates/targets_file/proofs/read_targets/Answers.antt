-- `read_targets` meets its contract.
use mathlib.Core.Path.{◌≡◌, refl, sym, ◌∙◌}
use borrow.Author.Tests.{not-true, not-false}
use Rattle.std.proofs.Common.{rules}
use Rattle.std.specs.declared.option.Option.TheVariants.{None, Some}
use Rattle.std.specs.declared.result.Result.TheVariants.{Err}
use Rattle.rules.specs.Forms.{targets}
use Rattle.rules.specs.Reading.{no_table}
use Rattle.envelope.specs.Header.{view_header}
use Rattle.envelope.specs.declared.Fault.TheVariants.{BadForm}
use Rattle.envelope.proofs.RoleLaws.{role-refused, role-broken, role_headless, role-other, role-says}
use Rattle.targets_file.specs.View.{listing_in, view_seen}
use Rattle.targets_file.proofs.ImageLaws.{listing_in-must}
use Rattle.targets_file.proofs.BodyLaws.{as_seen, seen_in}
use Rattle.targets_file.proofs.read_targets.Goals as goal

pub returns-in_err-opened : goal.returns-in_err-opened
returns-in_err-opened c =
    let a = c.args in
    let r : c.from_residual.result ≡ Err c.in_err-opened.field-0.0 = search rules in
    rw r (role-refused _ (listing_in a.path.now targets) no_table as_seen view_seen a.file.now _ c.in_err-opened.ensures ∙ sym (seen_in a.path.now a.file.now))

pub returns-in_err-images : goal.returns-in_err-images
unfolding targets
returns-in_err-images c =
    let a = c.args in
    let r : c.from_residual-in_err-images.result ≡ Err BadForm = search rules in
    let b : c.images_field.result ≡ None = search rules in
    let images = rw b at (c.images_field.ensures.means _ _ c.find_member-found.ensures.means) in
    rw r
    (role-broken _ (listing_in a.path.now targets) no_table as_seen view_seen a.file.now _ c.in_ok-opened.ensures (λ v h. images v h ∙ listing_in-must _ _ _ v) ∙ sym (seen_in a.path.now a.file.now))

pub returns-in_err-header : goal.returns-in_err-header
returns-in_err-header c =
    let a = c.args in
    let r : c.from_residual-in_err-header.result ≡ Err BadForm = search rules in
    let b : c.images_field.result ≡ Some c.in_ok-images.images = search rules in
    let n : c.header_at.result ≡ None = search rules in
    let header = rw n at (c.header_at.ensures (c.extent_of-body.ensures _ (rw b at c.images_field.ensures.end))) in
    rw r
    (role_headless _ (listing_in a.path.now targets) no_table as_seen view_seen a.file.now _ c.in_ok-opened.ensures header ∙ sym (seen_in a.path.now a.file.now))

pub returns-then-not-header : goal.returns-then-not-header
unfolding targets view_header
returns-then-not-header c =
    let a = c.args in
    let b : c.images_field.result ≡ Some c.in_ok-images.images = search rules in
    let n : c.header_at.result ≡ Some c.in_ok-header.header = search rules in
    let images = rw b at (c.images_field.ensures.means _ _ c.find_member-found.ensures.means) in
    let header = rw n at (c.header_at.ensures (c.extent_of-body.ensures _ (rw b at c.images_field.ensures.end))) in
    role-other _ (listing_in a.path.now targets) no_table as_seen view_seen a.file.now _ c.in_ok-opened.ensures _ (λ v h. images v h ∙ listing_in-must _ _ _ v)
    _ header (λ v h. refl) (not-true _ c.if-not-header.true)
    ∙ sym (seen_in a.path.now a.file.now)

pub returns : goal.returns
unfolding targets view_header as_seen view_seen
returns c =
    let a = c.args in
    let b : c.images_field.result ≡ Some c.in_ok-images.images = search rules in
    let n : c.header_at.result ≡ Some c.in_ok-header.header = search rules in
    let images = rw b at (c.images_field.ensures.means _ _ c.find_member-found.ensures.means) in
    let header = rw n at (c.header_at.ensures (c.extent_of-body.ensures _ (rw b at c.images_field.ensures.end))) in
    role-says _ (listing_in a.path.now targets) no_table as_seen view_seen a.file.now _ c.in_ok-opened.ensures _ (λ v h. images v h ∙ listing_in-must _ _ _ v)
    _ header (λ v h. refl) (not-false _ c.if-not-header.false) _ (λ spec. refl) refl
    ∙ sym (seen_in a.path.now a.file.now)
