-- `header_at` meets its contract.
use mathlib.Core.Path.{ap, ◌∙◌}
use Rattle.std.specs.Option.{option_map}
use Rattle.rules.specs.Forms.{version}
use Rattle.envelope.specs.Header.{view_header}
use Rattle.envelope.proofs.HeaderLaws.{no_type, no-spec, no-version, no_date, header_is}
use Rattle.envelope.proofs.header_at.Goals as goal

pub returns-then-not-word_field : goal.returns-then-not-word_field
returns-then-not-word_field c =
    λ k v h.
    let m = c.find_members_by-m.ensures k in
    no_type _ v _ (c.word_field.ensures _ _ m.first.means v h) c.if-not-word_field.true

pub returns-in_err-known : goal.returns-in_err-known
returns-in_err-known c =
    λ k v h.
    let m = c.find_members_by-m.ensures k in
    ap (option_map view_header) c.from_residual.ensures
    ∙ no-spec _ v _ (c.word_field.ensures _ _ m.first.means v h) c.if-not-word_field.false (c.in_err-known.ensures _ _ m.second.means v h)

pub returns-in_err-version : goal.returns-in_err-version
unfolding version
returns-in_err-version c =
    λ k v h.
    let m = c.find_members_by-m.ensures k in
    ap (option_map view_header) c.from_residual-in_err-version.ensures
    ∙ no-version _ v _ (c.word_field.ensures _ _ m.first.means v h) c.if-not-word_field.false _ (c.in_ok-known.ensures _ _ m.second.means v h)
    (c.in_err-version.ensures _ _ m.third.means v h)

pub returns-in_err-expires : goal.returns-in_err-expires
unfolding version
returns-in_err-expires c =
    λ k v h.
    let m = c.find_members_by-m.ensures k in
    ap (option_map view_header) c.from_residual-in_err-expires.ensures
    ∙ no_date _ v _ (c.word_field.ensures _ _ m.first.means v h) c.if-not-word_field.false _ (c.in_ok-known.ensures _ _ m.second.means v h)
    _ (c.in_ok-version.ensures _ _ m.third.means v h) (c.in_err-expires.ensures _ _ m.fourth.means v h)

pub returns : goal.returns
unfolding version view_header
returns c =
    λ k v h.
    let m = c.find_members_by-m.ensures k in
    header_is _ v _ (c.word_field.ensures _ _ m.first.means v h) c.if-not-word_field.false _ (c.in_ok-known.ensures _ _ m.second.means v h)
    _ (c.in_ok-version.ensures _ _ m.third.means v h) _ (c.in_ok-expires.ensures _ _ m.fourth.means v h)
