-- `root_at` meets its contract.
use mathlib.Core.Path.{refl}
use Rattle.std.specs.declared.option.Option.TheVariants.{None}
use Rattle.canonical_json.specs.Fields.{keep}
use Rattle.forms.proofs.StepLaws.{must-none, must-at}
use Rattle.root_file.specs.View.{view_body}
use Rattle.root_file.proofs.BodyLaws.{no_truth, no_keys, no_roles, body_is}
use Rattle.root_file.proofs.root_at.Goals as goal

pub returns-then-not-has_snapshot_rule-clause-means : goal.returns-then-not-has_snapshot_rule-clause-means
unfolding keep
returns-then-not-has_snapshot_rule-clause-means c v h = no_truth v (c.if-not-has_snapshot_rule.ensures _ _ c.find_member.ensures.means v h)

pub returns-in_err-first-clause-means : goal.returns-in_err-first-clause-means
unfolding keep
returns-in_err-first-clause-means c v h =
    rw c.from_residual.ensures
    (no_keys v (c.if-not-has_snapshot_rule.ensures _ _ c.find_member.ensures.means v h) (must-none _ _ _ c.find_member-2.ensures.means _ None c.in_err-first.was refl v h))

pub returns-in_err-keys-clause-means : goal.returns-in_err-keys-clause-means
unfolding keep
returns-in_err-keys-clause-means c v h =
    rw c.from_residual-in_err-keys.ensures
    (no_keys v (c.if-not-has_snapshot_rule.ensures _ _ c.find_member.ensures.means v h) (must-at _ _ _ c.find_member-2.ensures.means _ _ _ c.in_ok-first.was c.in_err-keys.ensures.means v h))

pub returns-in_err-second-clause-means : goal.returns-in_err-second-clause-means
unfolding keep
returns-in_err-second-clause-means c v h =
    let second = c.find_member_by.ensures c.in_ok-keys.ensures.end in
    rw c.from_residual-in_err-second.ensures
    (no_roles v (c.if-not-has_snapshot_rule.ensures _ _ c.find_member.ensures.means v h) _ (must-at _ _ _ c.find_member-2.ensures.means _ _ _ c.in_ok-first.was c.in_ok-keys.ensures.means v h)
    (must-none _ _ _ second.means _ None c.in_err-second.was refl v h))

pub returns-in_err-roles-clause-means : goal.returns-in_err-roles-clause-means
unfolding keep
returns-in_err-roles-clause-means c v h =
    let second = c.find_member_by.ensures c.in_ok-keys.ensures.end in
    rw c.from_residual-in_err-roles.ensures
    (no_roles v (c.if-not-has_snapshot_rule.ensures _ _ c.find_member.ensures.means v h) _ (must-at _ _ _ c.find_member-2.ensures.means _ _ _ c.in_ok-first.was c.in_ok-keys.ensures.means v h)
    (must-at _ _ _ second.means _ _ _ c.in_ok-second.was c.in_err-roles.ensures.means v h))

pub returns-clause-means : goal.returns-clause-means
unfolding keep view_body
returns-clause-means c v h =
    let second = c.find_member_by.ensures c.in_ok-keys.ensures.end in
    body_is v (c.if-not-has_snapshot_rule.ensures _ _ c.find_member.ensures.means v h) _ (must-at _ _ _ c.find_member-2.ensures.means _ _ _ c.in_ok-first.was c.in_ok-keys.ensures.means v h)
    _ (must-at _ _ _ second.means _ _ _ c.in_ok-second.was c.in_ok-roles.ensures.means v h)
