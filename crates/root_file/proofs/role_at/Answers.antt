-- `role_at` meets its contract.
use mathlib.Core.Path.{refl}
use Rattle.std.specs.declared.option.Option.TheVariants.{None}
use Rattle.records.specs.View.{view_role}
use Rattle.forms.proofs.StepLaws.{must-none, must-at}
use Rattle.root_file.specs.View.{view_naming}
use Rattle.root_file.proofs.RoleLaws.{no_naming, no-threshold, role-is}
use Rattle.root_file.proofs.role_at.Goals as goal

pub returns-in_err-keyids : goal.returns-in_err-keyids
returns-in_err-keyids c v h =
    rw c.from_residual.ensures (no_naming _ v (must-none _ _ _ c.find_member.ensures.means _ None c.in_err-keyids.was refl v h))

pub returns-in_err-named : goal.returns-in_err-named
returns-in_err-named c v h =
    rw c.from_residual-in_err-named.ensures (no_naming _ v (must-at _ _ _ c.find_member.ensures.means _ _ _ c.in_ok-keyids.was c.in_err-named.ensures.means v h))

pub returns-in_err-threshold : goal.returns-in_err-threshold
unfolding view_naming
returns-in_err-threshold c v h =
    let second = c.find_member_by-found.ensures c.in_ok-named.ensures.end in
    rw c.from_residual-in_err-threshold.ensures
    (no-threshold _ v _ (must-at _ _ _ c.find_member.ensures.means _ _ _ c.in_ok-keyids.was c.in_ok-named.ensures.means v h) (c.in_err-threshold.ensures _ _ second.means v h))

pub returns : goal.returns
unfolding view_role view_naming
returns c v h =
    let second = c.find_member_by-found.ensures c.in_ok-named.ensures.end in
    role-is _ v _ (must-at _ _ _ c.find_member.ensures.means _ _ _ c.in_ok-keyids.was c.in_ok-named.ensures.means v h) _ (c.in_ok-threshold.ensures _ _ second.means v h)
