-- `roles_at` meets its contract.
use Rattle.forms.proofs.StepLaws.{reads-none}
use Rattle.root_file.specs.View.{view_roles}
use Rattle.root_file.proofs.BodyLaws.{no_root-role, no-timestamp_role, no-snapshot_role, no-targets_role, roles_are}
use Rattle.root_file.proofs.roles_at.Goals as goal

pub returns-in_err-root : goal.returns-in_err-root
returns-in_err-root c =
    let m = c.find_members-m.ensures in
    reads-none _ _ _ _ _ c.from_residual.ensures (λ v h. no_root-role _ v (c.in_err-root.ensures _ _ m.first.means v h))

pub returns-in_err-timestamp : goal.returns-in_err-timestamp
returns-in_err-timestamp c =
    let m = c.find_members-m.ensures in
    reads-none _ _ _ _ _ c.from_residual-in_err-timestamp.ensures
    (λ v h. no-timestamp_role _ v _ (c.in_ok-root.ensures _ _ m.first.means v h) (c.in_err-timestamp.ensures _ _ m.second.means v h))

pub returns-in_err-snapshot : goal.returns-in_err-snapshot
returns-in_err-snapshot c =
    let m = c.find_members-m.ensures in
    reads-none _ _ _ _ _ c.from_residual-in_err-snapshot.ensures (
    λ v h.
    no-snapshot_role _ v _ (c.in_ok-root.ensures _ _ m.first.means v h) _ (c.in_ok-timestamp.ensures _ _ m.second.means v h)
    (c.in_err-snapshot.ensures _ _ m.third.means v h)
    )

pub returns-in_err-targets : goal.returns-in_err-targets
returns-in_err-targets c =
    let m = c.find_members-m.ensures in
    reads-none _ _ _ _ _ c.from_residual-in_err-targets.ensures (
    λ v h.
    no-targets_role _ v _ (c.in_ok-root.ensures _ _ m.first.means v h) _ (c.in_ok-timestamp.ensures _ _ m.second.means v h)
    _ (c.in_ok-snapshot.ensures _ _ m.third.means v h) (c.in_err-targets.ensures _ _ m.fourth.means v h)
    )

pub returns : goal.returns
unfolding view_roles
returns c =
    let m = c.find_members-m.ensures in
    record {
      means = λ v h.
          roles_are _ v _ (c.in_ok-root.ensures _ _ m.first.means v h) _ (c.in_ok-timestamp.ensures _ _ m.second.means v h)
          _ (c.in_ok-snapshot.ensures _ _ m.third.means v h) _ (c.in_ok-targets.ensures _ _ m.fourth.means v h);
      end = m.end;
    }
