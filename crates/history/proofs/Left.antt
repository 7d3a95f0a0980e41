-- What a file that becomes trusted leaves in the state.
use mathlib.Core.Path.{◌≡◌, ap, ◌∙◌}
use Rattle.std.specs.declared.option.Option.TheVariants.{Some}
use Rattle.rules.specs.State.{Timestamp, Snapshot, Targets, State, keep_targets, Install, Call}
use Rattle.rules.specs.Conditions.{targets_entry}
use Rattle.rules.specs.Steps.{next, installed, root_alone, with_root, with_timestamp, with_snapshot, with_targets, Item, a_root, a_timestamp, a_snapshot, a_targets}
use Rattle.rules.specs.History.{begins, BecomesTrusted, at_install}
use Rattle.rules.proofs.ExactlyLaws.{root-after, timestamp-after, snapshot-after, targets-after, install-after}
use Rattle.history.proofs.Trusted.{TrustedBy, root, timestamp, snapshot, targets}

-- a snapshot, beside the timestamp that lists its version
pub record LeftSnapshot (s : State) (n : Snapshot) : Type 0 where
  pub held : s.snapshot ≡ Some n
  pub timestamp : Timestamp
  pub timestamp_held : s.timestamp ≡ Some timestamp
  pub version : n.version ≡ timestamp.snapshot.version

-- targets, beside the snapshot that lists their version
pub record LeftTargets (s : State) (g : Targets) : Type 0 where
  pub held : s.targets ≡ Some g
  pub snapshot : Snapshot
  pub snapshot_held : s.snapshot ≡ Some snapshot
  pub version : g.version ≡ (targets_entry snapshot).version

abbrev pub Left : State → Item → Type 0
Left s (a_root r) = s.root ≡ Some r
Left s (a_timestamp t) = s.timestamp ≡ Some t
Left s (a_snapshot n) = LeftSnapshot s n
Left s (a_targets g) = LeftTargets s g

pub left : {s : State} {c : Call} {x : Item} → TrustedBy s c x → Left (next s c) x
unfolding with_root with_timestamp with_snapshot with_targets keep_targets
left {s} (root {o} {r} g) = ap (λ (x : State). x.root) (root-after s o r g)
left {s} (timestamp {o} {t} g) = ap (λ (x : State). x.timestamp) (timestamp-after s o t g)
left {s} (snapshot {o} {n} g) =
    let after = snapshot-after s o n g in
    record {
      held = ap (λ (x : State). x.snapshot) after;
      timestamp = g.on.timestamp;
      timestamp_held = ap (λ (x : State). x.timestamp) after ∙ g.on.timestamp_held;
      version = g.version;
    }
left {s} (targets {o} {g = f} g) =
    let after = targets-after s o f g in
    record {
      held = ap (λ (x : State). x.targets) after;
      snapshot = g.on.snapshot;
      snapshot_held = ap (λ (x : State). x.snapshot) after ∙ g.on.snapshot_held;
      version = g.version;
    }

pub left-installed : {o : Install} {x : Item} → BecomesTrusted (begins o) x → Left (installed o) x
unfolding root_alone
left-installed (at_install {o} {r} {entries} reads a) = ap (λ (x : State). x.root) (install-after o r entries reads a)
