-- The honest publisher gets through. What comes between leaves the records as they are, so each of the publisher's calls is given what the
-- one before it left.
use mathlib.Core.Path.{◌≡◌, refl, ap, ◌∙◌}
use Rattle.std.specs.declared.option.Option.TheVariants.{Some}
use mathlib.Core.List.{List, [], ◌∷◌}
use lib.IntN.{ℤ}
use lib.Signed.{◌≤ℤ◌}
use Rattle.date.proofs.OrderLaws.{≤ℤ_trans}
use Rattle.rules.specs.State.{Root, State, Call, new_root, new_timestamp, new_snapshot}
use Rattle.rules.specs.Steps.{next, with_root, with_timestamp, with_snapshot, with_targets}
use Rattle.rules.specs.Exactly.{RootGood, TimestampGood, SnapshotGood, TargetsGood, LeansOnRoot, LeansOnTimestamp, LeansOnSnapshot}
use Rattle.rules.specs.History.{run, Quiet, RootTurn, Plan, at_root, after_roots, at_timestamp, at_snapshot, at_targets, last_root, InTurn, QuietRoots, Fresh, Honest, RootsThrough, Through}
use Rattle.rules.proofs.ExactlyLaws.{good-root, root-after, good-timestamp, timestamp-after, good-snapshot, snapshot-after, good-targets, targets-after}
use Rattle.history.proofs.Trusted.{SameRecords, same-is, same_trans, idle-same}
use Rattle.history.proofs.Clock.{clock-next, clock-run}

-- ## What comes between

quiet_same : (s : State) (cs : List Call) → Quiet s cs → SameRecords s (run s cs)
unfolding run
quiet_same s [] q = same-is refl
quiet_same s (c ∷ cs) q = same_trans (idle-same s c q.0) (quiet_same (next s c) cs q.1)

-- ## The roots

roots-through : (s : State) (held : Root) (xs : List RootTurn) → s.root ≡ Some held → InTurn held xs → QuietRoots s xs
    → RootsThrough s xs × ((after_roots s xs).root ≡ Some (last_root held xs))
unfolding after_roots last_root with_root
roots-through s held [] e turns quiet = (tt, e)
roots-through s held (x ∷ xs) e turns quiet =
    let s' = at_root s x in
    let k = turns.0 in
    let good : RootGood s' x.offer x.file =
    record {
      entries = x.entries;
      reads = x.reads;
      held_row = k.held_row;
      own_row = k.own_row;
      held = held;
      is_held = (quiet_same s x.between quiet.0).root ∙ e;
      held_keys = k.held_keys;
      own_keys = k.own_keys;
      version = k.version;
    }
    in
    let after = root-after s' x.offer x.file good in
    let more =
    roots-through (next s' (new_root x.offer)) x.file xs (ap (λ (s : State). s.root) after) turns.1 quiet.1
    in
    ((good-root s' x.offer x.file good, more.0), more.1)

-- ## The whole plan

pub through : (s : State) (held : Root) → s.root ≡ Some held → (p : Plan) → Honest s held p → Through s held p
unfolding with_timestamp with_snapshot with_targets
through s held e p h =
    let rs = roots-through s held p.roots e h.roots h.quiet_roots in
    let last = last_root held p.roots in
    -- the timestamp
    let s₁ = at_timestamp s p in
    let q₁ = quiet_same (after_roots s p.roots) p.timestamp.between h.quiet_timestamp in
    let on_root : LeansOnRoot s₁ =
    record { root = last; root_held = q₁.root ∙ rs.1; root_fresh = h.fresh_timestamp.of_root }
    in
    let g₁ : TimestampGood s₁ p.timestamp.offer p.timestamp.file =
    record {
      entries = p.timestamp.entries;
      reads = p.timestamp.reads;
      row = h.timestamp_row;
      on = on_root;
      keys = h.timestamp_keys;
      newer = h.newer;
      not_lower = h.not_lower;
      fresh = h.fresh_timestamp.of_timestamp;
    }
    in
    let f₁ = timestamp-after s₁ p.timestamp.offer p.timestamp.file g₁ in
    -- the snapshot
    let s₂ = at_snapshot s p in
    let q₂ = quiet_same (next s₁ (new_timestamp p.timestamp.offer)) p.snapshot.between h.quiet_snapshot in
    let on_timestamp : LeansOnTimestamp s₂ =
    record {
      on_root =
          record {
            root = last;
            root_held = q₂.root ∙ ap (λ (x : State). x.root) f₁ ∙ on_root.root_held;
            root_fresh = h.fresh_snapshot.of_root;
          };
      timestamp = p.timestamp.file;
      timestamp_held = q₂.timestamp ∙ ap (λ (x : State). x.timestamp) f₁;
      timestamp_fresh = h.fresh_snapshot.of_timestamp;
    }
    in
    let g₂ : SnapshotGood s₂ p.snapshot.offer p.snapshot.file =
    record {
      entries = p.snapshot.entries;
      reads = p.snapshot.reads;
      row = h.snapshot_row;
      on = on_timestamp;
      matches = h.snapshot_matches;
      keys = h.snapshot_keys;
      version = h.snapshot_version;
      keeps = h.keeps;
      fresh = h.fresh_snapshot.of_snapshot;
    }
    in
    let f₂ = snapshot-after s₂ p.snapshot.offer p.snapshot.file g₂ in
    -- the targets
    let s₃ = at_targets s p in
    let q₃ = quiet_same (next s₂ (new_snapshot p.snapshot.offer)) p.targets.between h.quiet_targets in
    let on_snapshot : LeansOnSnapshot s₃ =
    record {
      on_timestamp =
          record {
            on_root =
                record {
                  root = last;
                  root_held = q₃.root ∙ ap (λ (x : State). x.root) f₂ ∙ on_timestamp.on_root.root_held;
                  root_fresh = h.fresh_targets.of_root;
                };
            timestamp = p.timestamp.file;
            timestamp_held = q₃.timestamp ∙ ap (λ (x : State). x.timestamp) f₂ ∙ on_timestamp.timestamp_held;
            timestamp_fresh = h.fresh_targets.of_timestamp;
          };
      snapshot = p.snapshot.file;
      snapshot_held = q₃.snapshot ∙ ap (λ (x : State). x.snapshot) f₂;
      snapshot_current = h.snapshot_version;
      snapshot_fresh = h.fresh_targets.of_snapshot;
    }
    in
    let g₃ : TargetsGood s₃ p.targets.offer p.targets.file =
    record {
      entries = p.targets.entries;
      reads = p.targets.reads;
      row = h.targets_row;
      on = on_snapshot;
      matches = h.targets_matches;
      keys = h.targets_keys;
      version = h.targets_version;
      fresh = h.fresh_targets.of_targets;
    }
    in
    let f₃ = targets-after s₃ p.targets.offer p.targets.file g₃ in
    record {
      roots = rs.0;
      timestamp = good-timestamp s₁ p.timestamp.offer p.timestamp.file g₁;
      snapshot = good-snapshot s₂ p.snapshot.offer p.snapshot.file g₂;
      targets = good-targets s₃ p.targets.offer p.targets.file g₃;
      holds_root = ap (λ (x : State). x.root) f₃ ∙ on_snapshot.on_timestamp.on_root.root_held;
      holds_timestamp = ap (λ (x : State). x.timestamp) f₃ ∙ on_snapshot.on_timestamp.timestamp_held;
      holds_snapshot = ap (λ (x : State). x.snapshot) f₃ ∙ on_snapshot.snapshot_held;
      holds_targets = ap (λ (x : State). x.targets) f₃;
    }

-- ## The clock (A8)

-- what is fresh at a start time is fresh at any before it
fresh-before : (r : Root) (p : Plan) {start later : ℤ} → start ≤ℤ later → Fresh r p later → Fresh r p start
fresh-before r p l f =
    record {
      of_root = λ e. f.of_root (≤ℤ_trans e l);
      of_timestamp = λ e. f.of_timestamp (≤ℤ_trans e l);
      of_snapshot = λ e. f.of_snapshot (≤ℤ_trans e l);
      of_targets = λ e. f.of_targets (≤ℤ_trans e l);
    }

-- so a publisher whose files are fresh at the targets call had them fresh at the two calls before it
pub fresh_at-last : (s : State) (r : Root) (p : Plan) → Fresh r p (at_targets s p).start
    → Fresh r p (at_timestamp s p).start × Fresh r p (at_snapshot s p).start
fresh_at-last s r p f =
    let to-targets = ≤ℤ_trans (clock-next (at_snapshot s p) _) (clock-run _ p.targets.between) in
    let to-snapshot = ≤ℤ_trans (clock-next (at_timestamp s p) _) (clock-run _ p.snapshot.between) in
    let g = fresh-before r p to-targets f in
    (fresh-before r p to-snapshot g, g)
