-- What a stored state stands for in the paper's terms: a record is held where its flag says so.
use Rattle.canonical_json.specs.Fields.{keep}
use Rattle.rules.specs.State as rules
use Rattle.records.specs.View.{view_root, view_timestamp, view_snapshot, view_targets}
use Rattle.state.specs.declared.State.{State}

unfoldable pub view : State → rules.State
view s =
    record {
      root = keep s.held.root (view_root s.root);
      timestamp = keep s.held.timestamp (view_timestamp s.timestamp);
      snapshot = keep s.held.snapshot (view_snapshot s.snapshot);
      targets = keep s.held.targets (view_targets s.targets);
      start = s.start.seconds;
    }
