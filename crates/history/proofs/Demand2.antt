-- Demand 2 for the written rules: of every state whose root was read from a file, and so of every state of a history.
use mathlib.Core.Path.{refl}
use mathlib.Core.List.{List, [], ◌∷◌}
use Rattle.rules.specs.State.{State, Install, Call, find, ask_key, ask_state}
use Rattle.rules.specs.Steps.{answer, offered, started, next, installed}
use Rattle.rules.specs.Asked.{Found}
use Rattle.rules.specs.Exactly.{RootRead, InstallExactly, ImageExactly, Demand2}
use Rattle.rules.specs.History.{History, run, end}
use Rattle.rules.proofs.NextLaws.{next-refused, next-same}
use Rattle.rules.proofs.ExactlyLaws.{root-good, good-root, root-after, no-next-root, timestamp-good, good-timestamp, timestamp-after, snapshot-good, good-snapshot, snapshot-after, targets-good, good-targets, targets-after, find-good, good-find, finds, finds-nothing, key-good, good-key, key-given, no_key_lem, image-good, good-image, cycle-good, good-cycle, cycle-after, cycle-earlier, install-good, good-install, install-after, install-refused}
use Rattle.rules.proofs.ExpiryLaws.{found-fresh, found-expired}
use Rattle.rules.proofs.SearchLaws.{not-searched, was_searched, find-stops}
use Rattle.history.proofs.Trusted.{read_next, read-installed}

pub install-exactly : (o : Install) → InstallExactly o
install-exactly o =
    record {
      install = (install-good o, λ w. good-install o w.0 w.1);
      install_after = λ r g. install-after o r g.entries g.reads (good-install o r g);
      install_refused = install-refused o;
    }

pub image-exactly : (listed fetched : Found) → ImageExactly listed fetched
image-exactly listed fetched = (image-good listed fetched, good-image listed fetched)

pub demand2 : (s : State) → RootRead s → Demand2 s
unfolding answer offered started
demand2 s read =
    record {
      root = λ o. (root-good s o read, λ w. good-root s o w.0 w.1);
      root_after = root-after s;
      no_next_root = λ held e top o. no-next-root s o read held e top;
      timestamp = λ o. (timestamp-good s o read, λ w. good-timestamp s o w.0 w.1);
      timestamp_after = timestamp-after s;
      snapshot = λ o. (snapshot-good s o read, λ w. good-snapshot s o w.0 w.1);
      snapshot_after = snapshot-after s;
      targets = λ o. (targets-good s o read, λ w. good-targets s o w.0 w.1);
      targets_after = targets-after s;
      cycle = λ t. (cycle-good s t, good-cycle s t);
      cycle_after = cycle-after s;
      cycle_earlier = cycle-earlier s;
      finds = λ q. (find-good s q, λ w. good-find s q w.0 w.1);
      finds_image = finds s;
      find_refused = finds-nothing s;
      find_compared = was_searched s;
      find_unsearched = not-searched s;
      find_stops = λ q g es e. find-stops q.file q.path g es e;
      keys = λ k. (key-good s k, λ w. good-key s k w.0 w.1);
      key_given = key-given s;
      key_refused = no_key_lem s;
      find_after = λ q. next-same s (find q) refl refl;
      key_after = λ k. next-same s (ask_key k) refl refl;
      state_after = (refl, next-same s ask_state refl refl);
      found_fresh = found-fresh s read;
      found_expired = found-expired s;
      refused = next-refused s;
    }

-- ## Along a history

read-run : (s : State) → RootRead s → (cs : List Call) → RootRead (run s cs)
unfolding run
read-run s read [] = read
read-run s read (c ∷ cs) = read-run (next s c) (read_next s read c) cs

pub read-end : (h : History) → RootRead (end h)
unfolding end
read-end h = read-run (installed h.install) (read-installed h.install h.accepted) h.calls

pub demand2-at : (h : History) → Demand2 (end h)
demand2-at h = demand2 (end h) (read-end h)
