-- The answer of each call and the state after it (01, "Steps"). The refusals of a call are 01's table, cut to the numbers that the call
-- uses, with its conditions written out.
use Rattle.std.specs.Prelude.{◌≡◌, Bool, true, false, cond, not, List, [], ◌∷◌, ℕ, ◌+◌, leb, ltb, eqb, ℤ, length}
use Rattle.std.specs.declared.option.Option.{Option}
use Rattle.std.specs.declared.option.Option.TheVariants.{None, Some}
use Rattle.base.specs.Bytes.{Bytes, same}
use Rattle.base.specs.Hex.{is_hex, undo}
use Rattle.sha256.specs.Message.{digest_of}
use Rattle.date.specs.Calendar.{expired, earlier}
use Rattle.rules.specs.Limits.{max_path, key_size}
use Rattle.rules.specs.Records.{Image, File, Fault, too_long, not_text, bad_form, other_keyid, other_spec, Read, refused, says}
use Rattle.rules.specs.State.{Root, Timestamp, Snapshot, Targets, State, blank, keep_targets, root_in, timestamp_in, snapshot_in, targets_in, Install, RootOffer, FileOffer, Query, Call, new_cycle, new_root, new_timestamp, new_snapshot, new_targets, find, ask_key, ask_state}
use Rattle.rules.specs.Table.{Refusal, ◌when◌, first, of_held, absent}
use Rattle.rules.specs.Conditions.{bad_row, other_version, targets_entry, stale_snapshot, stale_targets, other_length, other_digest, too_few, lost, rotates, rotates_targets, image_of, key_of}

-- ## The refusals of each call, from 5 on

-- "Install (1 to 5, 10): a root judged by its own root role. No expiry check." With A1's 16, as all of reading's, before these.
unfoldable pub install_table : Install → Root → List Bytes → List Refusal
install_table o r es =
    5 when bad_row es o.row
    ∷ 10 when too_few r.root_role es o.row
    ∷ []

-- A8: "A new cycle with an earlier one is refused with the new number 17 and changes nothing; an equal one passes." In 01 it always succeeds.
unfoldable pub cycle_table : State → ℤ → List Refusal
cycle_table s t =
    17 when earlier t s.start
    ∷ []

-- "Root (1 to 6, 9, 10, 11): version exactly held plus one. Expiry does not matter here." With A1's 16 likewise.
unfoldable pub root_table : State → RootOffer → Root → List Bytes → List Refusal
root_table s o r es =
    5 when bad_row es o.held_row
    ∷ 5 when bad_row es o.own_row
    ∷ 6 when absent s.root
    ∷ 9 when of_held s.root (λ h. too_few h.root_role es o.held_row)
    ∷ 10 when too_few r.root_role es o.own_row
    ∷ 11 when of_held s.root (λ h. other_version r.version (h.version + 1))
    ∷ []

-- "Timestamp (1 to 7, 9, 11 to 14): leans on root. Below the held version 11, equal 12. 13 if its snapshot version is below the held
-- timestamp's."
unfoldable pub timestamp_table : State → FileOffer → Timestamp → List Bytes → List Refusal
timestamp_table s o t es =
    5 when bad_row es o.row
    ∷ 6 when absent s.root
    ∷ 7 when of_held s.root (λ r. expired r.expires s.start)
    ∷ 9 when of_held s.root (λ r. too_few r.timestamp_role es o.row)
    ∷ 11 when of_held s.timestamp (λ h. ltb t.version h.version)
    ∷ 12 when of_held s.timestamp (λ h. eqb t.version h.version)
    ∷ 13 when of_held s.timestamp (λ h. ltb t.snapshot.version h.snapshot.version)
    ∷ 14 when expired t.expires s.start
    ∷ []

-- "Snapshot (1 to 9, 11, 13, 14): needs a timestamp, leans on root and timestamp. Length and digest are compared where listed. Version
-- equals the listed one. Every name in the held snapshot is still listed, with a version not lower."
unfoldable pub snapshot_table : State → FileOffer → Snapshot → List Bytes → List Refusal
snapshot_table s o n es =
    5 when bad_row es o.row
    ∷ 6 when absent s.root
    ∷ 6 when absent s.timestamp
    ∷ 7 when of_held s.root (λ r. expired r.expires s.start)
    ∷ 7 when of_held s.timestamp (λ t. expired t.expires s.start)
    ∷ 8 when of_held s.timestamp (λ t. other_length t.snapshot (length o.file))
    ∷ 8 when of_held s.timestamp (λ t. other_digest t.snapshot (digest_of o.file))
    ∷ 9 when of_held s.root (λ r. too_few r.snapshot_role es o.row)
    ∷ 11 when of_held s.timestamp (λ t. other_version n.version t.snapshot.version)
    ∷ 13 when of_held s.snapshot (λ h. lost h.names n.names)
    ∷ 14 when expired n.expires s.start
    ∷ []

-- "Targets (1 to 9, 11, 14): needs a current snapshot, whose version is the one the held timestamp lists; leans on root, timestamp,
-- snapshot. Checked against the `targets.json` entry."
unfoldable pub targets_table : State → FileOffer → File (List Image) → List Bytes → List Refusal
targets_table s o g es =
    5 when bad_row es o.row
    ∷ 6 when absent s.root
    ∷ 6 when absent s.timestamp
    ∷ 6 when absent s.snapshot
    ∷ 6 when stale_snapshot s
    ∷ 7 when of_held s.root (λ r. expired r.expires s.start)
    ∷ 7 when of_held s.timestamp (λ t. expired t.expires s.start)
    ∷ 7 when of_held s.snapshot (λ n. expired n.expires s.start)
    ∷ 8 when of_held s.snapshot (λ n. other_length (targets_entry n) (length o.file))
    ∷ 8 when of_held s.snapshot (λ n. other_digest (targets_entry n) (digest_of o.file))
    ∷ 9 when of_held s.root (λ r. too_few r.targets_role es o.row)
    ∷ 11 when of_held s.snapshot (λ n. other_version g.version (targets_entry n).version)
    ∷ 14 when expired g.expires s.start
    ∷ []

-- "Find (1 to 8, 15): Needs current targets, whose version is the listed one, and a current snapshot; leans on all four. 8 if the digest
-- is not the kept one. A path of length 0 or above 128 is 15."
unfoldable pub find_table : State → Query → File (List Image) → List Bytes → List Refusal
find_table s q g es =
    6 when absent s.root
    ∷ 6 when absent s.timestamp
    ∷ 6 when absent s.snapshot
    ∷ 6 when absent s.targets
    ∷ 6 when stale_snapshot s
    ∷ 6 when stale_targets s
    ∷ 7 when of_held s.root (λ r. expired r.expires s.start)
    ∷ 7 when of_held s.timestamp (λ t. expired t.expires s.start)
    ∷ 7 when of_held s.snapshot (λ n. expired n.expires s.start)
    ∷ 7 when of_held s.targets (λ k. expired k.expires s.start)
    ∷ 8 when of_held s.targets (λ k. not (same (digest_of q.file) k.digest))
    ∷ 15 when leb (length q.path) 0
    ∷ 15 when ltb max_path (length q.path)
    ∷ 15 when absent (image_of q.path g.body)
    ∷ []

-- "A key asked of a blank state is 6; an unknown keyid, one that is not 64 lower-case hex .. is 15"
unfoldable pub key_table : State → Bytes → List Refusal
key_table s k =
    6 when absent s.root
    ∷ 15 when not (is_hex key_size k)
    ∷ 15 when of_held s.root (λ r. absent (key_of (undo k) r.keys))
    ∷ []

-- ## The answers

unfoldable pub fault_number : Fault → ℕ
fault_number too_long = 1
fault_number not_text = 2
fault_number bad_form = 3
fault_number other_keyid = 16
fault_number other_spec = 4

-- reading's refusal, or else the first of the table that holds
unfoldable pub judged : {A : Type 0} → Read A → (A → List Bytes → List Refusal) → ℕ
judged (refused f) table = fault_number f
judged (says a es) table = first (table a es)

unfoldable pub install_answer : Install → ℕ
install_answer o = judged (root_in o.file) (install_table o)

unfoldable pub answer : State → Call → ℕ
answer s (new_cycle t) = first (cycle_table s t)
answer s (new_root o) = judged (root_in o.file) (root_table s o)
answer s (new_timestamp o) = judged (timestamp_in o.file) (timestamp_table s o)
answer s (new_snapshot o) = judged (snapshot_in o.file) (snapshot_table s o)
answer s (new_targets o) = judged (targets_in o.file) (targets_table s o)
answer s (find q) = judged (targets_in q.file) (find_table s q)
answer s (ask_key k) = first (key_table s k)
answer s ask_state = 0

-- an answer refuses a call: today every answer but 0
unfoldable pub refuses : Call → ℕ → Bool
refuses c n = not (eqb n 0)

-- ## The state after a call that is not refused

-- "Only an accepted install or a new cycle sets the start time"; since A8 an accepted one
unfoldable pub with_start : State → ℤ → State
with_start s start =
    record { root = s.root; timestamp = s.timestamp; snapshot = s.snapshot; targets = s.targets; start = start }

abbrev pub drop_if : {A : Type 0} → Bool → Option A → Option A
drop_if true o = None
drop_if false o = o

-- a root drops the records whose keys it rotates
unfoldable pub with_root : State → Root → Root → State
with_root s old new =
    record {
      root = Some new;
      timestamp = drop_if (rotates old new) s.timestamp;
      snapshot = drop_if (rotates old new) s.snapshot;
      targets = drop_if (rotates_targets old new) s.targets;
      start = s.start;
    }

unfoldable pub with_timestamp : State → Timestamp → State
with_timestamp s t =
    record { root = s.root; timestamp = Some t; snapshot = s.snapshot; targets = s.targets; start = s.start }

unfoldable pub with_snapshot : State → Snapshot → State
with_snapshot s n =
    record { root = s.root; timestamp = s.timestamp; snapshot = Some n; targets = s.targets; start = s.start }

unfoldable pub with_targets : State → Targets → State
with_targets s g =
    record { root = s.root; timestamp = s.timestamp; snapshot = s.snapshot; targets = Some g; start = s.start }

-- a file that becomes trusted: of a targets file, what is kept of it
pub data Item : Type 0 where
  a_root : Root → Item
  a_timestamp : Timestamp → Item
  a_snapshot : Snapshot → Item
  a_targets : Targets → Item

-- a root after the one that is held
unfoldable pub after_root : State → Option Root → Root → State
after_root s None new = s
after_root s (Some old) new = with_root s old new

-- the one place where a trusted file enters the state
unfoldable pub trusting : State → Item → State
trusting s (a_root r) = after_root s s.root r
trusting s (a_timestamp t) = with_timestamp s t
trusting s (a_snapshot n) = with_snapshot s n
trusting s (a_targets g) = with_targets s g

-- the file that a call offers, where it can be read
unfoldable pub what_says : {A : Type 0} → (A → Item) → Read A → Option Item
what_says f (refused x) = None
what_says f (says a es) = Some (f a)

unfoldable pub offered : Call → Option Item
offered (new_cycle t) = None
offered (new_root o) = what_says a_root (root_in o.file)
offered (new_timestamp o) = what_says a_timestamp (timestamp_in o.file)
offered (new_snapshot o) = what_says a_snapshot (snapshot_in o.file)
offered (new_targets o) = what_says (λ g. a_targets (keep_targets o.file g)) (targets_in o.file)
offered (find q) = None
offered (ask_key k) = None
offered ask_state = None

unfoldable pub started : State → Call → State
started s (new_cycle t) = with_start s t
started s (new_root o) = s
started s (new_timestamp o) = s
started s (new_snapshot o) = s
started s (new_targets o) = s
started s (find q) = s
started s (ask_key k) = s
started s ask_state = s

unfoldable pub trusting_if : State → Option Item → State
trusting_if s None = s
trusting_if s (Some x) = trusting s x

-- what a call does to the state where it is not refused
unfoldable pub accepted : State → Call → State
accepted s c = trusting_if (started s c) (offered c)

-- "A refusal returns the state it was given"
unfoldable pub next : State → Call → State
next s c = cond (refuses c (answer s c)) s (accepted s c)

-- ## Install: "begins a new history, and a refused one returns the blank state"

unfoldable pub root_alone : Root → ℤ → State
root_alone r start = record { root = Some r; timestamp = None; snapshot = None; targets = None; start = start }

unfoldable pub begun : Read Root → ℤ → State
begun (refused f) start = blank
begun (says r es) start = root_alone r start

unfoldable pub installed : Install → State
installed o = cond (eqb (install_answer o) 0) (begun (root_in o.file) o.start) blank

-- ## What the contracts of the program's functions promise, for refusals as for successes

-- of install
pub record Began (o : Install) (answers : ℕ) (s : State) : Type 0 where
  pub answered : answers ≡ install_answer o
  pub became : s ≡ installed o

-- of a function that takes the state and returns the next one
pub record Stepped (s : State) (c : Call) (answers : ℕ) (s' : State) : Type 0 where
  pub answered : answers ≡ answer s c
  pub became : s' ≡ next s c
