-- Cases of the steps, on what files say: those of 01 ("Dates, texts and files to try"), and for each way in which "a controller gets it
-- wrong" one that such a controller fails.
use mathlib.Core.Path.{refl}
use mathlib.Core.List.{List, [], ◌∷◌, map}
use Rattle.std.specs.declared.option.Option.{Option}
use Rattle.std.specs.declared.option.Option.TheVariants.{None, Some}
use mathlib.Core.Bool.{Bool, true, false}
use Prim.Native.Nat.{ℕ}
use lib.IntN.{ℤ, pos, negsuc}
use lib.ListN.{replicate}
use Rattle.base.specs.Bytes.{Bytes, bytes}
use Rattle.canonical_json.specs.Json.{Json, jnull, mnil, mcons}
use Rattle.rules.specs.Limits.{max_path}
use Rattle.rules.specs.Take.{single, name_of}
use Rattle.rules.specs.Records.{Role, Listed}
use Rattle.rules.specs.Forms.{known_spec}
use Rattle.rules.specs.State.{Root, Timestamp, Snapshot, State, Row}
use Rattle.rules.specs.Table.{first, absent}
use Rattle.rules.specs.Conditions.{bad_digest}
use Rattle.rules.specs.Search.{compared}
use Rattle.rules.specs.Steps.{install_table, cycle_table, root_table, timestamp_table, snapshot_table, targets_table, find_table, with_root}
use Rattle.rules.specs.Asked.{unsearched, image_table, image_answer}
use Rattle.rules.proofs.Cases.{Case, ◌gives◌, Right, a, b, both}
use Rattle.rules.proofs.Computing.{tables, forms}

-- ## Files and states: roots are signed by key a, the other files by key b

abbrev pub only : Bytes → Role
only k = record { keyids = k ∷ []; threshold = 1 }

abbrev pub root_until : ℤ → ℕ → Role → Role → Role → Root
root_until expires version timestamp_role snapshot_role targets_role =
    record {
      version = version;
      expires = expires;
      keys = [];
      root_role = only a;
      timestamp_role = timestamp_role;
      snapshot_role = snapshot_role;
      targets_role = targets_role;
    }

abbrev pub root_at : ℕ → Role → Role → Role → Root
root_at = root_until (pos 1000)

abbrev pub root4 : Root
root4 = root_at 4 (only b) (only b) (only b)

-- Nothing lists a digest here; the cases of digests are in the crate cases.
abbrev pub listed : ℕ → Listed
listed version = record { version = version; length = Some 30; digest = None }

abbrev pub timestamp_at : ℕ → ℤ → ℕ → Timestamp
timestamp_at version expires snapshot = record { version = version; expires = expires; snapshot = listed snapshot }

abbrev pub snapshot_until : ℤ → ℕ → ℕ → Snapshot
snapshot_until expires version targets =
    record {
      version = version;
      expires = expires;
      names = record { name = bytes "targets.json"; listed = listed targets } ∷ [];
    }

abbrev pub snapshot_at : ℕ → ℕ → Snapshot
snapshot_at = snapshot_until (pos 1000)

-- a state that holds a root only, of any version or root 4
abbrev pub holding_root : Root → ℤ → State
holding_root root start = record { root = Some root; timestamp = None; snapshot = None; targets = None; start = start }

abbrev pub holding_version : ℕ → State
holding_version version = holding_root (root_at version (only b) (only b) (only b)) (pos 999)

abbrev pub holding : ℤ → State
holding = holding_root root4

-- a state that holds root 4, timestamp 2, snapshot 3 and targets 7, by when each expires, the snapshot that the timestamp lists and the
-- targets that the snapshot lists
abbrev pub holding_all : ℤ → ℤ → ℤ → ℤ → ℕ → ℕ → State
holding_all r t n g snapshot targets =
    record {
      root = Some (root_until r 4 (only b) (only b) (only b));
      timestamp = Some (timestamp_at 2 t snapshot);
      snapshot = Some (snapshot_until n 3 targets);
      targets = Some (record { version = 7; expires = g; digest = [] });
      start = pos 999;
    }

abbrev pub full : ℕ → State
full = holding_all (pos 1000) (pos 1000) (pos 1000) (pos 1000) 3

-- ## Answers. A file has one entry, with these verdicts

abbrev pub to_root : State → ℕ → ℕ → ℕ → ℕ
to_root s held_verdict own_verdict version =
    first (root_table s (record { file = []; held_row = held_verdict ∷ []; own_row = own_verdict ∷ [] })
    (root_at version (only b) (only b) (only b)) (a ∷ []))

abbrev pub to_timestamp : State → ℕ → Timestamp → ℕ
to_timestamp s verdict t = first (timestamp_table s (record { file = []; row = verdict ∷ [] }) t (b ∷ []))

-- a snapshot of so many bytes
abbrev pub to_snapshot : State → ℕ → ℕ → Snapshot → ℕ
to_snapshot s verdict long n = first (snapshot_table s (record { file = replicate long 0; row = verdict ∷ [] }) n (b ∷ []))

-- targets of that version, with no images
abbrev pub to_targets : State → ℕ → ℕ → ℕ → ℕ
to_targets s verdict long version =
    first (targets_table s (record { file = replicate long 0; row = verdict ∷ [] })
    (record { spec_version = bytes "1"; version = version; expires = pos 1000; body = [] }) (b ∷ []))

-- a path asked for, of targets that list these paths
abbrev pub to_find : State → Bytes → Bytes → List Bytes → ℕ
to_find s file path paths =
    first (find_table s (record { file = file; path = path })
    (record {
      spec_version = bytes "1";
      version = 7;
      expires = pos 1000;
      body = map (λ p. record { path = p; length = 30; digest = replicate 32 5 }) paths;
    }) [])

abbrev pub to_install : Row → ℕ
to_install row = first (install_table (record { file = []; row = row; start = pos 0 }) root4 (a ∷ []))

abbrev pub to_cycle : ℤ → ℤ → ℕ
to_cycle start t = first (cycle_table (holding start) t)

abbrev pub answers : List (Case ℕ)
answers =
    -- "a verdict row of another length than the entries, a verdict not 0 or 1"
    to_install (1 ∷ []) gives 0
    ∷ to_install (0 ∷ []) gives 10
    ∷ to_install [] gives 5
    ∷ to_install (1 ∷ 1 ∷ []) gives 5
    ∷ to_install (2 ∷ []) gives 5
    -- A8: "an earlier one is refused with the new number 17 ..; an equal one passes"; about 1970, and at both ends of 64 bits
    ∷ to_cycle (pos 1000) (pos 999) gives 17
    ∷ to_cycle (pos 1000) (pos 1000) gives 0
    ∷ to_cycle (pos 1000) (pos 1001) gives 0
    ∷ to_cycle (pos 0) (negsuc 0) gives 17
    ∷ to_cycle (negsuc 0) (negsuc 0) gives 0
    ∷ to_cycle (negsuc 0) (pos 0) gives 0
    ∷ to_cycle (negsuc 0) (negsuc 1) gives 17
    ∷ to_cycle (negsuc 0x7fff_ffff_ffff_ffff) (negsuc 0x7fff_ffff_ffff_ffff) gives 0
    ∷ to_cycle (negsuc 0x7fff_ffff_ffff_ffff) (pos 0x7fff_ffff_ffff_ffff) gives 0
    ∷ to_cycle (pos 0x7fff_ffff_ffff_ffff) (negsuc 0x7fff_ffff_ffff_ffff) gives 17
    -- "Held root 4: version 5 goes on; 4 and 6 are 11", also where both have expired
    ∷ to_root (holding (pos 2000)) 1 1 5 gives 0
    ∷ to_root (holding (pos 2000)) 1 1 4 gives 11
    ∷ to_root (holding (pos 2000)) 1 1 6 gives 11
    -- "Held 2,147,483,647: no next root exists", at A7's limit; what is above it is not read (VersionCases, `no_next_root` of Demand2)
    ∷ to_root (holding_version 9007199254740990) 1 1 9007199254740991 gives 0
    ∷ to_root (holding_version 9007199254740991) 1 1 9007199254740991 gives 11
    ∷ to_root (holding_version 9007199254740991) 1 1 9007199254740990 gives 11
    ∷ to_root (holding_version 9007199254740991) 1 1 1 gives 11
    -- one row of verdicts is not enough
    ∷ to_root (holding (pos 2000)) 0 1 5 gives 9
    ∷ to_root (holding (pos 2000)) 1 0 5 gives 10
    -- "a verdict not 0 or 1"
    ∷ to_root (holding (pos 2000)) 2 1 5 gives 5
    ∷ to_root (holding (pos 2000)) 1 2 5 gives 5
    -- "Expires 1000: start 999 passes, 1000 is expired"
    ∷ to_timestamp (holding (pos 999)) 1 (timestamp_at 1 (pos 1000) 1) gives 0
    ∷ to_timestamp (holding (pos 1000)) 1 (timestamp_at 1 (pos 2000) 1) gives 7
    ∷ to_timestamp (holding (pos 999)) 1 (timestamp_at 1 (pos 999) 1) gives 14
    -- "A timestamp both too thinly signed and expired: 9"
    ∷ to_timestamp (holding (pos 999)) 0 (timestamp_at 1 (pos 999) 1) gives 9
    -- "Below the held version 11, equal 12"; "13 if its snapshot version is below the held timestamp's"
    ∷ to_timestamp (full 7) 1 (timestamp_at 1 (pos 1000) 3) gives 11
    ∷ to_timestamp (full 7) 1 (timestamp_at 2 (pos 1000) 3) gives 12
    ∷ to_timestamp (full 7) 1 (timestamp_at 3 (pos 1000) 2) gives 13
    ∷ to_timestamp (full 7) 1 (timestamp_at 3 (pos 1000) 3) gives 0
    -- A7: "numbers files like 20260101120000"
    ∷ to_timestamp (full 7) 1 (timestamp_at 20260101120000 (pos 1000) 20260101115900) gives 0
    -- a snapshot as listed; of another length, version; not signed; with a lower version listed
    ∷ to_snapshot (full 7) 1 30 (snapshot_at 3 7) gives 0
    ∷ to_snapshot (full 7) 1 31 (snapshot_at 3 7) gives 8
    ∷ to_snapshot (full 7) 0 30 (snapshot_at 3 7) gives 9
    ∷ to_snapshot (full 7) 1 30 (snapshot_at 4 7) gives 11
    ∷ to_snapshot (full 7) 1 30 (snapshot_at 3 6) gives 13
    -- targets as listed; of another length, version; not signed
    ∷ to_targets (full 8) 1 30 8 gives 0
    ∷ to_targets (full 8) 1 31 8 gives 8
    ∷ to_targets (full 8) 0 30 8 gives 9
    ∷ to_targets (full 8) 1 30 9 gives 11
    ∷ []

pub answers-right : Right answers
unfolding tables
answers-right = refl

-- ## What each step needs and leans on

-- the step's answers where the root, the timestamp, the snapshot, the targets have expired
abbrev pub expired1 : (State → ℕ) → List ℕ
expired1 f =
    f (holding_all (pos 999) (pos 1000) (pos 1000) (pos 1000) 3 7)
    ∷ f (holding_all (pos 1000) (pos 999) (pos 1000) (pos 1000) 3 7)
    ∷ f (holding_all (pos 1000) (pos 1000) (pos 999) (pos 1000) 3 7)
    ∷ f (holding_all (pos 1000) (pos 1000) (pos 1000) (pos 999) 3 7)
    ∷ []

-- the same where one is not held, and where the snapshot, the targets are not current
abbrev pub missing1 : (State → ℕ) → List ℕ
missing1 f =
    let s = full 7 in
    f (record { root = None; timestamp = s.timestamp; snapshot = s.snapshot; targets = s.targets; start = s.start })
    ∷ f (record { root = s.root; timestamp = None; snapshot = s.snapshot; targets = s.targets; start = s.start })
    ∷ f (record { root = s.root; timestamp = s.timestamp; snapshot = None; targets = s.targets; start = s.start })
    ∷ f (record { root = s.root; timestamp = s.timestamp; snapshot = s.snapshot; targets = None; start = s.start })
    ∷ f (holding_all (pos 1000) (pos 1000) (pos 1000) (pos 1000) 4 7)
    ∷ f (holding_all (pos 1000) (pos 1000) (pos 1000) (pos 1000) 3 8)
    ∷ []

-- a good file for each step
abbrev pub good_root : State → ℕ
good_root s = to_root s 1 1 5

abbrev pub good_timestamp : State → ℕ
good_timestamp s = to_timestamp s 1 (timestamp_at 3 (pos 1000) 4)

abbrev pub good_snapshot : State → ℕ
good_snapshot s = to_snapshot s 1 30 (snapshot_at 3 8)

abbrev pub good_targets : State → ℕ
good_targets s = to_targets s 1 30 7

abbrev pub good_find : State → ℕ
good_find s = to_find s [] (bytes "a") (bytes "a" ∷ [])

abbrev pub on_each : (State → ℕ) → List ℕ → List ℕ → List (Case (List ℕ))
on_each f expired missing = expired1 f gives expired ∷ missing1 f gives missing ∷ []

-- "Expiry does not matter here"
pub root_leans : Right (on_each good_root (0 ∷ 0 ∷ 0 ∷ 0 ∷ []) (6 ∷ 0 ∷ 0 ∷ 0 ∷ 0 ∷ 0 ∷ []))
unfolding tables
root_leans = refl

-- "leans on root"
pub timestamp_leans : Right (on_each good_timestamp (7 ∷ 0 ∷ 0 ∷ 0 ∷ []) (6 ∷ 0 ∷ 0 ∷ 0 ∷ 0 ∷ 0 ∷ []))
unfolding tables
timestamp_leans = refl

-- "needs a timestamp, leans on root and timestamp"; where another version is listed it is 11
pub snapshot_leans : Right (on_each good_snapshot (7 ∷ 7 ∷ 0 ∷ 0 ∷ []) (6 ∷ 6 ∷ 0 ∷ 0 ∷ 11 ∷ 0 ∷ []))
unfolding tables
snapshot_leans = refl

-- "needs a current snapshot"; "leans on root, timestamp, snapshot"; where another version is listed it is 11
pub targets_leans : Right (on_each good_targets (7 ∷ 7 ∷ 7 ∷ 0 ∷ []) (6 ∷ 6 ∷ 6 ∷ 0 ∷ 6 ∷ 11 ∷ []))
unfolding tables
targets_leans = refl

-- "Needs current targets .. and a current snapshot; leans on all four"
pub find_leans : Right (on_each good_find (7 ∷ 7 ∷ 7 ∷ 7 ∷ []) (6 ∷ 6 ∷ 6 ∷ 6 ∷ 6 ∷ 6 ∷ []))
unfolding tables
find_leans = refl

-- ## Image: "the found length and digest against the fetched ones"

abbrev pub to_image : ℕ → ℕ → Bytes → ℕ
to_image listed_length fetched_length fetched =
    image_answer (record { length = listed_length; digest = replicate 32 5 }) (record { length = fetched_length; digest = fetched })

abbrev pub fetches : List (Case ℕ)
fetches =
    to_image 30 30 (replicate 32 5) gives 0
    ∷ to_image 30 31 (replicate 32 5) gives 8
    ∷ to_image 30 30 (replicate 32 6) gives 8
    ∷ to_image 30 31 (replicate 31 5) gives 5
    ∷ []

pub fetches-right : Right fetches
unfolding tables bad_digest image_table image_answer
fetches-right = refl

-- ## What an accepted root drops: whether timestamp, snapshot, targets

abbrev pub drops : Root → Root → List Bool
drops old new =
    let s = with_root (full 7) old new in
    absent s.timestamp ∷ absent s.snapshot ∷ absent s.targets ∷ []

-- the keys of `both` in another order, with this threshold
abbrev pub reordered : ℕ → Role
reordered threshold = record { keyids = b ∷ a ∷ []; threshold = threshold }

abbrev pub rotations : List (Case (List Bool))
rotations =
    -- the same sets, in whatever order
    drops root4 (root_at 5 (only b) (only b) (only b)) gives (false ∷ false ∷ false ∷ [])
    ∷ drops (root_at 4 both both both) (root_at 5 (reordered 1) (reordered 1) (reordered 1)) gives (false ∷ false ∷ false ∷ [])
    -- a key of the timestamp role added, removed, replaced
    ∷ drops root4 (root_at 5 both (only b) (only b)) gives (true ∷ true ∷ true ∷ [])
    ∷ drops (root_at 4 both (only b) (only b)) (root_at 5 (only b) (only b) (only b)) gives (true ∷ true ∷ true ∷ [])
    ∷ drops root4 (root_at 5 (only a) (only b) (only b)) gives (true ∷ true ∷ true ∷ [])
    -- of the snapshot role only
    ∷ drops root4 (root_at 5 (only b) both (only b)) gives (true ∷ true ∷ true ∷ [])
    -- "If only the targets set differs, the targets record alone is dropped"
    ∷ drops root4 (root_at 5 (only b) (only b) both) gives (false ∷ false ∷ true ∷ [])
    -- A5: "equal sets and thresholds 1 and 2", of the timestamp, the snapshot, the targets role; raised and lowered
    ∷ drops (root_at 4 both both both) (root_at 5 (reordered 2) both both) gives (true ∷ true ∷ true ∷ [])
    ∷ drops (root_at 4 (reordered 2) both both) (root_at 5 both both both) gives (true ∷ true ∷ true ∷ [])
    ∷ drops (root_at 4 both both both) (root_at 5 both (reordered 2) both) gives (true ∷ true ∷ true ∷ [])
    ∷ drops (root_at 4 both (reordered 2) both) (root_at 5 both both both) gives (true ∷ true ∷ true ∷ [])
    ∷ drops (root_at 4 both both both) (root_at 5 both both (reordered 2)) gives (false ∷ false ∷ true ∷ [])
    ∷ drops (root_at 4 both both (reordered 2)) (root_at 5 both both both) gives (false ∷ false ∷ true ∷ [])
    ∷ []

pub rotations-right : Right rotations
unfolding tables
rotations-right = refl

-- ## A path: "names of 1 to 128 bytes", and find's 15 by the same limits

abbrev pub paths : List (Case (Option Bytes))
paths =
    name_of max_path [] gives None
    ∷ name_of max_path (replicate 128 97) gives Some (replicate 128 97)
    ∷ name_of max_path (replicate 129 97) gives None
    ∷ []

pub paths-right : Right paths
unfolding forms
paths-right = refl

-- ## The names that find compares: "exactly the smaller ones, and one more where one is left"

abbrev pub three : List Bytes
three = bytes "a" ∷ bytes "a!" ∷ bytes "b" ∷ []

abbrev pub counts : List (Case ℕ)
counts =
    -- before the first name, by its length too
    compared [] three gives 1
    ∷ compared (bytes "A") three gives 1
    -- at each name
    ∷ compared (bytes "a") three gives 1
    ∷ compared (bytes "a!") three gives 2
    ∷ compared (bytes "b") three gives 3
    -- between two names, "a shorter prefix first"
    ∷ compared (bytes "a ") three gives 2
    ∷ compared (bytes "aa") three gives 3
    -- after the last name, none is left
    ∷ compared (bytes "ba") three gives 3
    ∷ compared (replicate 129 99) three gives 3
    -- nothing is listed
    ∷ compared (bytes "a") [] gives 0
    ∷ []

pub counts-right : Right counts
unfolding tables
counts-right = refl

-- with a refusal of 1 to 8 nothing was searched; with 0 and 15 all was
abbrev pub searches : List (Case (List Bool))
searches =
    map unsearched (1 ∷ 2 ∷ 3 ∷ 4 ∷ 6 ∷ 7 ∷ 8 ∷ []) gives (true ∷ true ∷ true ∷ true ∷ true ∷ true ∷ true ∷ [])
    ∷ map unsearched (0 ∷ 15 ∷ []) gives (false ∷ false ∷ [])
    ∷ []

pub searches-right : Right searches
unfolding unsearched
searches-right = refl

-- ## spec_version: "exactly `1` or beginning with `1.`"

abbrev pub specs : List (Case Bool)
specs =
    known_spec (bytes "1") gives true
    ∷ known_spec (bytes "1.0.26") gives true
    ∷ known_spec (bytes "10") gives false
    ∷ known_spec (bytes "2.0") gives false
    ∷ []

pub specs-right : Right specs
unfolding forms
specs-right = refl

-- ## A sole name, compared whole and with nothing behind it

abbrev pub sole_names : List (Case (Option Json))
sole_names =
    single (bytes "snapshot.json") (mcons (bytes "snapshot.json") jnull mnil) gives Some jnull
    ∷ single (bytes "a") (mcons (bytes "a!") jnull mnil) gives None
    ∷ []

pub sole-names-right : Right sole_names
unfolding forms
sole-names-right = refl
