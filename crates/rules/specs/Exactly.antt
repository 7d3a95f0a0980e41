-- For each call: all of its conditions, in 01's words ("Steps"). A call answers 0 exactly when they hold, and then the state, or what was
-- asked for, is the one that is named here: demand 2 is the record `Demand2`. The crate history proves it.
use Rattle.std.specs.Prelude.{◌≡◌, ◌↔◌, ◌⊎◌, true, List, ℕ, ◌+◌, ◌≤◌, ◌<◌, ℤ, length, ◌≤ℤ◌, ◌<ℤ◌}
use Rattle.std.specs.declared.option.Option.TheVariants.{Some}
use Rattle.base.specs.Bytes.{Bytes}
use Rattle.base.specs.Hex.{is_hex, undo}
use Rattle.sha256.specs.Message.{digest_of}
use Rattle.rules.specs.Limits.{max_version, max_path, key_size}
use Rattle.rules.specs.Records.{Key, Image, File, says}
use Rattle.rules.specs.State.{Root, Timestamp, Snapshot, Targets, State, blank, root_in, timestamp_in, snapshot_in, targets_in, keep_targets, Install, RootOffer, FileOffer, Query, Call, new_cycle, new_root, new_timestamp, new_snapshot, new_targets, find, ask_key, ask_state}
use Rattle.rules.specs.Conditions.{targets_entry, image_of, key_of}
use Rattle.rules.specs.Search.{paths, compared, stopping, searched}
use Rattle.rules.specs.Steps.{install_answer, installed, root_alone, answer, next, with_start, with_root, with_timestamp, with_snapshot, with_targets, Item, a_root, a_timestamp, a_snapshot, a_targets, offered}
use Rattle.rules.specs.Asked.{Found, nothing_found, found, compared_by, zeros, public_key, image_answer}
use Rattle.rules.specs.Words.{GoodRow, GoodDigest, Enough, Expired, Keeps, Matches}

-- ## Records that a step needs or leans on

-- held and not expired
pub record LeansOnRoot (s : State) : Type 0 where
  pub root : Root
  pub root_held : s.root ≡ Some root
  pub root_fresh : ¬ Expired root.expires s.start

pub record LeansOnTimestamp (s : State) : Type 0 where
  pub on_root : LeansOnRoot s
  pub timestamp : Timestamp
  pub timestamp_held : s.timestamp ≡ Some timestamp
  pub timestamp_fresh : ¬ Expired timestamp.expires s.start

-- a current snapshot
pub record LeansOnSnapshot (s : State) : Type 0 where
  pub on_timestamp : LeansOnTimestamp s
  pub snapshot : Snapshot
  pub snapshot_held : s.snapshot ≡ Some snapshot
  pub snapshot_current : snapshot.version ≡ on_timestamp.timestamp.snapshot.version
  pub snapshot_fresh : ¬ Expired snapshot.expires s.start

-- current targets
pub record LeansOnTargets (s : State) : Type 0 where
  pub on_snapshot : LeansOnSnapshot s
  pub targets : Targets
  pub targets_held : s.targets ≡ Some targets
  pub targets_current : targets.version ≡ (targets_entry on_snapshot.snapshot).version
  pub targets_fresh : ¬ Expired targets.expires s.start

-- ## The conditions of each call

pub record InstallGood (o : Install) (r : Root) : Type 0 where
  pub entries : List Bytes
  pub reads : root_in o.file ≡ says r entries
  pub row : GoodRow entries o.row
  pub own_keys : Enough r.root_role entries o.row

pub record RootGood (s : State) (o : RootOffer) (r : Root) : Type 0 where
  pub entries : List Bytes
  pub reads : root_in o.file ≡ says r entries
  pub held_row : GoodRow entries o.held_row
  pub own_row : GoodRow entries o.own_row
  pub held : Root
  pub is_held : s.root ≡ Some held
  pub held_keys : Enough held.root_role entries o.held_row
  pub own_keys : Enough r.root_role entries o.own_row
  pub version : r.version ≡ held.version + 1

pub record TimestampGood (s : State) (o : FileOffer) (t : Timestamp) : Type 0 where
  pub entries : List Bytes
  pub reads : timestamp_in o.file ≡ says t entries
  pub row : GoodRow entries o.row
  pub on : LeansOnRoot s
  pub keys : Enough on.root.timestamp_role entries o.row
  pub newer : (h : Timestamp) → s.timestamp ≡ Some h → h.version < t.version
  pub not_lower : (h : Timestamp) → s.timestamp ≡ Some h → h.snapshot.version ≤ t.snapshot.version
  pub fresh : ¬ Expired t.expires s.start

pub record SnapshotGood (s : State) (o : FileOffer) (n : Snapshot) : Type 0 where
  pub entries : List Bytes
  pub reads : snapshot_in o.file ≡ says n entries
  pub row : GoodRow entries o.row
  pub on : LeansOnTimestamp s
  pub matches : Matches on.timestamp.snapshot (length o.file) (digest_of o.file)
  pub keys : Enough on.on_root.root.snapshot_role entries o.row
  pub version : n.version ≡ on.timestamp.snapshot.version
  pub keeps : (h : Snapshot) → s.snapshot ≡ Some h → Keeps h.names n.names
  pub fresh : ¬ Expired n.expires s.start

pub record TargetsGood (s : State) (o : FileOffer) (g : File (List Image)) : Type 0 where
  pub entries : List Bytes
  pub reads : targets_in o.file ≡ says g entries
  pub row : GoodRow entries o.row
  pub on : LeansOnSnapshot s
  pub matches : Matches (targets_entry on.snapshot) (length o.file) (digest_of o.file)
  pub keys : Enough on.on_timestamp.on_root.root.targets_role entries o.row
  pub version : g.version ≡ (targets_entry on.snapshot).version
  pub fresh : ¬ Expired g.expires s.start

pub record FindGood (s : State) (q : Query) (i : Image) : Type 0 where
  pub file : File (List Image)
  pub entries : List Bytes
  pub reads : targets_in q.file ≡ says file entries
  pub on : LeansOnTargets s
  pub kept : digest_of q.file ≡ on.targets.digest
  pub not_empty : 1 ≤ length q.path
  pub not_long : length q.path ≤ max_path
  pub listed : image_of q.path file.body ≡ Some i

pub record KeyGood (s : State) (k : Bytes) (x : Key) : Type 0 where
  pub root : Root
  pub root_held : s.root ≡ Some root
  pub hex : is_hex key_size k ≡ true
  pub listed : key_of (undo k) root.keys ≡ Some x

-- given no state: "the found length and digest against the fetched ones"
pub record ImageGood (listed fetched : Found) : Type 0 where
  pub listed_digest : GoodDigest listed.digest
  pub fetched_digest : GoodDigest fetched.digest
  pub same_length : listed.length ≡ fetched.length
  pub same_digest : listed.digest ≡ fetched.digest

-- ## The dates that a call looks at (A8: what it finds expired, and what fresh)

abbrev pub expires_of : Item → ℤ
expires_of (a_root r) = r.expires
expires_of (a_timestamp t) = t.expires
expires_of (a_snapshot n) = n.expires
expires_of (a_targets g) = g.expires

abbrev pub IsHeld : State → Item → Type 0
IsHeld s (a_root r) = s.root ≡ Some r
IsHeld s (a_timestamp t) = s.timestamp ≡ Some t
IsHeld s (a_snapshot n) = s.snapshot ≡ Some n
IsHeld s (a_targets g) = s.targets ≡ Some g

-- the roles in the order in which calls lean on them
abbrev pub rank : Item → ℕ
rank (a_root r) = 1
rank (a_timestamp t) = 2
rank (a_snapshot n) = 3
rank (a_targets g) = 4

-- up to which a call leans on them: a timestamp "on root", a snapshot "on root and timestamp", targets "on root, timestamp, snapshot", find
-- "on all four". Of a root "Expiry does not matter here", and the others ask for no date either.
abbrev pub leans_up_to : Call → ℕ
leans_up_to (new_cycle t) = 0
leans_up_to (new_root o) = 0
leans_up_to (new_timestamp o) = 1
leans_up_to (new_snapshot o) = 2
leans_up_to (new_targets o) = 3
leans_up_to (find q) = 4
leans_up_to (ask_key k) = 0
leans_up_to ask_state = 0

-- a file whose date the call compares with the start time in force: a record that it leans on (7), or the file that it offers (14)
pub data LooksAt (s : State) (c : Call) (x : Item) : Type 0 where
  leans_on : IsHeld s x → rank x ≤ leans_up_to c → LooksAt s c x
  offers : offered c ≡ Some x → 1 ≤ leans_up_to c → LooksAt s c x

pub record FindsExpired (s : State) (c : Call) (x : Item) : Type 0 where
  pub looks : LooksAt s c x
  pub expired : Expired (expires_of x) s.start

pub record FindsFresh (s : State) (c : Call) (x : Item) : Type 0 where
  pub looks : LooksAt s c x
  pub fresh : ¬ Expired (expires_of x) s.start

-- ## The claim

-- The held root was read from a file, so that no role names a key twice. It is so of every state of a history.
abbrev pub RootRead : State → Type 0
RootRead s = (r : Root) → s.root ≡ Some r → (file : Bytes) × (entries : List Bytes) × (root_in file ≡ says r entries)

-- of install, which is given no state
pub record InstallExactly (o : Install) : Type 0 where
  pub install : (install_answer o ≡ 0) ↔ ((r : Root) × InstallGood o r)
  pub install_after : (r : Root) → InstallGood o r → installed o ≡ root_alone r o.start
  pub install_refused : ¬ (install_answer o ≡ 0) → installed o ≡ blank

-- of image, which is given none either
abbrev pub ImageExactly : Found → Found → Type 0
ImageExactly listed fetched = (image_answer listed fetched ≡ 0) ↔ ImageGood listed fetched

-- of the calls that are given a state
pub record Demand2 (s : State) : Type 0 where
  pub root : (o : RootOffer) → (answer s (new_root o) ≡ 0) ↔ ((r : Root) × RootGood s o r)
  pub root_after : (o : RootOffer) (r : Root) (g : RootGood s o r) → next s (new_root o) ≡ with_root s g.held r
  -- "Held 2,147,483,647: no next root exists", which A7 moves to its limit
  pub no_next_root : (held : Root) → s.root ≡ Some held → held.version ≡ max_version → (o : RootOffer) → ¬ (answer s (new_root o) ≡ 0)
  pub timestamp : (o : FileOffer) → (answer s (new_timestamp o) ≡ 0) ↔ ((t : Timestamp) × TimestampGood s o t)
  pub timestamp_after : (o : FileOffer) (t : Timestamp) → TimestampGood s o t → next s (new_timestamp o) ≡ with_timestamp s t
  pub snapshot : (o : FileOffer) → (answer s (new_snapshot o) ≡ 0) ↔ ((n : Snapshot) × SnapshotGood s o n)
  pub snapshot_after : (o : FileOffer) (n : Snapshot) → SnapshotGood s o n → next s (new_snapshot o) ≡ with_snapshot s n
  pub targets : (o : FileOffer) → (answer s (new_targets o) ≡ 0) ↔ ((g : File (List Image)) × TargetsGood s o g)
  pub targets_after : (o : FileOffer) (g : File (List Image)) → TargetsGood s o g
      → next s (new_targets o) ≡ with_targets s (keep_targets o.file g)
  -- A8: "A new cycle with an earlier one is refused with the new number 17 and changes nothing; an equal one passes."
  pub cycle : (t : ℤ) → (answer s (new_cycle t) ≡ 0) ↔ (s.start ≤ℤ t)
  pub cycle_after : (t : ℤ) → s.start ≤ℤ t → next s (new_cycle t) ≡ with_start s t
  pub cycle_earlier : (t : ℤ) → (answer s (new_cycle t) ≡ 17) ↔ (t <ℤ s.start)
  -- "Success gives length and sha256; a refusal gives zeros"
  pub finds : (q : Query) → (answer s (find q) ≡ 0) ↔ ((i : Image) × FindGood s q i)
  pub finds_image : (q : Query) (i : Image) → FindGood s q i → found s q ≡ record { length = i.length; digest = i.digest }
  pub find_refused : (q : Query) → ¬ (answer s (find q) ≡ 0) → found s q ≡ nothing_found
  -- A2: the number of names compared is given "whenever 1 to 8 do not hold"; "with a refusal of 1 to 8 it is 0"
  pub find_compared : (q : Query) (g : File (List Image)) (es : List Bytes) → targets_in q.file ≡ says g es
      → (answer s (find q) ≡ 0) ⊎ (answer s (find q) ≡ 15) → compared_by s q ≡ compared q.path (paths g.body)
  pub find_unsearched : (q : Query) → ¬ (answer s (find q) ≡ 0) → ¬ (answer s (find q) ≡ 15) → compared_by s q ≡ 0
  -- A2: the search that stops finds and counts as the definitions do
  pub find_stops : (q : Query) (g : File (List Image)) (es : List Bytes) → targets_in q.file ≡ says g es
      → stopping q.path g.body ≡ searched q.path g.body
  pub keys : (k : Bytes) → (answer s (ask_key k) ≡ 0) ↔ ((x : Key) × KeyGood s k x)
  pub key_given : (k : Bytes) (x : Key) → KeyGood s k x → public_key s k ≡ x.public
  pub key_refused : (k : Bytes) → ¬ (answer s (ask_key k) ≡ 0) → public_key s k ≡ zeros key_size
  -- the calls that only read pass the state on
  pub find_after : (q : Query) → next s (find q) ≡ s
  pub key_after : (k : Bytes) → next s (ask_key k) ≡ s
  pub state_after : (answer s ask_state ≡ 0) × (next s ask_state ≡ s)
  -- A8: a call that answers 0 finds fresh every file at whose date it looks; one that answers 7 or 14 finds one expired.
  pub found_fresh : (c : Call) (x : Item) → answer s c ≡ 0 → LooksAt s c x → FindsFresh s c x
  pub found_expired : (c : Call) → (answer s c ≡ 7) ⊎ (answer s c ≡ 14) → (x : Item) × FindsExpired s c x
  -- "A refusal returns the state it was given"
  pub refused : (c : Call) → ¬ (answer s c ≡ 0) → next s c ≡ s
