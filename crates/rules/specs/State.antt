-- The trusted state: what the controller keeps of the files that became trusted (01, "Steps"), and the calls that are given it.
use Rattle.std.specs.declared.option.Option.{Option}
use Rattle.std.specs.declared.option.Option.TheVariants.{None}
use Rattle.std.specs.Prelude.{Bool, cond, List, [], ◌∷◌, map, ℕ, ℤ, negsuc}
use Rattle.base.specs.Bytes.{Bytes}
use Rattle.sha256.specs.Message.{digest_of}
use Rattle.rules.specs.Records as records
use Rattle.rules.specs.Records.{Key, Role, Listed, Named, Image, File, Read, refused, says}
use Rattle.rules.specs.Forms.{is_in}
use Rattle.rules.specs.Reading.{read_root, read_timestamp, read_snapshot, read_targets}

-- ## What is kept of each file

-- A role's keyids are kept in the order of the key table, so that a set has one representation.
pub record Root : Type 0 where
  pub version : ℕ
  pub expires : ℤ
  pub keys : List Key
  pub root_role : Role
  pub timestamp_role : Role
  pub snapshot_role : Role
  pub targets_role : Role

pub record Timestamp : Type 0 where
  pub version : ℕ
  pub expires : ℤ
  pub snapshot : Listed

pub record Snapshot : Type 0 where
  pub version : ℕ
  pub expires : ℤ
  pub names : List Named

-- "The file's digest is kept", and not its images
pub record Targets : Type 0 where
  pub version : ℕ
  pub expires : ℤ
  pub digest : Bytes

pub record State : Type 0 where
  pub root : Option Root
  pub timestamp : Option Timestamp
  pub snapshot : Option Snapshot
  pub targets : Option Targets
  -- the start time in force; A8: "The state keeps the latest start time it has had", which is this one (`latest` of `Demand3`)
  pub start : ℤ

-- "the blank state, which holds no record and has the lowest signed 64-bit count as its start time"
unfoldable pub blank : State
blank =
    record { root = None; timestamp = None; snapshot = None; targets = None; start = negsuc 0x7fff_ffff_ffff_ffff }

-- ## From what a file says to what is kept

unfoldable pub filter : {A : Type 0} → (A → Bool) → List A → List A
filter p [] = []
filter p (x ∷ xs) = cond (p x) (x ∷ filter p xs) (filter p xs)

unfoldable pub keep_role : List Key → Role → Role
keep_role keys role =
    record { keyids = filter (λ k. is_in k role.keyids) (map (λ (k : Key). k.keyid) keys); threshold = role.threshold }

unfoldable pub keep_root : File records.Root → Root
keep_root f =
    record {
      version = f.version;
      expires = f.expires;
      keys = f.body.keys;
      root_role = keep_role f.body.keys f.body.root_role;
      timestamp_role = keep_role f.body.keys f.body.timestamp_role;
      snapshot_role = keep_role f.body.keys f.body.snapshot_role;
      targets_role = keep_role f.body.keys f.body.targets_role;
    }

unfoldable pub keep_timestamp : File Listed → Timestamp
keep_timestamp f = record { version = f.version; expires = f.expires; snapshot = f.body }

unfoldable pub keep_snapshot : File (List Named) → Snapshot
keep_snapshot f = record { version = f.version; expires = f.expires; names = f.body }

unfoldable pub keep_targets : Bytes → File (List Image) → Targets
keep_targets file f = record { version = f.version; expires = f.expires; digest = digest_of file }

-- a reading, with what is kept of the file in place of what it says
unfoldable pub kept : {A B : Type 0} → (A → B) → Read A → Read B
kept f (refused x) = refused x
kept f (says a es) = says (f a) es

unfoldable pub root_in : Bytes → Read Root
root_in file = kept keep_root (read_root file)

unfoldable pub timestamp_in : Bytes → Read Timestamp
timestamp_in file = kept keep_timestamp (read_timestamp file)

unfoldable pub snapshot_in : Bytes → Read Snapshot
snapshot_in file = kept keep_snapshot (read_snapshot file)

-- of a targets file all that it says, since find looks into it
unfoldable pub targets_in : Bytes → Read (File (List Image))
targets_in file = read_targets file

-- ## What a call is given

-- a verdict row: "one byte for each signature entry, in file order"
abbrev pub Row : Type 0
Row = List ℕ

-- "A first root, installed from the factory, brings only the second" row
pub record Install : Type 0 where
  pub file : Bytes
  pub row : Row
  pub start : ℤ

-- "A root brings two rows of verdicts: under the held root's keys and under its own"
pub record RootOffer : Type 0 where
  pub file : Bytes
  pub held_row : Row
  pub own_row : Row

-- a timestamp, snapshot or targets file and its row (A1: "Digest arguments for metadata go away")
pub record FileOffer : Type 0 where
  pub file : Bytes
  pub row : Row

-- "given the targets file .. and a path"
pub record Query : Type 0 where
  pub file : Bytes
  pub path : Bytes

-- the calls that are given a state
pub data Call : Type 0 where
  new_cycle : ℤ → Call
  new_root : RootOffer → Call
  new_timestamp : FileOffer → Call
  new_snapshot : FileOffer → Call
  new_targets : FileOffer → Call
  find : Query → Call
  ask_key : Bytes → Call
  -- the held versions and the start time asked for
  ask_state : Call
