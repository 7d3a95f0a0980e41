-- A small shelf: what is kept of a root, the answers of calls with the states that they return, and what is given besides. A history from install
-- to find, and a publisher after it, are in Witness.antt.
use mathlib.Core.Path.{refl}
use mathlib.Core.List.{List, [], ◌∷◌, ◌++◌}
use Rattle.std.specs.declared.option.Option.TheVariants.{None, Some}
use Prim.Native.Nat.{ℕ}
use Prim.Native.String.{String}
use lib.IntN.{ℤ, pos}
use Rattle.base.specs.Bytes.{Bytes, bytes}
use Rattle.base.specs.Hex.{undo}
use Rattle.sha256.specs.Message.{digest_of}
use Rattle.rules.specs.Forms.{root}
use Rattle.rules.specs.Reading.{no_table, read_as}
use Rattle.rules.specs.State.{blank, State, Call, Root, Timestamp, Snapshot, keep_root, kept, targets_in, new_cycle, new_timestamp, new_snapshot, new_targets, find, ask_key}
use Rattle.rules.specs.Records.{Key, Role, Named, Read, says}
use Rattle.rules.specs.Steps.{answer, with_start, next}
use Rattle.rules.specs.Asked.{Found, in_targets, compared_in, public_key, zeros, EntryAsked, entry_at}
use Rattle.cases.proofs.Texts.{timestamp_text, snapshot_text, targets_text, quoted, m, n, k, l, key_text, role_text, root_text}
use Rattle.rules.proofs.Cases.{Case, ◌gives◌, Right}
use Rattle.rules.proofs.Computing.{calls}

-- ## The shelf

abbrev pub stamp : String → String → Call
stamp snapshot version = new_timestamp (record { file = timestamp_text snapshot version; row = 1 ∷ [] })

abbrev pub shot : Call
shot = new_snapshot (record { file = snapshot_text "1" "1" "1"; row = 1 ∷ [] })

abbrev pub goods_file : Bytes
goods_file = targets_text "1"

abbrev pub goods : Call
goods = new_targets (record { file = goods_file; row = 1 ∷ [] })

-- ## What is held

-- 2030-01-01T00:00:00Z, when everything expires
abbrev pub end : ℤ
end = pos 1893456000

abbrev pub only : Bytes → Role
only keyid = record { keyids = undo keyid ∷ []; threshold = 1 }

abbrev pub both : Role
both = record { keyids = undo k ∷ undo l ∷ []; threshold = 1 }

abbrev pub key_k : Key
key_k = record { keyid = undo k; public = undo m }

abbrev pub key_l : Key
key_l = record { keyid = undo l; public = undo n }

abbrev pub held_root : List Key → Role → ℕ → Root
held_root keys timestamp_role version =
    record {
      version = version;
      expires = end;
      keys = keys;
      root_role = only k;
      timestamp_role = timestamp_role;
      snapshot_role = only k;
      targets_role = only k;
    }

abbrev pub root1 : Root
root1 = held_root (key_k ∷ []) (only k) 1

abbrev pub held_timestamp : Timestamp
held_timestamp = record { version = 1; expires = end; snapshot = record { version = 1; length = None; digest = None } }

abbrev pub version1 : String → Named
version1 name = record { name = bytes name; listed = record { version = 1; length = None; digest = None } }

abbrev pub held_snapshot : Snapshot
held_snapshot =
    record {
      version = 1;
      expires = end;
      names = version1 "a.json" ∷ version1 "targets.json" ∷ [];
    }

-- the states after install, timestamp, snapshot and targets, with whatever root and start time; the targets of that digest
module _ (held : Root) (start : ℤ) where
  abbrev pub root_only : State
  root_only = record { root = Some held; timestamp = None; snapshot = None; targets = None; start = start }

  abbrev pub stamped : State
  stamped = record { root = Some held; timestamp = Some held_timestamp; snapshot = None; targets = None; start = start }

  abbrev pub shown : State
  shown = record { root = Some held; timestamp = Some held_timestamp; snapshot = Some held_snapshot; targets = None; start = start }

  abbrev pub full : Bytes → State
  full digest =
      record {
        root = Some held;
        timestamp = Some held_timestamp;
        snapshot = Some held_snapshot;
        targets = Some (record { version = 1; expires = end; digest = digest });
        start = start;
      }

-- ## What is kept of a root: a role's keyids in the key table's order. Its keyids are not looked at here.

abbrev pub a_root : Bytes
a_root =
    root_text (key_text k m ++ bytes "," ++ key_text l n) (role_text (quoted k) "1") (role_text (quoted l ++ bytes "," ++ quoted k) "1") "1.0.26" "2"

abbrev pub keeps : List (Case (Read Root))
keeps = kept keep_root (read_as (bytes "root") root no_table a_root) gives says (held_root (key_k ∷ key_l ∷ []) both 2) (undo k ∷ []) ∷ []

pub keeps-right : Right keeps
unfolding calls
keeps-right = refl

-- ## The calls: answer and next state

abbrev pub step : State → Call → ℕ × State
step s c = (answer s c, next s c)

-- the digest of the targets is kept as it is
abbrev pub steps : List (Case (ℕ × State))
steps =
    let kept = digest_of goods_file in
    step (root_only root1 (pos 0)) shot gives (6, root_only root1 (pos 0))
    ∷ step (root_only root1 (pos 0)) (stamp "1" "1") gives (0, stamped root1 (pos 0))
    ∷ step (stamped root1 (pos 0)) shot gives (0, shown root1 (pos 0))
    ∷ step (shown root1 (pos 0)) goods gives (0, full root1 (pos 0) kept)
    ∷ step (full root1 (pos 0) kept) (stamp "1" "1") gives (12, full root1 (pos 0) kept)
    -- a keyid is text: 64 digits of hex, not the 32 bytes
    ∷ step (full root1 (pos 0) kept) (ask_key k) gives (0, full root1 (pos 0) kept)
    ∷ step (full root1 (pos 0) kept) (ask_key (undo k)) gives (15, full root1 (pos 0) kept)
    -- everything expires
    ∷ step (full root1 (pos 0) kept) (new_cycle end) gives (0, full root1 end kept)
    ∷ step (full root1 end kept) (stamp "1" "2") gives (7, full root1 end kept)
    -- A8: "an earlier one is refused with the new number 17 and changes nothing; an equal one passes"
    ∷ step (full root1 end kept) (new_cycle (pos 0)) gives (17, full root1 end kept)
    ∷ step (full root1 end kept) (new_cycle end) gives (0, full root1 end kept)
    -- "On a blank state every step but install, new cycle and image ends at 6"; "A cycle on a blank state sets only that time"
    ∷ step blank (find (record { file = goods_file; path = bytes "a/b" })) gives (6, blank)
    ∷ step blank (ask_key k) gives (6, blank)
    ∷ step blank (new_cycle (pos 7)) gives (0, with_start blank (pos 7))
    ∷ step blank (new_cycle blank.start) gives (0, blank)
    ∷ step (with_start blank (pos 7)) (new_cycle (pos 6)) gives (17, with_start blank (pos 7))
    ∷ []

pub steps-right : Right steps
unfolding calls
steps-right = refl

-- ## What is given besides: "Success gives length and sha256; a refusal gives zeros"

-- in a find that is not refused; `find_refused` of Demand2 says the rest
abbrev pub finds : List (Case Found)
finds =
    in_targets (bytes "a/b") (targets_in goods_file) gives (record { length = 5; digest = undo n })
    ∷ in_targets (bytes "a/c") (targets_in goods_file) gives (record { length = 0; digest = zeros 32 })
    ∷ []

pub finds-right : Right finds
unfolding calls
finds-right = refl

-- the names compared: nothing of a file that cannot be read
abbrev pub counts : List (Case ℕ)
counts =
    compared_in (bytes "a/b") (targets_in goods_file) gives 1
    ∷ compared_in [] (targets_in goods_file) gives 1
    ∷ compared_in (bytes "a/b") (targets_in []) gives 0
    ∷ []

pub counts-right : Right counts
unfolding calls
counts-right = refl

abbrev pub publics : List (Case Bytes)
publics =
    public_key (root_only root1 (pos 0)) k gives undo m
    ∷ public_key (root_only root1 (pos 0)) (undo k) gives zeros 32
    ∷ public_key blank k gives zeros 32
    ∷ []

pub publics-right : Right publics
unfolding calls
publics-right = refl

abbrev pub entries_asked : List (Case EntryAsked)
entries_asked =
    entry_at goods_file 0 gives (record { answer = 0; keyid = undo k; sig = undo (k ++ k) })
    ∷ entry_at goods_file 1 gives (record { answer = 15; keyid = zeros 32; sig = zeros 64 })
    ∷ entry_at (bytes "{}") 0 gives (record { answer = 3; keyid = zeros 32; sig = zeros 64 })
    ∷ []

pub entries-right : Right entries_asked
unfolding calls
entries-right = refl
