-- Cases of the steps that compare a file's digest, on what files say. A file has 30 bytes that are all the same: the timestamp and the snapshot list
-- the digest of 30 bytes 5, and the targets that are held have that of 30 bytes 7.
use mathlib.Core.Path.{refl}
use mathlib.Core.List.{List, [], ◌∷◌}
use Rattle.std.specs.declared.option.Option.TheVariants.{Some}
use Prim.Native.Nat.{ℕ}
use lib.IntN.{pos}
use lib.ListN.{replicate}
use Rattle.base.specs.Bytes.{Bytes, bytes}
use Rattle.base.specs.Hex.{digit_of, undo}
use Rattle.sha256.proofs.Computing.{digests}
use Rattle.rules.specs.Records.{Listed}
use Rattle.rules.specs.State.{Snapshot, State}
use Rattle.rules.specs.Table.{first}
use Rattle.rules.specs.Steps.{snapshot_table, targets_table}
use Rattle.rules.proofs.Cases.{Case, ◌gives◌, Right, b}
use Rattle.rules.proofs.StepCases.{root4, to_find}
use Rattle.rules.proofs.Computing.{tables}

abbrev pub listed : ℕ → Listed
listed version =
    record { version = version; length = Some 30; digest = Some (undo (bytes "f7d4a24b8cc8378489ef431152b9858f686bb00c354620d911d7dcd319e95d1f")) }

abbrev pub names7 : Snapshot
names7 = record { version = 3; expires = pos 1000; names = record { name = bytes "targets.json"; listed = listed 7 } ∷ [] }

abbrev pub full : State
full =
    record {
      root = Some root4;
      timestamp = Some (record { version = 2; expires = pos 1000; snapshot = listed 3 });
      snapshot = Some names7;
      targets =
          Some
          (record {
            version = 7;
            expires = pos 1000;
            digest = undo (bytes "e9b626fe9cb2fceb5c59fab6ea88424cdf024f469a235999cfbcb0fd1b46e458");
          });
      start = pos 999;
    }

abbrev pub filled : ℕ → Bytes
filled byte = replicate 30 byte

abbrev pub to_snapshot : ℕ → ℕ
to_snapshot byte = first (snapshot_table full (record { file = filled byte; row = 1 ∷ [] }) names7 (b ∷ []))

abbrev pub to_targets : ℕ → ℕ
to_targets byte =
    first (targets_table full (record { file = filled byte; row = 1 ∷ [] })
    (record { spec_version = bytes "1"; version = 7; expires = pos 1000; body = [] }) (b ∷ []))

abbrev pub answers : List (Case ℕ)
answers =
    -- a snapshot and targets of the listed digest, and of another
    to_snapshot 5 gives 0
    ∷ to_snapshot 6 gives 8
    ∷ to_targets 5 gives 0
    ∷ to_targets 6 gives 8
    -- a listed path; in a file of another digest than the kept one
    ∷ to_find full (filled 7) (bytes "a") (bytes "a" ∷ []) gives 0
    ∷ to_find full (filled 6) (bytes "a") (bytes "a" ∷ []) gives 8
    -- "Empty targets list: a find to which 1 to 8 do not apply is 15"
    ∷ to_find full (filled 7) (bytes "a") [] gives 15
    -- "A path of length 0 or above 128 is 15"
    ∷ to_find full (filled 7) [] ([] ∷ []) gives 15
    ∷ to_find full (filled 7) (replicate 128 97) (replicate 128 97 ∷ []) gives 0
    ∷ to_find full (filled 7) (replicate 129 97) (replicate 129 97 ∷ []) gives 15
    ∷ []

pub answers-right : Right answers
unfolding tables digests digit_of undo
answers-right = refl
