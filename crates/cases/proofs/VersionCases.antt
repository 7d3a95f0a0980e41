-- Cases of whole files, on both sides of A7's "from 1 to 9,007,199,254,740,991" in each place that holds a version.
use mathlib.Core.Path.{refl}
use mathlib.Core.List.{List, [], ◌∷◌}
use Prim.Native.Nat.{ℕ}
use Prim.Native.String.{String}
use Rattle.base.specs.Hex.{undo}
use Rattle.sha256.proofs.Computing.{digests}
use Rattle.rules.specs.Records.{Read, refused, says, bad_form}
use Rattle.rules.specs.State.{kept, timestamp_in, snapshot_in, targets_in, keep_targets}
use Rattle.rules.specs.Steps.{a_timestamp, a_snapshot, a_targets}
use Rattle.rules.specs.History.{versions_of}
use Rattle.rules.proofs.Cases.{Case, ◌gives◌, Right}
use Rattle.rules.proofs.Computing.{calls}
use Rattle.cases.proofs.Texts.{quoted, m, k, key_text, role_text, root_text, timestamp_text, snapshot_text, targets_text}
use Rattle.cases.proofs.FileCases.{install}

abbrev pub highest : String
highest = "9007199254740991"

abbrev pub above : String
above = "9007199254740992"

-- ## A root, installed

abbrev pub install_at : String → ℕ
install_at version = install (root_text (key_text k m) (role_text (quoted k) "1") (role_text (quoted k) "1") "1" version) (1 ∷ [])

abbrev pub installs : List (Case ℕ)
installs =
    install_at highest gives 0
    ∷ install_at above gives 3
    ∷ install_at "0" gives 3
    ∷ []

pub installs-right : Right installs
unfolding calls digests
installs-right = refl

-- ## The other files: the versions that they say

abbrev pub timestamp_at : String → String → Read (List ℕ)
timestamp_at snapshot version = kept (λ t. versions_of (a_timestamp t)) (timestamp_in (timestamp_text snapshot version))

abbrev pub snapshot_at : String → String → String → Read (List ℕ)
snapshot_at other targets version = kept (λ n. versions_of (a_snapshot n)) (snapshot_in (snapshot_text other targets version))

abbrev pub targets_at : String → Read (List ℕ)
targets_at version = kept (λ g. versions_of (a_targets (keep_targets [] g))) (targets_in (targets_text version))

abbrev pub read : List ℕ → Read (List ℕ)
read versions = says versions (undo k ∷ [])

abbrev pub files : List (Case (Read (List ℕ)))
files =
    -- "numbers files like 20260101120000"
    timestamp_at "20260101115900" "20260101120000" gives read (20260101120000 ∷ 20260101115900 ∷ [])
    ∷ timestamp_at highest highest gives read (9007199254740991 ∷ 9007199254740991 ∷ [])
    ∷ timestamp_at above highest gives refused bad_form
    ∷ timestamp_at highest above gives refused bad_form
    ∷ snapshot_at highest highest highest gives read (9007199254740991 ∷ 9007199254740991 ∷ 9007199254740991 ∷ [])
    ∷ snapshot_at above highest highest gives refused bad_form
    ∷ snapshot_at highest above highest gives refused bad_form
    ∷ snapshot_at highest highest above gives refused bad_form
    ∷ targets_at highest gives read (9007199254740991 ∷ [])
    ∷ targets_at above gives refused bad_form
    ∷ []

pub files-right : Right files
unfolding calls
files-right = refl
