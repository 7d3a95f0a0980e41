-- Cases of versions, on both sides of A7's "from 1 to 9,007,199,254,740,991", of lengths, which "stay", and of the places of each file that
-- hold a version. The cases of whole files are in the crate cases.
use mathlib.Core.Path.{refl}
use mathlib.Core.Bool.{false}
use mathlib.Core.List.{List, [], ◌∷◌}
use Rattle.std.specs.declared.option.Option.{Option}
use Rattle.std.specs.declared.option.Option.TheVariants.{None, Some}
use Prim.Native.Nat.{ℕ}
use Prim.Native.String.{String}
use lib.IntN.{pos}
use Rattle.base.specs.Bytes.{bytes}
use Rattle.canonical_json.specs.Json.{Json, num, obj, mnil, mcons}
use Rattle.rules.specs.Records.{Listed, Named}
use Rattle.rules.specs.Forms.{version, listed}
use Rattle.rules.specs.Steps.{a_root, a_timestamp, a_snapshot, a_targets}
use Rattle.rules.specs.History.{versions_of}
use Rattle.rules.proofs.Cases.{Case, ◌gives◌, Right}
use Rattle.rules.proofs.StepCases as steps
use Rattle.rules.proofs.Computing.{forms}

-- an object with these digits as its length and its version
abbrev pub numbered : String → String → Json
numbered long digits = obj (mcons (bytes "length") (num false (bytes long)) (mcons (bytes "version") (num false (bytes digits)) mnil))

abbrev pub versions : List (Case (Option ℕ))
versions =
    version (numbered "0" "0") gives None
    ∷ version (numbered "0" "1") gives Some 1
    -- 01's limit is one no more
    ∷ version (numbered "0" "2147483648") gives Some 2147483648
    -- "numbers files like 20260101120000"
    ∷ version (numbered "0" "20260101120000") gives Some 20260101120000
    ∷ version (numbered "0" "9007199254740991") gives Some 9007199254740991
    ∷ version (numbered "0" "9007199254740992") gives None
    ∷ []

pub versions-right : Right versions
unfolding forms
versions-right = refl

abbrev pub listings : List (Case (Option Listed))
listings =
    listed (numbered "4294967295" "9007199254740991")
    gives Some (record { version = 9007199254740991; length = Some 4294967295; digest = None })
    ∷ listed (numbered "4294967295" "9007199254740992") gives None
    ∷ listed (numbered "4294967296" "9007199254740991") gives None
    ∷ []

pub listings-right : Right listings
unfolding forms
listings-right = refl

-- ## The places that hold a version

abbrev pub listing : String → ℕ → Named
listing name version = record { name = bytes name; listed = steps.listed version }

abbrev pub places : List (Case (List ℕ))
places =
    versions_of (a_root steps.root4) gives (4 ∷ [])
    ∷ versions_of (a_timestamp (steps.timestamp_at 2 (pos 1000) 3)) gives (2 ∷ 3 ∷ [])
    ∷ versions_of (a_snapshot (record { version = 3; expires = pos 1000; names = listing "a" 9 ∷ listing "targets.json" 7 ∷ [] })) gives (3 ∷ 9 ∷ 7 ∷ [])
    ∷ versions_of (a_targets (record { version = 7; expires = pos 1000; digest = [] })) gives (7 ∷ [])
    ∷ []

pub places-right : Right places
places-right = refl
