-- Cases of whole files: a small root, read and installed; and 01's envelope, looked into.
use mathlib.Core.Path.{◌≡◌, refl}
use mathlib.Core.List.{List, [], ◌∷◌, ◌++◌}
use Prim.Native.Nat.{ℕ}
use Prim.Native.String.{String}
use lib.IntN.{pos}
use Rattle.base.specs.Bytes.{Bytes, bytes}
use Rattle.sha256.proofs.Computing.{digests}
use Rattle.rules.specs.State.{Row}
use Rattle.rules.specs.Steps.{install_answer}
use Rattle.rules.specs.Asked.{look}
use Rattle.cases.proofs.Texts.{quoted, m, n, k, l, key_text, role_text, root_text}
use Rattle.rules.proofs.Cases.{Case, ◌gives◌, Right}
use Rattle.rules.proofs.Computing.{calls}

-- ## Installed

abbrev pub install : Bytes → Row → ℕ
install file row = install_answer (record { file = file; row = row; start = pos 0 })

-- of that key table, which has k, with that root role and spec_version
abbrev pub tabled : Bytes → Bytes → String → String → Row → ℕ
tabled table keyids threshold spec row = install (root_text table (role_text keyids threshold) (role_text (quoted k) "1") spec "1") row

-- with one key
abbrev pub installed : Bytes → String → String → Row → ℕ
installed = tabled (key_text k m)

-- with two keys, the second of that public value, and both in the root role
abbrev pub two_keys : Bytes → String → Row → ℕ
two_keys public threshold row = tabled (key_text k m ++ bytes "," ++ key_text l public) (quoted l ++ bytes "," ++ quoted k) threshold "1" row

abbrev pub specs : List (Case ℕ)
specs =
    installed (quoted k) "1" "1.0.26" (1 ∷ []) gives 0
    -- "exactly `1` or beginning with `1.`. Any other string is refusal 4"
    ∷ installed (quoted k) "1" "10" (1 ∷ []) gives 4
    -- "a threshold from 1 to the number of those keyids", and 3 before 4
    ∷ installed (quoted k) "0" "1" (1 ∷ []) gives 3
    ∷ installed (quoted k) "2" "1" (1 ∷ []) gives 3
    ∷ installed (quoted k) "2" "2.0" (1 ∷ []) gives 3
    -- "1 to 16 different keyids from the key table"
    ∷ installed [] "1" "1" (1 ∷ []) gives 3
    ∷ installed (quoted k ++ bytes "," ++ quoted k) "1" "1" (1 ∷ []) gives 3
    ∷ installed (quoted l) "1" "1" (1 ∷ []) gives 3
    -- "nothing after the value"; "empty input included"
    ∷ install (root_text (key_text k m) (role_text (quoted k) "1") (role_text (quoted k) "1") "1" "1" ++ bytes " ") (1 ∷ []) gives 2
    ∷ install [] [] gives 2
    ∷ []

pub specs-right : Right specs
unfolding calls digests
specs-right = refl

-- two keys; "no two keyids of one file may have the same public value"
abbrev pub keys : List (Case ℕ)
keys =
    two_keys n "2" (1 ∷ []) gives 10
    ∷ two_keys m "1" (1 ∷ []) gives 3
    ∷ []

pub keys-right : Right keys
unfolding calls digests
keys-right = refl

-- A1: "A key table's keyid must be the hex digest of the canonical text of its key", else 16, "tried between 3 and 4"
abbrev pub others : List (Case ℕ)
others =
    tabled (key_text k n) (quoted k) "1" "1" (1 ∷ []) gives 16
    ∷ tabled (key_text k n) (quoted k) "1" "2.0" (1 ∷ []) gives 16
    ∷ tabled (key_text k n) (quoted k) "2" "1" (1 ∷ []) gives 3
    ∷ []

pub others-right : Right others
unfolding calls digests
others-right = refl

-- "unknown members included": a key with a member more has another keyid than l
abbrev pub member : Bytes → Bytes
member keyid = quoted keyid ++ bytes ":{\"keytype\":\"ed25519\",\"keyval\":{\"public\":" ++ quoted n ++ bytes "},\"scheme\":\"ed25519\",\"x\":1}"

abbrev pub unknown : List (Case ℕ)
unknown =
    tabled (key_text k m ++ bytes "," ++ member (bytes "ae22165e45ff6f18705d5123eb4081e05c032da1951e25dbebf93458e3d7b47d")) (quoted k) "1" "1" (1 ∷ []) gives 0
    ∷ tabled (key_text k m ++ bytes "," ++ member l) (quoted k) "1" "1" (1 ∷ []) gives 16
    ∷ []

pub unknown-right : Right unknown
unfolding calls digests
unknown-right = refl

-- ## Looked into: "2 bytes from place 26, and 0 entries"

pub looks : look (bytes "{\"signatures\":[],\"signed\":{}}") ≡ record { answer = 0; start = 26; length = 2; entries = 0 }
unfolding calls
looks = refl
