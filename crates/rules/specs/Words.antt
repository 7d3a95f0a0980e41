-- The paper's words as statements, apart from the tests that decide them.
use Rattle.std.specs.Prelude.{◌≡◌, ◌↔◌, ◌⊎◌, ℕ, ◌≤◌, ℤ, length, ◌≤ℤ◌}
use Rattle.std.specs.declared.option.Option.TheVariants.{Some}
use mathlib.Core.List.{List, [], ◌∷◌, Memᴰ}
use Rattle.base.specs.Bytes.{Bytes}
use Rattle.sha256.specs.Message.{digest_of}
use Rattle.canonical_json.specs.Json.{Json, put, Valid}
use Rattle.rules.specs.Limits.{max_version, digest_size}
use Rattle.rules.specs.Records.{Key, Role, Listed, Named}
use Rattle.rules.specs.Forms.{key, keyid_of}
use Rattle.rules.specs.State.{Row}
use Rattle.rules.specs.Conditions.{listed_as}

-- ## Refusal 5 does not hold

-- as many verdicts as entries, each 0 or 1
pub record GoodRow (entries : List Bytes) (row : Row) : Type 0 where
  pub long : length row ≡ length entries
  pub verdicts : (v : ℕ) → Memᴰ v row → v ≤ 1

abbrev pub GoodDigest : Bytes → Type 0
GoodDigest d = length d ≡ digest_size

-- ## Keys

-- "some entry with its keyid has verdict 1"
pub data Signed (k : Bytes) : List Bytes → Row → Type 0 where
  here : {es : List Bytes} {vs : Row} → Signed k (k ∷ es) (1 ∷ vs)
  later : {e : Bytes} {es : List Bytes} {v : ℕ} {vs : Row} → Signed k es vs → Signed k (e ∷ es) (v ∷ vs)

abbrev pub Different : List Bytes → Type 0
Different [] = Unit {0}
Different (k ∷ ks) = ¬ (Memᴰ k ks) × Different ks

-- different keys that the role names and that signed
pub record Signers (role : Role) (entries : List Bytes) (row : Row) (ks : List Bytes) : Type 0 where
  pub different : Different ks
  pub named : (k : Bytes) → Memᴰ k ks → Memᴰ k role.keyids
  pub signed : (k : Bytes) → Memᴰ k ks → Signed k entries row

-- "Enough keys: as many as the role's threshold count by the verdicts given"
pub record Enough (role : Role) (entries : List Bytes) (row : Row) : Type 0 where
  pub keys : List Bytes
  pub signers : Signers role entries row keys
  pub many : role.threshold ≤ length keys

-- A1: "A key table's keyid must be the hex digest of the canonical text of its key": that of a valid value which says this key
pub record OwnKeyid (k : Key) : Type 0 where
  pub value : Json
  pub depth : ℕ
  pub valid : Valid value depth
  pub says : key (keyid_of value) value ≡ Some k
  pub digest : k.keyid ≡ digest_of (put value [])

-- two texts of one digest
pub record Collision : Type 0 where
  pub one : Bytes
  pub other : Bytes
  pub differ : ¬ (one ≡ other)
  pub digest : digest_of one ≡ digest_of other

-- the role has the same set of keyids in both
abbrev pub SameKeys : Role → Role → Type 0
SameKeys old new = (k : Bytes) → Memᴰ k old.keyids ↔ Memᴰ k new.keyids

-- A5: "a role is rotated when its set of keyids or its threshold differs"
abbrev pub Rotated : Role → Role → Type 0
Rotated old new = ¬ SameKeys old new ⊎ ¬ (old.threshold ≡ new.threshold)

-- ## Versions

-- A7: "versions from 1 to 9,007,199,254,740,991"
pub record IsVersion (n : ℕ) : Type 0 where
  pub not_zero : 1 ≤ n
  pub at_most : n ≤ max_version

abbrev pub AllVersions : List ℕ → Type 0
AllVersions ns = (n : ℕ) → Memᴰ n ns → IsVersion n

-- ## Dates

-- "expires is at or below the start time in force"
abbrev pub Expired : ℤ → ℤ → Type 0
Expired expires start = expires ≤ℤ start

-- ## Lists

-- every name of the first list is in the second, none lower
abbrev pub Keeps : List Named → List Named → Type 0
Keeps old new =
    (n : Named) → Memᴰ n old → (l : Listed) × (listed_as n.name new ≡ Some l) × (n.listed.version ≤ l.version)

-- "Length and digest are compared where listed"
pub record Matches (l : Listed) (length : ℕ) (digest : Bytes) : Type 0 where
  pub length-is : (n : ℕ) → l.length ≡ Some n → length ≡ n
  pub digest-is : (d : Bytes) → l.digest ≡ Some d → digest ≡ d
