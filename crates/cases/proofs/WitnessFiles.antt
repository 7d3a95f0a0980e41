-- Small files of the four roles, as texts, and what they say: computed by the reader of the rules.
use mathlib.Core.Path.{◌≡◌, refl, ap}
use mathlib.Core.Bool.{Bool, true, false, cond, ◌&&◌}
use mathlib.Core.List.{List, [], ◌∷◌, ◌++◌}
use Rattle.std.specs.declared.option.Option.TheVariants.{None, Some}
use Prim.Native.Nat.{ℕ}
use Prim.Native.String.{String}
use lib.IntN.{pos}
use Rattle.base.specs.Bytes.{Bytes, bytes, same}
use Rattle.base.specs.Hex.{hex_of}
use Rattle.sha256.specs.Message.{digest_of}
use Rattle.sha256.proofs.Computing.{digests}
use Rattle.rules.specs.Records as records
use Rattle.rules.specs.Records.{Key, Role, Listed, Named, Image, File, Read, other_keyid, refused, says}
use Rattle.cases.proofs.Texts.{digits64, quoted, ed25519, m, n, k, l, k-is, l-is, key_text, role_text}
use Rattle.rules.proofs.Computing.{forms}
use Rattle.rules.specs.State.{Root, Timestamp, Snapshot, filter, keep_role, keep_root, keep_timestamp, keep_snapshot, kept, root_in, timestamp_in, snapshot_in, targets_in}

-- ## Texts

-- the bytes of the keyids k and l, and a digest: text and bytes
abbrev pub eight : Bytes → Bytes
eight t = t ++ t ++ t ++ t ++ t ++ t ++ t ++ t

abbrev pub a : Bytes
a =
    0x32 ∷ 0xd3 ∷ 0xb4 ∷ 0x92 ∷ 0xe6 ∷ 0x7b ∷ 0xf7 ∷ 0x33 ∷ 0x6b ∷ 0x82 ∷ 0x02 ∷ 0x00 ∷ 0x74 ∷ 0xfb ∷ 0xdd ∷ 0xaa ∷
    0x4d ∷ 0x30 ∷ 0xb3 ∷ 0x55 ∷ 0xd4 ∷ 0x7b ∷ 0x81 ∷ 0x13 ∷ 0xa6 ∷ 0xe0 ∷ 0x3b ∷ 0xd9 ∷ 0x1c ∷ 0x26 ∷ 0x66 ∷ 0x67 ∷ []

abbrev pub b : Bytes
b =
    0x91 ∷ 0xf9 ∷ 0x1e ∷ 0xad ∷ 0x10 ∷ 0xef ∷ 0x49 ∷ 0x54 ∷ 0x35 ∷ 0xc3 ∷ 0xc4 ∷ 0x07 ∷ 0x1a ∷ 0x57 ∷ 0x32 ∷ 0xea ∷
    0xfb ∷ 0xe0 ∷ 0x80 ∷ 0xf0 ∷ 0xff ∷ 0xc0 ∷ 0xa8 ∷ 0xd8 ∷ 0x26 ∷ 0xc8 ∷ 0x08 ∷ 0xbf ∷ 0x10 ∷ 0x6e ∷ 0x6a ∷ 0x17 ∷ []

-- the public values m and n
abbrev pub public_a : Bytes
public_a = eight (0x01 ∷ 0x23 ∷ 0xab ∷ 0xcd ∷ [])

abbrev pub public_b : Bytes
public_b = eight (0x45 ∷ 0x67 ∷ 0xab ∷ 0xcd ∷ [])

abbrev pub d_text : Bytes
d_text = quoted (digits64 "07070707")

abbrev pub d : Bytes
d = eight (7 ∷ 7 ∷ 7 ∷ 7 ∷ [])

-- a file with an entry of each key
abbrev pub entry_text : Bytes → Bytes
entry_text keyid = bytes "{\"keyid\":" ++ quoted keyid ++ bytes ",\"sig\":" ++ quoted (keyid ++ keyid) ++ bytes "}"

abbrev pub file_text : Bytes → Bytes
file_text body =
    bytes "{\"signatures\":[" ++ entry_text k ++ bytes "," ++ entry_text l ++ bytes "],\"signed\":{" ++ body ++ bytes "}}"

-- a root by its version, the threshold of its timestamp role, which is of both keys, and its targets key; the other roles are of k
abbrev pub root_text : String → String → Bytes → Bytes
root_text version threshold targets_key =
    file_text
    (bytes "\"_type\":\"root\",\"consistent_snapshot\":false,\"expires\":\"2030-01-01T00:00:00Z\",\"keys\":{"
    ++ key_text k m ++ bytes "," ++ key_text l n
    ++ bytes "},\"roles\":{\"root\":" ++ role_text (quoted k) "1"
    ++ bytes ",\"snapshot\":" ++ role_text (quoted k) "1"
    ++ bytes ",\"targets\":" ++ role_text (quoted targets_key) "1"
    ++ bytes ",\"timestamp\":" ++ role_text (quoted k ++ bytes "," ++ quoted l) threshold
    ++ bytes "},\"spec_version\":\"1\",\"version\":" ++ bytes version)

abbrev pub only : Bytes → Role
only k = record { keyids = k ∷ []; threshold = 1 }

abbrev pub pair : ℕ → Role
pair threshold = record { keyids = a ∷ b ∷ []; threshold = threshold }

abbrev pub the_keys : List Key
the_keys = record { keyid = a; public = public_a } ∷ record { keyid = b; public = public_b } ∷ []

abbrev pub root_at : ℕ → ℕ → Bytes → Root
root_at version threshold targets_key =
    record {
      version = version;
      expires = pos 1893456000;
      keys = the_keys;
      root_role = only a;
      timestamp_role = pair threshold;
      snapshot_role = only a;
      targets_role = only targets_key;
    }

-- what a file lists: a version alone, or with digest and length
abbrev pub version_text : String → Bytes
version_text version = bytes "{\"version\":" ++ bytes version ++ bytes "}"

abbrev pub full_text : String → String → String → Bytes
full_text digest length version =
    bytes "{\"hashes\":{\"sha256\":" ++ quoted (bytes digest) ++ bytes "},\"length\":" ++ bytes length ++ bytes ",\"version\":" ++ bytes version
    ++ bytes "}"

abbrev pub version_only : ℕ → Listed
version_only version = record { version = version; length = None; digest = None }

abbrev pub full : Bytes → ℕ → ℕ → Listed
full digest length version = record { version = version; length = Some length; digest = Some digest }

abbrev pub timestamp_text : String → Bytes → Bytes
timestamp_text version snapshot =
    file_text
    (bytes "\"_type\":\"timestamp\",\"expires\":\"2030-01-01T00:00:00Z\",\"meta\":{\"snapshot.json\":" ++ snapshot
    ++ bytes "},\"spec_version\":\"1\",\"version\":" ++ bytes version)

abbrev pub timestamp_at : ℕ → Listed → Timestamp
timestamp_at version snapshot = record { version = version; expires = pos 1893456000; snapshot = snapshot }

abbrev pub snapshot_text : String → Bytes → Bytes
snapshot_text version names =
    file_text
    (bytes "\"_type\":\"snapshot\",\"expires\":\"2030-01-01T00:00:00Z\",\"meta\":{" ++ names
    ++ bytes "},\"spec_version\":\"1\",\"version\":" ++ bytes version)

abbrev pub snapshot_at : ℕ → List Named → Snapshot
snapshot_at version names = record { version = version; expires = pos 1893456000; names = names }

abbrev pub name_text : String → Bytes → Bytes
name_text name listed = quoted (bytes name) ++ bytes ":" ++ listed

abbrev pub name : String → Listed → Named
name n listed = record { name = bytes n; listed = listed }

abbrev pub targets_text : String → Bytes → Bytes
targets_text version images =
    file_text
    (bytes "\"_type\":\"targets\",\"expires\":\"2030-01-01T00:00:00Z\",\"spec_version\":\"1\",\"targets\":{" ++ images
    ++ bytes "},\"version\":" ++ bytes version)

abbrev pub targets_at : ℕ → List Image → File (List Image)
targets_at version images = record { spec_version = bytes "1"; version = version; expires = pos 1893456000; body = images }

abbrev pub image_text : Bytes
image_text = bytes "\"f\":{\"hashes\":{\"sha256\":" ++ d_text ++ bytes "},\"length\":5}"

abbrev pub an_image : Image
an_image = record { path = bytes "f"; length = 5; digest = d }

-- ## Files

abbrev pub plain_names : Bytes
plain_names = name_text "a.json" (version_text "1") ++ bytes "," ++ name_text "targets.json" (version_text "3")

abbrev pub more_names : Bytes
more_names =
    name_text "a.json" (version_text "1") ++ bytes "," ++ name_text "b.json" (version_text "1") ++ bytes ","
    ++ name_text "targets.json" (version_text "3")

abbrev pub low_names : Bytes
low_names = name_text "a.json" (version_text "1") ++ bytes "," ++ name_text "targets.json" (version_text "1")

abbrev pub full_names : Bytes
full_names = name_text "a.json" (version_text "2") ++ bytes "," ++ name_text "targets.json" (full_text "3521faac5188e945c76c26e503289ebdcdd8ef5516bf4b8f7201d205db2ef801" "653" "2")

-- of the files that are listed with their digest
abbrev pub targets_digest : Bytes
targets_digest =
    0x35 ∷ 0x21 ∷ 0xfa ∷ 0xac ∷ 0x51 ∷ 0x88 ∷ 0xe9 ∷ 0x45 ∷ 0xc7 ∷ 0x6c ∷ 0x26 ∷ 0xe5 ∷ 0x03 ∷ 0x28 ∷ 0x9e ∷ 0xbd ∷
    0xcd ∷ 0xd8 ∷ 0xef ∷ 0x55 ∷ 0x16 ∷ 0xbf ∷ 0x4b ∷ 0x8f ∷ 0x72 ∷ 0x01 ∷ 0xd2 ∷ 0x05 ∷ 0xdb ∷ 0x2e ∷ 0xf8 ∷ 0x01 ∷ []

abbrev pub snapshot_digest : Bytes
snapshot_digest =
    0xa6 ∷ 0x1b ∷ 0xf3 ∷ 0x72 ∷ 0xfb ∷ 0x80 ∷ 0x71 ∷ 0xf5 ∷ 0x77 ∷ 0x81 ∷ 0x19 ∷ 0x0d ∷ 0xef ∷ 0x3e ∷ 0x1b ∷ 0xbe ∷
    0x8d ∷ 0xe3 ∷ 0x0f ∷ 0xd5 ∷ 0x52 ∷ 0x34 ∷ 0x8b ∷ 0xbd ∷ 0x19 ∷ 0x4a ∷ 0xe2 ∷ 0x2f ∷ 0x54 ∷ 0x96 ∷ 0x5f ∷ 0x8f ∷ []

abbrev pub plain : Snapshot
plain = snapshot_at 7 (name "a.json" (version_only 1) ∷ name "targets.json" (version_only 3) ∷ [])

abbrev pub more : Snapshot
more = snapshot_at 7 (name "a.json" (version_only 1) ∷ name "b.json" (version_only 1) ∷ name "targets.json" (version_only 3) ∷ [])

abbrev pub low : Snapshot
low = snapshot_at 2 (name "a.json" (version_only 1) ∷ name "targets.json" (version_only 1) ∷ [])

abbrev pub complete : Snapshot
complete = snapshot_at 3 (name "a.json" (version_only 2) ∷ name "targets.json" (full targets_digest 653 2) ∷ [])

pub targets-digest : digest_of (targets_text "2" image_text) ≡ targets_digest
unfolding digests
targets-digest = refl

pub snapshot-digest : digest_of (snapshot_text "3" full_names) ≡ snapshot_digest
unfolding digests
snapshot-digest = refl

-- what the roots say, where their key table has the keyids of its keys
abbrev root_says : ℕ → ℕ → Bytes → File records.Root
root_says version threshold targets_key =
    record {
      spec_version = bytes "1";
      version = version;
      expires = pos 1893456000;
      body = record {
        consistent_snapshot = false;
        keys = the_keys;
        root_role = only a;
        timestamp_role = pair threshold;
        snapshot_role = only a;
        targets_role = only targets_key;
      };
    }

own : same k (hex_of (digest_of (ed25519 m))) && (same l (hex_of (digest_of (ed25519 n))) && true) ≡ true
unfolding same
own = rw (k-is, l-is) refl

abbrev when_own : File records.Root → Bool → Read Root
when_own f own = kept keep_root (cond own (says f (a ∷ b ∷ [])) (refused other_keyid))

abbrev pub Says : {A : Type 0} → (Bytes → Read A) → Bytes → A → Type 0
Says reading text file = reading text ≡ says file (a ∷ b ∷ [])

pub record Readings : Type 0 where
  pub root1 : Says root_in (root_text "1" "1" k) (root_at 1 1 a)
  pub root2 : Says root_in (root_text "2" "1" l) (root_at 2 1 b)
  pub root3 : Says root_in (root_text "3" "2" l) (root_at 3 2 b)
  pub root4 : Says root_in (root_text "4" "2" l) (root_at 4 2 b)
  pub timestamp5 : Says timestamp_in (timestamp_text "5" (version_text "7")) (timestamp_at 5 (version_only 7))
  pub timestamp6 : Says timestamp_in (timestamp_text "6" (version_text "7")) (timestamp_at 6 (version_only 7))
  pub timestamp1 : Says timestamp_in (timestamp_text "1" (version_text "2")) (timestamp_at 1 (version_only 2))
  pub timestamp2 : Says timestamp_in (timestamp_text "2" (full_text "a61bf372fb8071f57781190def3e1bbe8de30fd552348bbd194ae22f54965f8f" "699" "3")) (timestamp_at 2 (full snapshot_digest 699 3))
  pub snapshot7 : Says snapshot_in (snapshot_text "7" plain_names) plain
  pub snapshot7_more : Says snapshot_in (snapshot_text "7" more_names) more
  pub snapshot2 : Says snapshot_in (snapshot_text "2" low_names) low
  pub snapshot3 : Says snapshot_in (snapshot_text "3" full_names) complete
  pub targets3 : Says targets_in (targets_text "3" image_text) (targets_at 3 (an_image ∷ []))
  pub empty3 : Says targets_in (targets_text "3" []) (targets_at 3 [])
  pub targets1 : Says targets_in (targets_text "1" image_text) (targets_at 1 (an_image ∷ []))
  pub targets2 : Says targets_in (targets_text "2" image_text) (targets_at 2 (an_image ∷ []))

pub readings : Readings
unfolding forms filter keep_role keep_root keep_timestamp keep_snapshot kept root_in timestamp_in snapshot_in targets_in
readings =
    record {
      root1 = ap (when_own (root_says 1 1 a)) own;
      root2 = ap (when_own (root_says 2 1 b)) own;
      root3 = ap (when_own (root_says 3 2 b)) own;
      root4 = ap (when_own (root_says 4 2 b)) own;
      timestamp5 = refl;
      timestamp6 = refl;
      timestamp1 = refl;
      timestamp2 = refl;
      snapshot7 = refl;
      snapshot7_more = refl;
      snapshot2 = refl;
      snapshot3 = refl;
      targets3 = refl;
      empty3 = refl;
      targets1 = refl;
      targets2 = refl;
    }
