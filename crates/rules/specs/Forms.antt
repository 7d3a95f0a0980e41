-- The forms of 01 ("Forms"), in its order: what a JSON value of each form says; nothing where the form is broken. Members that no form
-- names are passed over.
use Rattle.std.specs.declared.option.Option.{Option}
use Rattle.std.specs.declared.option.Option.TheVariants.{None, Some}
use Rattle.std.specs.Prelude.{List, [], ◌∷◌, map, Bool, true, false, not, ◌&&◌, ◌||◌, ℕ, leb, length, take}
use Rattle.base.specs.Bytes.{Bytes, bytes, same}
use Rattle.base.specs.Hex.{hex_of}
use Rattle.sha256.specs.Message.{digest_of}
use Rattle.canonical_json.specs.Json.{Json, Members, mnil, mcons, put}
use Rattle.canonical_json.specs.Fields.{items, members, text, truth, number, lookup, field, keep, size, count, place_of}
use Rattle.rules.specs.Limits.{max_entries, max_version, max_keys, max_keyids, max_names, max_name, max_length, max_targets, max_path, digest_size, key_size, signature_size}
use Rattle.rules.specs.Take.{◌>>=◌, must, may, sole, each, each_named, word, unhex, hex, date, name_of}
use Rattle.rules.specs.Records.{Key, Role, Root, Listed, Named, Image, File, Entry}

-- ## Lists of byte strings

unfoldable pub is_in : Bytes → List Bytes → Bool
is_in k [] = false
is_in k (x ∷ xs) = same k x || is_in k xs

unfoldable pub different : List Bytes → Bool
different [] = true
different (x ∷ xs) = not (is_in x xs) && different xs

abbrev pub all_of : (Bytes → Bool) → List Bytes → Bool
all_of p [] = true
all_of p (x ∷ xs) = p x && all_of p xs

-- ## Envelope: "signatures", at most 16 entries of "keyid" and "sig"

unfoldable pub entry : Json → Option Entry
entry v =
    must (bytes "keyid") (hex key_size) v >>= λ keyid.
    must (bytes "sig") (hex signature_size) v >>= λ sig.
    Some (record { keyid = keyid; sig = sig })

unfoldable pub entries : Json → Option (List Entry)
entries v = items v >>= λ xs. keep (leb (size xs) max_entries) xs >>= each entry

-- "signed", an object: a part of the file, by its place and length
pub record Envelope : Type 0 where
  pub entries : List Entry
  pub signed : Json
  pub start : ℕ
  pub length : ℕ

unfoldable pub envelope : Json → Option Envelope
envelope v =
    must (bytes "signatures") entries v >>= λ es.
    members v >>= λ ms.
    lookup (bytes "signed") ms >>= λ signed.
    members signed >>= λ _.
    place_of (bytes "signed") ms >>= λ start.
    Some (record { entries = es; signed = signed; start = start; length = length (put signed []) })

-- ## Every role: "_type" with its name, "spec_version", "version", "expires"

unfoldable pub version : Json → Option ℕ
version v = must (bytes "version") (number 1 max_version) v

-- "exactly `1` or beginning with `1.`"
unfoldable pub known_spec : Bytes → Bool
known_spec b = same b (bytes "1") || same (take 2 b) (bytes "1.")

-- the file of a role whose "_type" is that name and whose body is read by `body`; "spec_version is a string (else 3)"
unfoldable pub file_of : {A : Type 0} → Bytes → (Json → Option A) → Json → Option (File A)
file_of type body v =
    must (bytes "_type") (word type) v >>= λ _.
    must (bytes "spec_version") text v >>= λ spec_version.
    version v >>= λ version.
    must (bytes "expires") date v >>= λ expires.
    body v >>= λ body.
    Some (record { spec_version = spec_version; version = version; expires = expires; body = body })

-- ## Root

-- "keyid to keytype and scheme `ed25519` and a keyval whose public is 64 lower-case hex"
unfoldable pub key : Bytes → Json → Option Key
key keyid v =
    unhex key_size keyid >>= λ keyid.
    must (bytes "keytype") (word (bytes "ed25519")) v >>= λ _.
    must (bytes "scheme") (word (bytes "ed25519")) v >>= λ _.
    must (bytes "keyval") (must (bytes "public") (hex key_size)) v >>= λ public.
    Some (record { keyid = keyid; public = public })

-- "keys, 1 to 16"; "no two keyids of one file may have the same public value"
unfoldable pub keys : Json → Option (List Key)
keys v =
    members v >>= λ ms.
    keep (leb 1 (count ms) && leb (count ms) max_keys) ms >>= λ ms.
    each_named key ms >>= λ keys.
    keep (different (map (λ (k : Key). k.public) keys)) keys

-- A1: "A key table's keyid must be the hex digest of the canonical text of its key, unknown members included"
unfoldable pub keyid_of : Json → Bytes
keyid_of key = hex_of (digest_of (put key []))

-- every keyid of a table is its key's
unfoldable pub own_keyids : Members → Bool
own_keyids mnil = true
own_keyids (mcons keyid key ms) = same keyid (keyid_of key) && own_keyids ms

-- the same of a member that may be no table, which is a broken form and said before
unfoldable pub own_table : Option Members → Bool
own_table None = true
own_table (Some ms) = own_keyids ms

-- "1 to 16 different keyids from the key table and a threshold from 1 to the number of those keyids"
unfoldable pub role : List Bytes → Json → Option Role
role table v =
    must (bytes "keyids") items v >>= λ xs.
    keep (leb 1 (size xs) && leb (size xs) max_keyids) xs >>= λ xs.
    each (hex key_size) xs >>= λ keyids.
    keep (different keyids && all_of (λ k. is_in k table) keyids) keyids >>= λ keyids.
    must (bytes "threshold") (number 1 (length keyids)) v >>= λ threshold.
    Some (record { keyids = keyids; threshold = threshold })

-- "consistent_snapshot true or false"; "roles with root, timestamp, snapshot and targets"; "Other role names are passed over"
unfoldable pub root : Json → Option Root
root v =
    must (bytes "consistent_snapshot") truth v >>= λ consistent_snapshot.
    must (bytes "keys") keys v >>= λ keys.
    field (bytes "roles") v >>= λ roles.
    must (bytes "root") (role (map (λ (k : Key). k.keyid) keys)) roles >>= λ root_role.
    must (bytes "timestamp") (role (map (λ (k : Key). k.keyid) keys)) roles >>= λ timestamp_role.
    must (bytes "snapshot") (role (map (λ (k : Key). k.keyid) keys)) roles >>= λ snapshot_role.
    must (bytes "targets") (role (map (λ (k : Key). k.keyid) keys)) roles >>= λ targets_role.
    Some (record {
      consistent_snapshot = consistent_snapshot;
      keys = keys;
      root_role = root_role;
      timestamp_role = timestamp_role;
      snapshot_role = snapshot_role;
      targets_role = targets_role;
    })

-- a root's key table
unfoldable pub root_keyids : Json → Bool
root_keyids v = own_table (must (bytes "keys") members v)

-- ## Timestamp and snapshot

-- "hashes must have sha256, 64 lower-case hex; other hash names are passed over"
unfoldable pub sha256 : Json → Option Bytes
sha256 v = must (bytes "sha256") (hex digest_size) v

-- "Each gives version, in the same range, and may give length (0 to 4,294,967,295) and hashes"
unfoldable pub listed : Json → Option Listed
listed v =
    version v >>= λ version.
    may (bytes "length") (number 0 max_length) v >>= λ length.
    may (bytes "hashes") sha256 v >>= λ digest.
    Some (record { version = version; length = length; digest = digest })

-- "meta with the one name `snapshot.json`"
unfoldable pub timestamp : Json → Option Listed
timestamp v = must (bytes "meta") (sole (bytes "snapshot.json") listed) v

unfoldable pub named : Bytes → Json → Option Named
named name v =
    name_of max_name name >>= λ name.
    listed v >>= λ listed.
    Some (record { name = name; listed = listed })

-- "meta with 1 to 32 names of 1 to 32 bytes, `targets.json` among them"
unfoldable pub names : Json → Option (List Named)
names v =
    members v >>= λ ms.
    keep (leb 1 (count ms) && leb (count ms) max_names) ms >>= λ ms.
    lookup (bytes "targets.json") ms >>= λ _.
    each_named named ms

unfoldable pub snapshot : Json → Option (List Named)
snapshot v = must (bytes "meta") names v

-- ## Targets

-- "each with length and hashes as above, both required"
unfoldable pub image : Bytes → Json → Option Image
image path v =
    name_of max_path path >>= λ path.
    must (bytes "length") (number 0 max_length) v >>= λ length.
    must (bytes "hashes") sha256 v >>= λ digest.
    Some (record { path = path; length = length; digest = digest })

-- "targets, 0 to 256 names of 1 to 128 bytes"
unfoldable pub images : Json → Option (List Image)
images v = members v >>= λ ms. keep (leb (count ms) max_targets) ms >>= each_named image

unfoldable pub targets : Json → Option (List Image)
targets v = must (bytes "targets") images v
