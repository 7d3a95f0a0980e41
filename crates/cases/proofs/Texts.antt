-- The texts of a small shelf: one key k signs everything.
use mathlib.Core.Path.{◌≡◌, refl}
use mathlib.Core.List.{◌++◌}
use Prim.Native.String.{String}
use Rattle.base.specs.Bytes.{Bytes, bytes}
use Rattle.base.specs.Hex.{hex_of}
use Rattle.sha256.specs.Message.{digest_of}
use Rattle.sha256.proofs.Computing.{digests}

-- 64 digits of hex that are the same 8
abbrev pub digits64 : String → Bytes
digits64 s = bytes s ++ bytes s ++ bytes s ++ bytes s ++ bytes s ++ bytes s ++ bytes s ++ bytes s

abbrev pub quoted : Bytes → Bytes
quoted t = bytes "\"" ++ t ++ bytes "\""

-- a key, by its public value in hex
abbrev pub ed25519 : Bytes → Bytes
ed25519 public = bytes "{\"keytype\":\"ed25519\",\"keyval\":{\"public\":" ++ quoted public ++ bytes "},\"scheme\":\"ed25519\"}"

-- two public values, and the keyids of these keys
abbrev pub m : Bytes
m = digits64 "0123abcd"

abbrev pub n : Bytes
n = digits64 "4567abcd"

abbrev pub k : Bytes
k = bytes "32d3b492e67bf7336b82020074fbddaa4d30b355d47b8113a6e03bd91c266667"

abbrev pub l : Bytes
l = bytes "91f91ead10ef495435c3c4071a5732eafbe080f0ffc0a8d826c808bf106e6a17"

pub k-is : hex_of (digest_of (ed25519 m)) ≡ k
unfolding digests
k-is = refl

pub l-is : hex_of (digest_of (ed25519 n)) ≡ l
unfolding digests
l-is = refl

-- a file with one signature entry, of key k, around the text of its signed part
abbrev pub file_text : Bytes → Bytes
file_text signed =
    bytes "{\"signatures\":[{\"keyid\":" ++ quoted k ++ bytes ",\"sig\":" ++ quoted (k ++ k) ++ bytes "}],\"signed\":" ++ signed ++ bytes "}"

-- a line of the key table: a keyid and its key
abbrev pub key_text : Bytes → Bytes → Bytes
key_text keyid public = quoted keyid ++ bytes ":" ++ ed25519 public

-- a role: its keyids, as they stand in the array, and its threshold
abbrev pub role_text : Bytes → String → Bytes
role_text keyids threshold = bytes "{\"keyids\":[" ++ keyids ++ bytes "],\"threshold\":" ++ bytes threshold ++ bytes "}"

-- a root: its key table, the roles of root and timestamp, its spec_version and version
abbrev pub root_text : Bytes → Bytes → Bytes → String → String → Bytes
root_text table root_role timestamp_role spec version =
    file_text
    (bytes "{\"_type\":\"root\",\"consistent_snapshot\":false,\"expires\":\"2030-01-01T00:00:00Z\",\"keys\":{" ++ table
    ++ bytes "},\"roles\":{\"root\":" ++ root_role
    ++ bytes ",\"snapshot\":" ++ role_text (quoted k) "1"
    ++ bytes ",\"targets\":" ++ role_text (quoted k) "1"
    ++ bytes ",\"timestamp\":" ++ timestamp_role
    ++ bytes "},\"spec_version\":" ++ quoted (bytes spec) ++ bytes ",\"version\":" ++ bytes version ++ bytes "}")

-- a timestamp: the snapshot's version and its own
abbrev pub timestamp_text : String → String → Bytes
timestamp_text snapshot version =
    file_text
    (bytes "{\"_type\":\"timestamp\",\"expires\":\"2030-01-01T00:00:00Z\",\"meta\":{\"snapshot.json\":{\"version\":" ++ bytes snapshot
    ++ bytes "}},\"spec_version\":\"1.0.26\",\"version\":" ++ bytes version ++ bytes "}")

-- a snapshot: the versions of `a.json` and targets that it lists and its own
abbrev pub snapshot_text : String → String → String → Bytes
snapshot_text other targets version =
    file_text
    (bytes "{\"_type\":\"snapshot\",\"expires\":\"2030-01-01T00:00:00Z\",\"meta\":{\"a.json\":{\"version\":" ++ bytes other
    ++ bytes "},\"targets.json\":{\"version\":" ++ bytes targets
    ++ bytes "}},\"spec_version\":\"1.0.26\",\"version\":" ++ bytes version ++ bytes "}")

-- targets: the image `a/b`, of 5 bytes, and its own version
abbrev pub targets_text : String → Bytes
targets_text version =
    file_text
    (bytes "{\"_type\":\"targets\",\"expires\":\"2030-01-01T00:00:00Z\",\"spec_version\":\"1.0.26\",\"targets\":{\"a/b\":{\"hashes\":{\"sha256\":" ++ quoted n
    ++ bytes "},\"length\":5}},\"version\":" ++ bytes version ++ bytes "}")
