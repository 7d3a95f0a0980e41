-- The limits of 01 and A7, each once.
use Rattle.std.specs.Prelude.{ℕ}

-- "file longer than 32,768 bytes"
abbrev pub max_file : ℕ
max_file = 32768

-- "at most 16 entries"
abbrev pub max_entries : ℕ
max_entries = 16

-- A7: "versions from 1 to 9,007,199,254,740,991"; in 01 they went to 2,147,483,647
abbrev pub max_version : ℕ
max_version = 9007199254740991

-- "keys, 1 to 16"
abbrev pub max_keys : ℕ
max_keys = 16

-- "1 to 16 different keyids"
abbrev pub max_keyids : ℕ
max_keyids = 16

-- "1 to 32 names of 1 to 32 bytes"
abbrev pub max_names : ℕ
max_names = 32

abbrev pub max_name : ℕ
max_name = 32

-- "length (0 to 4,294,967,295)"
abbrev pub max_length : ℕ
max_length = 4294967295

-- "0 to 256 names of 1 to 128 bytes"
abbrev pub max_targets : ℕ
max_targets = 256

abbrev pub max_path : ℕ
max_path = 128

-- "SHA-256 digests (32 bytes)"
abbrev pub digest_size : ℕ
digest_size = 32

-- "keyid (64 lower-case hex, as every keyid)"; a public key has as many
abbrev pub key_size : ℕ
key_size = 32

-- "sig (128 lower-case hex)"
abbrev pub signature_size : ℕ
signature_size = 64
