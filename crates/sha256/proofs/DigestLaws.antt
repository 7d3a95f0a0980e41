-- The digest: its 32 bytes, and the digest by the message's whole blocks and what follows them.
use Rattle.std.proofs.Common.{◌≡◌, ℕ, ◌+◌, ◌*◌, ◌/◌, ◌<◌, length, drop, arith}
use mathlib.Core.List.{Memᴰ}
use Rattle.base.specs.Bytes.{Bytes}
use Rattle.sha256.specs.Message.{padded, initial, hashed, hash_bytes, digest_of}
use Rattle.sha256.specs.declared.Hash.{Hash}
use Rattle.sha256.proofs.EndianLaws.{length-word_bytes, word_bytes-bytes}
use Rattle.sha256.proofs.BlockLaws.{hashed-append, hashed-drop}
use Rattle.sha256.proofs.PaddingLaws.{length-padded, length-tail}

pub length-hash_bytes : (v : Hash) → length (hash_bytes v) ≡ 32
unfolding hash_bytes
length-hash_bytes v = length-word_bytes _

pub digest-length : (s : Bytes) → length (digest_of s) ≡ 32
unfolding digest_of
digest-length s = length-hash_bytes _

pub digest-bytes : (s : Bytes) (x : ℕ) → Memᴰ x (digest_of s) → x < 256
unfolding digest_of hash_bytes
digest-bytes s = word_bytes-bytes _

-- the padded message begins with the message's whole blocks
hashed-padded : (v : Hash) (s : Bytes) → hashed v (padded s) (length s / 64) ≡ hashed v s (length s / 64)
unfolding padded
hashed-padded v s = hashed-append v s _ (length s / 64) (omega arith)

-- the hash value of these, then of the rest of the padded message
pub digest-parts : (s t : Bytes) (h r : Hash) → h ≡ hashed initial s (length s / 64) → t ≡ drop (length s / 64 * 64) (padded s) → r ≡ hashed h t (length t / 64)
    → hash_bytes r ≡ digest_of s
unfolding digest_of
digest-parts s t h r e f g =
    let d = length-tail s in
    let p = length-padded s in
    let n : length s / 64 + length (drop (length s / 64 * 64) (padded s)) / 64 ≡ length (padded s) / 64 = omega arith in
    rw (g, f, e, ← hashed-padded initial s, hashed-drop initial (padded s) (length s / 64), n)
