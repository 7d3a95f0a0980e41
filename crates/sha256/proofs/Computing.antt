-- A name for all definitions of the digest: where it unfolds, the digest of a message computes, and its hex.
use Rattle.base.specs.Hex.{hex_digit, hex_of}
use Rattle.sha256.specs.Words.{complement, add, shl, shr, rotr, ch, maj, Σ₀, Σ₁, σ₀, σ₁}
use Rattle.sha256.specs.Constants.{constants}
use Rattle.sha256.specs.Compress.{next_word, schedule, round, rounds, sum, compress}
use Rattle.sha256.specs.Message.{big_endian, zeros, padded, word_at, words_at, hashed, word_bytes, hash_bytes, digest_of}

unfoldable pub digests : Unit {0}
unfolding hex_digit hex_of complement add shl shr rotr ch maj Σ₀ Σ₁ σ₀ σ₁ constants next_word schedule round rounds sum compress big_endian zeros padded word_at words_at hashed word_bytes hash_bytes digest_of
digests = tt
