-- FIPS 180-4, 5 and 6.2: the padded message, its blocks, and the digest.
use Rattle.std.specs.Prelude.{ℕ, zero, suc, ◌+◌, ◌-◌, ◌*◌, ◌/◌, ◌%◌, ◌^◌, List, [], ◌∷◌, ◌++◌, length, replicate, slice_index}
use Rattle.base.specs.Bytes.{Bytes}
use Rattle.sha256.specs.Compress.{compress}
use Rattle.sha256.specs.declared.Hash.{Hash}

-- 3.1: the k lowest bytes of n, the highest first
unfoldable pub big_endian : ℕ → ℕ → Bytes
big_endian zero n = []
big_endian (suc k) n = (n / 256 ^ k % 256) ∷ big_endian k n

-- 5.1.1: the least number of zero bytes z for which n + 1 + z is 56 modulo 64
unfoldable pub zeros : ℕ → ℕ
zeros n = (119 - n % 64) % 64

-- 5.1.1: the message, a bit 1 and seven bits 0, zeros, and the message's length in bits (modulo 2 ^ 64) as 8 bytes
unfoldable pub padded : Bytes → Bytes
padded s = s ++ (128 ∷ (replicate (zeros (length s)) 0 ++ big_endian 8 (length s * 8)))

-- 3.1: the word whose first byte is at place i
unfoldable pub word_at : Bytes → ℕ → ℕ
word_at l i = ((slice_index l i * 256 + slice_index l (i + 1)) * 256 + slice_index l (i + 2)) * 256 + slice_index l (i + 3)

-- 5.2.1: the n words from byte i on; a block is 16
unfoldable pub words_at : Bytes → ℕ → ℕ → List ℕ
words_at l i zero = []
words_at l i (suc n) = word_at l i ∷ words_at l (i + 4) n

-- 5.3.3: the initial hash value
abbrev pub initial : Hash
initial =
    record { a = 0x6a09e667; b = 0xbb67ae85; c = 0x3c6ef372; d = 0xa54ff53a; e = 0x510e527f; f = 0x9b05688c; g = 0x1f83d9ab; h = 0x5be0cd19 }

-- 6.2.2: the hash value after n blocks of l, from v on
unfoldable pub hashed : Hash → Bytes → ℕ → Hash
hashed v l zero = v
hashed v l (suc n) = compress (hashed v l n) (words_at l (n * 64) 16)

-- 3.1: words as bytes, four to a word
unfoldable pub word_bytes : List ℕ → Bytes
word_bytes [] = []
word_bytes (w ∷ ws) = big_endian 4 w ++ word_bytes ws

-- 6.2.2: the eight words of a hash value, one after the other
unfoldable pub hash_bytes : Hash → Bytes
hash_bytes v = word_bytes (v.a ∷ v.b ∷ v.c ∷ v.d ∷ v.e ∷ v.f ∷ v.g ∷ v.h ∷ [])

-- 6.2: the SHA-256 digest
unfoldable pub digest_of : Bytes → Bytes
digest_of s = hash_bytes (hashed initial (padded s) (length (padded s) / 64))
