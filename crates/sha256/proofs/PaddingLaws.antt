-- The padded message: its length, and its bytes by place.
use Rattle.std.proofs.Common.{◌≡◌, ℕ, suc, ◌+◌, ◌*◌, ◌/◌, ◌%◌, ◌^◌, ◌<◌, ◌≤◌, ◌∷◌, ◌++◌, length, get_or, drop, replicate, sym, ◌∙◌, arith, length-append, length-drop, get_or-append-add}
use lib.ListN.{length-replicate, get_or-replicate, get_or-append}
use Rattle.base.specs.Bytes.{Bytes}
use Rattle.sha256.specs.Message.{big_endian, zeros, padded}
use Rattle.sha256.proofs.EndianLaws.{byte_at, byte-mod, length-big_endian}

-- FIPS 180-4, 5.1.1: with the zeros the last block has room for the length alone, and they are the least that leave it
pub zeros_room : (n : ℕ) → ((n + 1 + zeros n) % 64 ≡ 56) × (zeros n < 64)
unfolding zeros
zeros_room n = (omega arith, omega arith)

-- what follows the message's whole blocks is one block or two
pub tail_short : (n : ℕ) → n % 64 < 56 → 64 ≡ n % 64 + 9 + zeros n
unfolding zeros
tail_short n h = omega arith

pub tail-long : (n : ℕ) → 56 ≤ n % 64 → 128 ≡ n % 64 + 9 + zeros n
unfolding zeros
tail-long n h = omega arith

-- the length in bits, modulo 2 ^ 64
pub length_byte-at : (n j e : ℕ) → e + j * 8 + 8 ≡ 64 → n % 2 ^ 61 * 8 / 2 ^ e % 256 ≡ get_or (big_endian 8 (n * 8)) j 0
length_byte-at n j e h =
    let m : n % 2 ^ 61 * 8 ≡ n * 8 % 2 ^ 64 = omega arith in
    rw m (byte-mod (n * 8) e (j * 8) (omega arith) ∙ byte_at 8 (n * 8) j e h)

module _ (s : Bytes) where
  abbrev gap : Bytes
  gap = replicate (zeros (length s)) 0

  abbrev bits : Bytes
  bits = big_endian 8 (length s * 8)

  pub length-padded : length (padded s) ≡ length s + 9 + zeros (length s)
  unfolding padded
  length-padded =
      let a = length-append s (128 ∷ (gap ++ bits)) in
      let b = length-append gap bits in
      let c = length-replicate {A = ℕ} (zeros (length s)) 0 in
      let d = length-big_endian 8 (length s * 8) in
      omega arith

  -- what follows the message's whole blocks
  pub length-tail : length (drop (length s / 64 * 64) (padded s)) ≡ length s % 64 + 9 + zeros (length s)
  length-tail = let d = length-drop (length s / 64 * 64) (padded s) in let p = length-padded in omega arith

  pub padded_message : (i : ℕ) → i < length s → get_or s i 0 ≡ get_or (padded s) i 0
  unfolding padded
  padded_message i h = sym (get_or-append s (128 ∷ (gap ++ bits)) 0 i h)

  pub padded_mark : (i : ℕ) → i ≡ length s → 128 ≡ get_or (padded s) i 0
  unfolding padded
  padded_mark i h = let e : i ≡ length s + 0 = omega arith in rw (e, get_or-append-add s (128 ∷ (gap ++ bits)) 0 0)

  padded-rest : (i k : ℕ) → i ≡ length s + suc k → get_or (padded s) i 0 ≡ get_or (gap ++ bits) k 0
  unfolding padded
  padded-rest i k e = rw (e, get_or-append-add s (128 ∷ (gap ++ bits)) (suc k) 0)

  pub padded-zero : (i k : ℕ) → i ≡ length s + suc k → k < zeros (length s) → 0 ≡ get_or (padded s) i 0
  padded-zero i k e h = sym (padded-rest i k e ∙ get_or-append gap bits 0 k (rw length-replicate h) ∙ get_or-replicate (zeros (length s)) k 0 0 h)

  pub padded-length : (i k j : ℕ) → i ≡ length s + suc k → k ≡ zeros (length s) + j → get_or bits j 0 ≡ get_or (padded s) i 0
  padded-length i k j e h =
      let f : k ≡ length gap + j = rw length-replicate h in
      sym (padded-rest i k e ∙ rw (f, get_or-append-add gap bits j 0))
