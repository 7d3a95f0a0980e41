-- Numbers as bytes, the highest first: by place, by length, by range.
use Rattle.std.proofs.Common.{◌≡◌, ℕ, zero, suc, ◌+◌, ◌*◌, ◌/◌, ◌%◌, ◌^◌, ◌<◌, List, [], ◌∷◌, ◌++◌, length, get_or, sym, refl, ap, ◌∙◌, pow-suc, arith, length-append, pow-add}
use mathlib.Core.List.{Memᴰ}
use lib.Pow.{field, mod-mod-pow}
use Rattle.std.specs.Int.{bytes_high_first}
use Rattle.base.specs.Bytes.{Bytes}
use Rattle.sha256.specs.Message.{big_endian, word_bytes}

-- k bytes are 8 k bits
byte-bits : (k : ℕ) → 2 ^ (k * 8) ≡ 256 ^ k
byte-bits zero = refl
byte-bits (suc k) =
    let e : suc k * 8 ≡ k * 8 + 8 = omega arith in
    ap (λ (i : ℕ). 2 ^ i) e ∙ pow-add 2 (k * 8) 8 ∙ ap (λ (x : ℕ). x * 256) (byte-bits k) ∙ sym (pow-suc 256 k)

-- byte j of k stands e bits above the lowest
pub byte_at : (k n j e : ℕ) → e + j * 8 + 8 ≡ k * 8 → n / 2 ^ e % 256 ≡ get_or (big_endian k n) j 0
unfolding big_endian
byte_at zero n j e h = absurd (omega arith)
byte_at (suc k) n zero e h = let f : e ≡ k * 8 = omega arith in rw (f, byte-bits k)
byte_at (suc k) n (suc j) e h = byte_at k n j e (omega arith)

-- a bound of 2 ^ 64 changes none of the 8 lowest bytes
pub byte-mod : (n e i : ℕ) → i + 8 + e ≡ 64 → n % 2 ^ 64 / 2 ^ e % 256 ≡ n / 2 ^ e % 256
byte-mod n e i h = ap (λ (k : ℕ). n % 2 ^ k / 2 ^ e % 256) (sym h) ∙ ap (λ (x : ℕ). x % 256) (field n (i + 8) e) ∙ mod-mod-pow (n / 2 ^ e) i 8

-- as the library's `to_be_bytes` has them
pub to_bytes : (k n : ℕ) → bytes_high_first k n ≡ big_endian k n
unfolding big_endian
to_bytes zero n = refl
to_bytes (suc zero) n = let e : n % 256 ≡ n / 256 ^ 0 % 256 = omega arith in ap (λ (b : ℕ). b ∷ []) e
to_bytes (suc (suc k)) n = ap (λ (t : Bytes). (n / 256 ^ suc k % 256) ∷ t) (to_bytes (suc k) n)

pub length-big_endian : (k n : ℕ) → length (big_endian k n) ≡ k
unfolding big_endian
length-big_endian zero n = refl
length-big_endian (suc k) n = ap suc (length-big_endian k n)

big_endian-bytes : (k n x : ℕ) → Memᴰ x (big_endian k n) → x < 256
unfolding big_endian
big_endian-bytes zero n x m = elim m [ ]
big_endian-bytes (suc k) n x (Memᴰ.head q) = omega arith
big_endian-bytes (suc k) n x (Memᴰ.tail m) = big_endian-bytes k n x m

append_bytes : (a b : Bytes) → ((x : ℕ) → Memᴰ x a → x < 256) → ((x : ℕ) → Memᴰ x b → x < 256) → (x : ℕ) → Memᴰ x (a ++ b) → x < 256
append_bytes [] b f g x m = g x m
append_bytes (y ∷ a) b f g x (Memᴰ.head q) = f x (Memᴰ.head q)
append_bytes (y ∷ a) b f g x (Memᴰ.tail m) = append_bytes a b (λ z n. f z (Memᴰ.tail n)) g x m

-- ## Words as bytes

pub word_byte-at : (ws : List ℕ) (i : ℕ) → i < length ws * 4 → get_or (big_endian 4 (get_or ws (i / 4) 0)) (i % 4) 0 ≡ get_or (word_bytes ws) i 0
unfolding word_bytes big_endian
word_byte-at [] i h = absurd (omega arith)
word_byte-at (w ∷ ws) zero h = refl
word_byte-at (w ∷ ws) (suc zero) h = refl
word_byte-at (w ∷ ws) (suc (suc zero)) h = refl
word_byte-at (w ∷ ws) (suc (suc (suc zero))) h = refl
word_byte-at (w ∷ ws) (suc (suc (suc (suc i)))) h =
    let p : suc (suc (suc (suc i))) / 4 ≡ suc (i / 4) = omega arith in
    let q : suc (suc (suc (suc i))) % 4 ≡ i % 4 = omega arith in
    rw (p, q) (word_byte-at ws i (omega arith))

pub length-word_bytes : (ws : List ℕ) → length (word_bytes ws) ≡ length ws * 4
unfolding word_bytes
length-word_bytes [] = refl
length-word_bytes (w ∷ ws) = let e = length-append (big_endian 4 w) (word_bytes ws) in let f = length-big_endian 4 w in let g = length-word_bytes ws in omega arith

pub word_bytes-bytes : (ws : List ℕ) (x : ℕ) → Memᴰ x (word_bytes ws) → x < 256
unfolding word_bytes
word_bytes-bytes [] x m = elim m [ ]
word_bytes-bytes (w ∷ ws) x m = append_bytes (big_endian 4 w) (word_bytes ws) (big_endian-bytes 4 w) (word_bytes-bytes ws) x m
