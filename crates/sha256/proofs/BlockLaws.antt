-- Blocks of a byte string: their words by place, and the hash value over a part of the blocks.
use Rattle.std.proofs.Common.{◌≡◌, ℕ, zero, suc, ◌+◌, ◌*◌, ◌<◌, ◌≤◌, List, [], ◌++◌, ◌∙◌, get_or-take, length, get_or, take, drop, set, refl, ap, arith, get_or-drop, take-suc, take-suc-set}
use lib.ListN.{get_or-append}
use lib.Seq.{drop-drop}
use Rattle.std.specs.Simd.{first_chunks}
use Rattle.base.specs.Bytes.{Bytes}
use Rattle.sha256.specs.Compress.{compress}
use Rattle.sha256.specs.Message.{word_at, words_at, hashed}
use Rattle.sha256.specs.declared.Hash.{Hash}

-- one turn of a loop that fills an array: the first i places of `out` hold those of l
pub fill-next : (l out : List ℕ) (i v : ℕ) → i < length l → i < length out → take i out ≡ take i l → v ≡ get_or l i 0 → take (i + 1) (set out i v) ≡ take (i + 1) l
fill-next l out i v h k e f = let a : i + 1 ≡ suc i = omega arith in rw (a, take-suc-set out i v k, take-suc l i 0 h, e, f)

-- ## Words

module _ (l : Bytes) where
  pub length-words_at : (i n : ℕ) → length (words_at l i n) ≡ n
  unfolding words_at
  length-words_at i zero = refl
  length-words_at i (suc n) = ap suc (length-words_at (i + 4) n)

  pub words_at-at : (i n k : ℕ) → k < n → word_at l (i + k * 4) ≡ get_or (words_at l i n) k 0
  unfolding words_at
  words_at-at i zero k h = absurd (omega arith)
  words_at-at i (suc n) zero h = let e : i + 0 * 4 ≡ i = omega arith in rw e
  words_at-at i (suc n) (suc k) h = let e : i + suc k * 4 ≡ i + 4 + k * 4 = omega arith in rw e (words_at-at (i + 4) n k (omega arith))

  -- bytes that follow change nothing
  word_at-append : (r : Bytes) (i : ℕ) → i + 3 < length l → word_at (l ++ r) i ≡ word_at l i
  unfolding word_at
  word_at-append r i h =
      rw (get_or-append l r 0 i (omega arith), get_or-append l r 0 (i + 1) (omega arith), get_or-append l r 0 (i + 2) (omega arith), get_or-append l r 0 (i + 3) h)

  words_at-append : (r : Bytes) (i n : ℕ) → i + n * 4 ≤ length l → words_at (l ++ r) i n ≡ words_at l i n
  unfolding words_at
  words_at-append r i zero h = refl
  words_at-append r i (suc n) h = rw (word_at-append r i (omega arith), words_at-append r (i + 4) n (omega arith))

  -- words of a rest
  word_at-drop : (p i : ℕ) → word_at (drop p l) i ≡ word_at l (p + i)
  unfolding word_at
  word_at-drop p i =
      let a : p + (i + 1) ≡ p + i + 1 = omega arith in
      let b : p + (i + 2) ≡ p + i + 2 = omega arith in
      let c : p + (i + 3) ≡ p + i + 3 = omega arith in
      rw (get_or-drop p l i 0, get_or-drop p l (i + 1) 0, get_or-drop p l (i + 2) 0, get_or-drop p l (i + 3) 0, a, b, c)

  words_at-drop : (p i n : ℕ) → words_at (drop p l) i n ≡ words_at l (p + i) n
  unfolding words_at
  words_at-drop p i zero = refl
  words_at-drop p i (suc n) = let e : p + (i + 4) ≡ p + i + 4 = omega arith in rw (word_at-drop p i, words_at-drop p (i + 4) n, e)

  words_at-take : (i m n : ℕ) → i + n * 4 ≤ m → words_at (take m l) i n ≡ words_at l i n
  unfolding words_at word_at
  words_at-take i m zero h = refl
  words_at-take i m (suc n) h =
      rw (
        get_or-take m l i 0 (omega arith),
        get_or-take m l (i + 1) 0 (omega arith),
        get_or-take m l (i + 2) 0 (omega arith),
        get_or-take m l (i + 3) 0 (omega arith),
        words_at-take (i + 4) m n (omega arith),
      )

-- the library's chunk at place b
chunk-at : (l : Bytes) (n b : ℕ) → b < n → get_or (first_chunks 64 n l) b [] ≡ take 64 (drop (b * 64) l)
chunk-at l zero b h = absurd (omega arith)
chunk-at l (suc n) zero h = refl
chunk-at l (suc n) (suc b) h = let e : 64 + b * 64 ≡ suc b * 64 = omega arith in chunk-at (drop 64 l) n b (omega arith) ∙ rw (drop-drop (b * 64) 64 l, e)

-- and the words of that block
pub chunk-words : (l : Bytes) (n b : ℕ) → b < n → words_at (get_or (first_chunks 64 n l) b []) 0 16 ≡ words_at l (b * 64) 16
chunk-words l n b h =
    let e : b * 64 + 0 ≡ b * 64 = omega arith in
    rw (chunk-at l n b h, words_at-take (drop (b * 64) l) 0 64 16 (omega arith), words_at-drop l (b * 64) 0 16, e)

-- ## The hash value

module _ (v : Hash) (l : Bytes) where
  -- one turn of the loop over the blocks
  pub hashed-next : (b : ℕ) (m : List ℕ) (h r : Hash) → h ≡ hashed v l b → take 16 m ≡ words_at l (b * 64) 16 → r ≡ compress h (take 16 m) → r ≡ hashed v l (b + 1)
  unfolding hashed
  hashed-next b m h r e f g = let a : b + 1 ≡ suc b = omega arith in rw (a, g, e, f)

  -- the first blocks, whatever follows them
  pub hashed-append : (r : Bytes) (n : ℕ) → n * 64 ≤ length l → hashed v (l ++ r) n ≡ hashed v l n
  unfolding hashed
  hashed-append r zero h = refl
  hashed-append r (suc n) h = rw (hashed-append r n (omega arith), words_at-append l r (n * 64) 16 (omega arith))

  -- the first m blocks, then n of the rest
  pub hashed-drop : (m n : ℕ) → hashed (hashed v l m) (drop (m * 64) l) n ≡ hashed v l (m + n)
  unfolding hashed
  hashed-drop m zero = let e : m + 0 ≡ m = omega arith in rw e
  hashed-drop m (suc n) =
      let e : m + suc n ≡ suc (m + n) = omega arith in
      let f : m * 64 + n * 64 ≡ (m + n) * 64 = omega arith in
      rw (e, hashed-drop m n, words_at-drop l (m * 64) (n * 64) 16, f)
