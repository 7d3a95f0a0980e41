-- Hex digits by cases, one turn of a loop that undoes pairs of them, and bytes to hex and back.
use mathlib.Core.Path.{◌≡◌, refl, sym, ap, ◌∙◌}
use mathlib.Core.List.{[], ◌∷◌, ◌++◌, append_assoc, append-nil, Memᴰ}
use mathlib.Core.Bool.{Bool, true, false, ◌&&◌, and-true, and-false, and_assoc}
use Prim.Native.Nat.{ℕ, zero, suc, ◌+◌, ◌-◌, ◌*◌, ◌/◌, ◌%◌, ◌≤◌, ◌<◌}
use native.Mathlib.Omega.{arith}
use borrow.Author.Tests.{eq-eqb, ne_eqb, eqb-true, ltb-true, ltb-false, lt-ltb, le-ltb, le-leb, lt-leb}
use lib.Dec.{eqb, ltb}
use Rattle.base.proofs.TestLaws.{both}
use lib.ListN.{length, get_or, take, drop, set, length-set}
use lib.Seq.{take-suc-set, take_all}
use Rattle.base.specs.Bytes.{Bytes}
use Rattle.std.specs.Prelude.{Some, None}
use Rattle.std.specs.Bool.{then_some}
use Rattle.base.specs.Hex.{digit_of, all_hex, undo, is_hex, Undone, undone, hex_digit, hex_of}
use Rattle.base.proofs.PlaceLaws.{at-cons, at-end}

-- ## A digit

module _ (b : ℕ) where
  pub decimal : 48 ≤ b → b ≤ 57 → b - 48 ≡ digit_of b
  unfolding digit_of
  decimal p q = simp (le-leb _ _ p, le-leb _ _ q)

  pub letter : 97 ≤ b → b ≤ 102 → b - 97 + 10 ≡ digit_of b
  unfolding digit_of
  letter p q = simp (lt-leb b 57 (omega arith), and-false, le-leb _ _ p, le-leb _ _ q) (omega arith)

  pub below : b < 48 → 16 ≡ digit_of b
  unfolding digit_of
  below p = simp (lt-leb _ _ p, lt-leb 97 b (omega arith))

  pub between : 57 < b → b < 97 → 16 ≡ digit_of b
  unfolding digit_of
  between p q = simp (lt-leb _ _ p, and-false, lt-leb _ _ q)

  pub above : 102 < b → 16 ≡ digit_of b
  unfolding digit_of
  above p = simp (lt-leb _ _ p, lt-leb b 57 (omega arith), and-false)

-- ## A byte that is known to be a digit

module _ (b : ℕ) (h : digit_of b < 16) where
  from_zero : 48 ≤ b
  from_zero = go (ltb b 48) refl
    where
      go : (x : Bool) → ltb b 48 ≡ x → 48 ≤ b
      go true e = let z = below b (ltb-true b 48 e) in absurd (omega arith)
      go false e = ltb-false b 48 e

  to_nine : b < 97 → b ≤ 57
  to_nine l = go (ltb 57 b) refl
    where
      go : (x : Bool) → ltb 57 b ≡ x → b ≤ 57
      go true e = let z = between b (ltb-true 57 b e) l in absurd (omega arith)
      go false e = ltb-false 57 b e

  -- decimal digits come before the letters
  pub value-decimal : b < 97 → (48 ≤ b) × (b - 48 ≡ digit_of b)
  value-decimal l = (from_zero, decimal b from_zero (to_nine l))

  pub value-letter : 97 ≤ b → b - 97 + 10 ≡ digit_of b
  value-letter l = go (ltb 102 b) refl
    where
      go : (x : Bool) → ltb 102 b ≡ x → b - 97 + 10 ≡ digit_of b
      go true e = let z = above b (ltb-true 102 b e) in absurd (omega arith)
      go false e = letter b l (ltb-false 102 b e)

  pub hex_range : (48 ≤ b) × (b ≤ 102)
  hex_range = (from_zero, go (ltb 102 b) refl)
    where
      go : (x : Bool) → ltb 102 b ≡ x → b ≤ 102
      go true e = let z = above b (ltb-true 102 b e) in absurd (omega arith)
      go false e = ltb-false 102 b e

-- ## Digits at places

-- what was looked at before i is digits or not, and at i there is the digit d
module _ (s : Bytes) (i : ℕ) (ok : Bool) where
  pub hex-next : (d : ℕ) → i < length s → d ≡ digit_of (get_or s i 0) → ok && all_hex (drop i s) ≡ (ok && ltb d 16) && all_hex (drop (i + 1) s)
  unfolding all_hex
  hex-next d h e = rw (at-cons s i h, ← e) (sym (and_assoc ok (ltb d 16) (all_hex (drop (i + 1) s))))

  pub hex-end : length s ≤ i → ok && all_hex (drop i s) ≡ ok
  unfolding all_hex
  hex-end h = rw (at-end s i h) (and-true ok)

pub hex-at : (s : Bytes) (i : ℕ) → all_hex s ≡ true → i < length s → digit_of (get_or s i 0) < 16
unfolding all_hex
hex-at [] i e h = absurd (omega arith)
hex-at (b ∷ s) zero e h = ltb-true (digit_of b) 16 (both (ltb (digit_of b) 16) (all_hex s) e).0
hex-at (b ∷ s) (suc i) e h = hex-at s i (both (ltb (digit_of b) 16) (all_hex s) e).1 (omega arith)

-- ## The whole

module _ (n : ℕ) (s : Bytes) where
  pub not-long : (length s ≡ n * 2 → ⊥) → is_hex n s ≡ false
  unfolding is_hex
  not-long h = rw (ne_eqb (length s) (n * 2) h)

  pub long : length s ≡ n * 2 → is_hex n s ≡ all_hex s
  unfolding is_hex
  long h = rw (eq-eqb (length s) (n * 2) h)

  pub hex-parts : is_hex n s ≡ true → (length s ≡ n * 2) × (all_hex s ≡ true)
  unfolding is_hex
  hex-parts e = let w = both (eqb (length s) (n * 2)) (all_hex s) e in (eqb-true (length s) (n * 2) w.0, w.1)

-- ## One turn of undoing: the first i bytes are done

pairs : (s : Bytes) (i : ℕ) → i * 2 + 1 < length s → drop (i * 2) s ≡ get_or s (i * 2) 0 ∷ get_or s (i * 2 + 1) 0 ∷ drop ((i + 1) * 2) s
pairs s i h =
    let e : i * 2 + 1 + 1 ≡ (i + 1) * 2 = omega arith in
    rw (at-cons s (i * 2) (omega arith), at-cons s (i * 2 + 1) h, e)

pub undo-next : (s out : Bytes) (i v : ℕ) → i * 2 + 1 < length s → i < length out → v ≡ digit_of (get_or s (i * 2) 0) * 16 + digit_of (get_or s (i * 2 + 1) 0)
    → take i out ++ undo (drop (i * 2) s) ≡ take (i + 1) (set out i v) ++ undo (drop ((i + 1) * 2) s)
unfolding undo
undo-next s out i v h k e =
    let f : i + 1 ≡ suc i = omega arith in
    rw (pairs s i h, ← e, f, take-suc-set out i v k, append_assoc)

pub undo-end : (s out : Bytes) (n : ℕ) → length s ≡ n * 2 → length out ≡ n → take n out ++ undo (drop (n * 2) s) ≡ out
unfolding undo
undo-end s out n h k = rw (at-end s (n * 2) (omega arith), take_all n out (omega arith)) (append-nil out)

-- ## One turn of writing hex: the digits of the first i bytes are written

pub hex_of-next : (b out : Bytes) (i hi lo : ℕ) → i < length b → i * 2 + 1 < length out → hi ≡ hex_digit (get_or b i 0 / 16) → lo ≡ hex_digit (get_or b i 0 % 16)
    → take (i * 2) out ++ hex_of (drop i b) ≡ take ((i + 1) * 2) (set (set out (i * 2) hi) (i * 2 + 1) lo) ++ hex_of (drop (i + 1) b)
unfolding hex_of
hex_of-next b out i hi lo h k e f =
    let n : (i + 1) * 2 ≡ suc (suc (i * 2)) = omega arith in
    let m : i * 2 + 1 ≡ suc (i * 2) = omega arith in
    let w = take-suc-set (set out (i * 2) hi) (suc (i * 2)) lo (rw length-set (omega arith)) in
    rw (at-cons b i h, ← e, ← f, n, m, w, take-suc-set out (i * 2) hi (omega arith))
    (sym (append_assoc (take (i * 2) out ++ (hi ∷ [])) (lo ∷ []) _ ∙ append_assoc (take (i * 2) out) (hi ∷ []) _))

pub hex_of-end : (b out : Bytes) (i : ℕ) → length b ≤ i → length out ≤ i * 2 → take (i * 2) out ++ hex_of (drop i b) ≡ out
unfolding hex_of
hex_of-end b out i h k = rw (at-end b i h, take_all (i * 2) out k) (append-nil out)

-- ## Bytes to hex and back

pub digit-decimal : (d : ℕ) → d < 10 → hex_digit d ≡ 48 + d
unfolding hex_digit
digit-decimal d h = rw (lt-ltb d 10 h)

pub digit-letter : (d : ℕ) → 10 ≤ d → hex_digit d ≡ 87 + d
unfolding hex_digit
digit-letter d h = rw (le-ltb d 10 h)

-- the digit of a value has this value
pub digit_of-hex_digit : (d : ℕ) → d < 16 → digit_of (hex_digit d) ≡ d
digit_of-hex_digit d h = go (ltb d 10) refl
  where
    go : (x : Bool) → ltb d 10 ≡ x → digit_of (hex_digit d) ≡ d
    go true e =
        let l = ltb-true d 10 e in
        rw (digit-decimal d l) (sym (decimal (48 + d) (omega arith) (omega arith)) ∙ omega arith)
    go false e =
        let l = ltb-false d 10 e in
        rw (digit-letter d l) (sym (letter (87 + d) (omega arith) (omega arith)) ∙ omega arith)

-- a digit is that of its value
pub hex_digit-digit_of : (b : ℕ) → digit_of b < 16 → hex_digit (digit_of b) ≡ b
hex_digit-digit_of b h = go (ltb b 97) refl
  where
    go : (x : Bool) → ltb b 97 ≡ x → hex_digit (digit_of b) ≡ b
    go true e =
        let l = ltb-true b 97 e in
        let v = value-decimal b h l in
        let n = to_nine b h l in
        digit-decimal (digit_of b) (omega arith) ∙ omega arith
    go false e =
        let f = ltb-false b 97 e in
        let v = value-letter b h f in
        digit-letter (digit_of b) (omega arith) ∙ omega arith

pub undo-hex_of : (b : Bytes) → ((x : ℕ) → Memᴰ x b → x < 256) → undo (hex_of b) ≡ b
unfolding undo hex_of
undo-hex_of [] h = refl
undo-hex_of (x ∷ b) h =
    let l = h x (Memᴰ.head refl) in
    let v : x / 16 * 16 + x % 16 ≡ x = omega arith in
    rw (digit_of-hex_digit (x / 16) (omega arith), digit_of-hex_digit (x % 16) (omega arith), v, undo-hex_of b (λ y m. h y (Memᴰ.tail m)))

all_hex-hex_of : (b : Bytes) → ((x : ℕ) → Memᴰ x b → x < 256) → all_hex (hex_of b) ≡ true
unfolding all_hex hex_of
all_hex-hex_of [] h = refl
all_hex-hex_of (x ∷ b) h =
    let l = h x (Memᴰ.head refl) in
    rw (digit_of-hex_digit (x / 16) (omega arith), digit_of-hex_digit (x % 16) (omega arith), lt-ltb (x / 16) 16 (omega arith), lt-ltb (x % 16) 16 (omega arith))
    (all_hex-hex_of b (λ y m. h y (Memᴰ.tail m)))

pub length-hex_of : (b : Bytes) → length (hex_of b) ≡ length b * 2
unfolding hex_of
length-hex_of [] = refl
length-hex_of (x ∷ b) = let e = length-hex_of b in omega arith

pub is_hex-hex_of : (b : Bytes) → ((x : ℕ) → Memᴰ x b → x < 256) → is_hex (length b) (hex_of b) ≡ true
is_hex-hex_of b h = long (length b) (hex_of b) (length-hex_of b) ∙ all_hex-hex_of b h

hex_of-pairs : (n : ℕ) (s : Bytes) → length s ≡ n * 2 → all_hex s ≡ true → hex_of (undo s) ≡ s
unfolding all_hex undo hex_of
hex_of-pairs n [] l e = refl
hex_of-pairs n (a ∷ []) l e = absurd (omega arith)
hex_of-pairs n (a ∷ (b ∷ s)) l e =
    let v = both (ltb (digit_of a) 16) (ltb (digit_of b) 16 && all_hex s) e in
    let w = both (ltb (digit_of b) 16) (all_hex s) v.1 in
    let p = ltb-true (digit_of a) 16 v.0 in
    let q = ltb-true (digit_of b) 16 w.0 in
    let hi : (digit_of a * 16 + digit_of b) / 16 ≡ digit_of a = omega arith in
    let lo : (digit_of a * 16 + digit_of b) % 16 ≡ digit_of b = omega arith in
    rw (hi, lo, hex_digit-digit_of a p, hex_digit-digit_of b q, hex_of-pairs (n - 1) s (omega arith) w.1)

pub hex_of-undo : (n : ℕ) (s : Bytes) → is_hex n s ≡ true → hex_of (undo s) ≡ s
hex_of-undo n s e = let w = hex-parts n s e in hex_of-pairs n s w.0 w.1

-- ## N bytes undone

pub undone-some : (n : ℕ) (s bytes : Bytes) → is_hex n s ≡ true → bytes ≡ undo s → Some bytes ≡ undone n s
unfolding undone
undone-some n s bytes e f = rw (e, f)

pub undone_none : (n : ℕ) (s : Bytes) → is_hex n s ≡ false → None ≡ undone n s
unfolding undone
undone_none n s e = rw e

pub undone-then : (n : ℕ) (s before after : Bytes) (accepted : Bool) → length before ≡ n → Undone s before accepted after → then_some accepted after ≡ undone n s
undone-then n s before after true e u = undone-some n s after (ap (λ (k : ℕ). is_hex k s) (sym e) ∙ sym u.answer) u.buffer
undone-then n s before after false e u = undone_none n s (ap (λ (k : ℕ). is_hex k s) (sym e) ∙ sym u.answer)
