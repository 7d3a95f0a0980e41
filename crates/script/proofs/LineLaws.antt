-- A line, the piece that is put behind it, and the room that there is.
use Rattle.std.proofs.Common.{◌≡◌, refl, ap, subst, ℕ, zero, suc, ◌+◌, ◌-◌, ◌≤◌, ◌<◌, ◌/◌, ◌%◌, min, [], ◌∷◌, ◌++◌, length, take, get_or, arith, add-one}
use Rattle.std.proofs.lemmas.Grind.{common_steps}
use Rattle.std.proofs.lemmas.List.{take_at, take_all, take_min, length-take-le}
use Rattle.std.proofs.Math.Seq.{take-append-add}
use Rattle.base.specs.Bytes.{Bytes}
use Rattle.base.specs.Hex.{hex_of, hex_digit}

pub pushed :
    (line text rest : Bytes) (len n room : ℕ) → length line ≡ len → len ≤ room → n ≡ min (length text) (room - len) →
    take (len + n) (line ++ (take n text ++ rest)) ≡ take room (line ++ text)
pushed line text rest len n room long h e =
    let fit : length (take n text) ≡ n = length-take-le n text (omega arith) in
    let most : len + (room - len) ≡ room = omega arith in
    let put : take (len + n) (line ++ (take n text ++ rest)) ≡ line ++ take n (take n text ++ rest) =
    subst (λ (k : ℕ). take (k + n) (line ++ (take n text ++ rest)) ≡ line ++ take n (take n text ++ rest)) long (take-append-add line (take n text ++ rest) n) in
    let cut : take (len + (room - len)) (line ++ text) ≡ line ++ take (room - len) text =
    subst (λ (k : ℕ). take (k + (room - len)) (line ++ text) ≡ line ++ take (room - len) text) long (take-append-add line text (room - len)) in
    let part : take n (take n text ++ rest) ≡ take n text = take_at (take n text) rest n fit in
    let whole : take (min (room - len) (length text)) text ≡ take (room - len) text = take_min (room - len) text in
    let same : min (room - len) (length text) ≡ n = omega arith in
    cc

-- what is beyond the room is lost, now or later
pub cut_again : (room : ℕ) (a b c : Bytes) → take room (take room (a ++ b) ++ c) ≡ take room (a ++ (b ++ c))
cut_again room a b c = grind (arith, common_steps)

-- the digits of the bytes so far, and of the next one
hex_suc : (s : Bytes) (i : ℕ) → i < length s →
    hex_of (take (suc i) s) ≡ hex_of (take i s) ++ (hex_digit (get_or s i 0 / 16) ∷ (hex_digit (get_or s i 0 % 16) ∷ []))
unfolding hex_of
hex_suc [] i h = absurd (omega arith)
hex_suc (b ∷ s) zero h = refl
hex_suc (b ∷ s) (suc i) h = ap (λ (t : Bytes). hex_digit (b / 16) ∷ (hex_digit (b % 16) ∷ t)) (hex_suc s i (omega arith))

pub hex_more : (s : Bytes) (i : ℕ) → i < length s →
    hex_of (take (i + 1) s) ≡ hex_of (take i s) ++ (hex_digit (get_or s i 0 / 16) ∷ (hex_digit (get_or s i 0 % 16) ∷ []))
hex_more s i h = rw add-one (hex_suc s i h)

-- ## A line that begins with `start`, and the digits of s, byte by byte

module _ (room : ℕ) (start s : Bytes) where
  pub hex-none : (len : ℕ) (bytes : Bytes) → take len bytes ≡ start → len ≤ room → start ≡ take room (start ++ hex_of [])
  unfolding hex_of
  hex-none len bytes e h = grind (arith, common_steps)

  pub hex-step :
      (line : Bytes) (i x y : ℕ) → i < length s → x ≡ hex_digit (get_or s i 0 / 16) → y ≡ hex_digit (get_or s i 0 % 16) →
      line ≡ take room (start ++ hex_of (take i s)) → take room (line ++ (x ∷ (y ∷ []))) ≡ take room (start ++ hex_of (take (i + 1) s))
  hex-step line i x y h hx hy e = rw (e, hx, hy, hex_more s i h) (cut_again room start (hex_of (take i s)) _)

  pub hex-all : (line : Bytes) (i : ℕ) → length s ≤ i → line ≡ take room (start ++ hex_of (take i s)) → line ≡ take room (start ++ hex_of s)
  hex-all line i h e = rw (take_all i s h) at e
