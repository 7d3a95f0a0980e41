-- Lower-case hex: two digits to a byte, the higher first.
use Rattle.std.specs.Prelude.{◌≡◌, [], ◌∷◌, Bool, true, cond, ◌&&◌, ℕ, ◌+◌, ◌-◌, ◌*◌, ◌/◌, ◌%◌, length, leb, ltb, eqb, Some, None}
use Rattle.std.specs.declared.option.Option.{Option}
use Rattle.base.specs.Bytes.{Bytes, is_digit}

-- the value of a digit, or 16 where the byte is none
unfoldable pub digit_of : ℕ → ℕ
digit_of b = cond (is_digit b) (b - 48) (cond (leb 97 b && leb b 102) (b - 87) 16)

-- every byte is a digit
unfoldable pub all_hex : Bytes → Bool
all_hex [] = true
all_hex (b ∷ s) = ltb (digit_of b) 16 && all_hex s

-- exactly n bytes, as 2 n digits
unfoldable pub is_hex : ℕ → Bytes → Bool
is_hex n s = eqb (length s) (n * 2) && all_hex s

-- the bytes that pairs of digits stand for; a last single digit is dropped
unfoldable pub undo : Bytes → Bytes
undo [] = []
undo (a ∷ []) = []
undo (a ∷ (b ∷ s)) = (digit_of a * 16 + digit_of b) ∷ undo s

-- what s undone is: n bytes, or nothing where it is not exactly as many digits
unfoldable pub undone : ℕ → Bytes → Option Bytes
undone n s = cond (is_hex n s) (Some (undo s)) None

-- the digit of a value below 16
unfoldable pub hex_digit : ℕ → ℕ
hex_digit d = cond (ltb d 10) (48 + d) (87 + d)

-- bytes as digits
unfoldable pub hex_of : Bytes → Bytes
hex_of [] = []
hex_of (b ∷ s) = hex_digit (b / 16) ∷ (hex_digit (b % 16) ∷ hex_of s)

-- Digits s are undone into a buffer: refused, and the buffer as before, unless they are exactly as many bytes as it has.
pub record Undone (s before : Bytes) (accepted : Bool) (after : Bytes) : Type 0 where
  pub answer : accepted ≡ is_hex (length before) s
  pub buffer : after ≡ cond accepted (undo s) before
