-- A skip over a value that does not validate: in a text that was validated before, only quotes, backslashes and brackets matter.
use Rattle.std.specs.Prelude.{◌≡◌, [], ◌∷◌, Bool, cond, ◌||◌, ℕ, zero, suc, ◌+◌, ◌≤◌, eqb, length, drop}
use Prim.Native.Char.{code}
use Rattle.base.specs.Bytes.{Bytes, is_digit}
use Rattle.canonical_json.specs.Read.{raw}

abbrev pub is_opening : ℕ → Bool
is_opening b = eqb b (code "[") || eqb b (code "{")

abbrev pub is_closing : ℕ → Bool
is_closing b = eqb b (code "]") || eqb b (code "}")

unfoldable mutual
  -- what follows the bracket that closes the last of n open ones; brackets in strings do not count
  pub skim : Bytes → ℕ → Bytes
  skim [] n = []
  skim (b ∷ t) zero = b ∷ t
  skim (b ∷ t) (suc n) =
      cond (eqb b (code "\"")) (quoted t (suc n))
      (cond (is_opening b) (skim t (suc (suc n)))
      (cond (is_closing b) (skim t n) (skim t (suc n))))

  -- the same from inside a string on: first comes its closing quote
  pub quoted : Bytes → ℕ → Bytes
  quoted [] n = []
  quoted (b ∷ t) n = cond (eqb b (code "\"")) (skim t n) (cond (eqb b (code "\\")) (escaped t n) (quoted t n))

  -- the same after a backslash, which takes the next byte with it
  pub escaped : Bytes → ℕ → Bytes
  escaped [] n = []
  escaped (b ∷ t) n = quoted t n

-- what follows the digits in front
unfoldable pub past_digits : Bytes → Bytes
past_digits [] = []
past_digits (b ∷ t) = cond (is_digit b) (past_digits t) (b ∷ t)

-- ## Places

-- no string ends, and no escape begins, from i up to j
abbrev pub Plain : Bytes → ℕ → ℕ → Type 0
Plain s i j = (n : ℕ) → quoted (drop i s) n ≡ quoted (drop j s) n

-- the bytes from i up to j stand for themselves in a string, which has that many bytes more
pub record Bare (s : Bytes) (i j : ℕ) : Type 0 where
  pub plain : Plain s i j
  pub counts : length (raw (drop i s)) + i ≡ length (raw (drop j s)) + j

-- a skip leads from i to j, and means that
pub record Leads (s : Bytes) (i j : ℕ) (that : Type 0) : Type 0 where
  pub means : that
  pub onward : i ≤ j
  pub within : j ≤ length s

-- j is just past the string whose opening quote stands before i
abbrev pub StringEnd : Bytes → ℕ → ℕ → Type 0
StringEnd s i j = Leads s i j ((n : ℕ) → quoted (drop i s) n ≡ skim (drop j s) n)

-- j is just past the bracket that closes the one before i
abbrev pub BracketEnd : Bytes → ℕ → ℕ → Type 0
BracketEnd s i j = Leads s i j (skim (drop i s) 1 ≡ drop j s)

-- j is just past the digits from i on
abbrev pub DigitsEnd : Bytes → ℕ → ℕ → Type 0
DigitsEnd s i j = Leads s i j (past_digits (drop i s) ≡ drop j s)

-- j is n bytes past i, or the end of the text
abbrev pub WordEnd : Bytes → ℕ → ℕ → ℕ → Type 0
WordEnd s i n j = Leads s i j (drop n (drop i s) ≡ drop j s)
