-- Names as they stand in a text.
use Rattle.std.specs.Prelude.{◌≡◌, [], ◌∷◌, cond, ℕ, ◌+◌, ◌<◌, ◌≤◌, eqb, length, drop}
use Rattle.std.specs.declared.option.Option.{Option}
use Rattle.std.specs.declared.option.Option.TheVariants.{None, Some}
use Rattle.base.specs.Bytes.{Bytes}
use Rattle.canonical_json.specs.Read.{raw}

-- the byte in front of the text of a name, which stands at place i: the name ends, or has a byte, escapes undone, and goes on at a later place
unfoldable pub escaped_at : ℕ → Bytes → Option (ℕ × ℕ)
escaped_at i [] = None
escaped_at i (b ∷ t) = Some (b, i + 1)

unfoldable pub char_of : ℕ → Bytes → Option (ℕ × ℕ)
char_of i [] = None
char_of i (b ∷ t) = cond (eqb b 34) None (cond (eqb b 92) (escaped_at (i + 1) t) (Some (b, i + 1)))

-- at i the name ends, or has the byte b, and goes on at j
abbrev pub CharAt : Bytes → ℕ → Option (ℕ × ℕ) → Type 0
CharAt s i None = raw (drop i s) ≡ []
CharAt s i (Some c) = (raw (drop i s) ≡ c.0 ∷ raw (drop c.1 s)) × (i < c.1) × (c.1 ≤ length s)

-- which byte it is, and what it says of the name
pub record CharRead (s : Bytes) (i : ℕ) (r : Option (ℕ × ℕ)) : Type 0 where
  pub is : r ≡ char_of i (drop i s)
  pub means : CharAt s i r

-- the name before, which stands in the text
abbrev pub last_of : Bytes → Option ℕ → Option (Bytes)
last_of s None = None
last_of s (Some p) = Some (raw (drop p s))
