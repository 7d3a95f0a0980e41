-- How the functions that read a string share the work: what one has passed, the next need not look at.
use Rattle.std.specs.Prelude.{◌≡◌, Bool, true, not, ◌&&◌, ℕ, ◌≤◌, ◌<◌, ◌+◌, length, drop, get_or, ltb, eqb}
use Rattle.base.specs.Bytes.{Bytes}
use Rattle.canonical_json.specs.Read.{Got, end_of, read_str}
use Rattle.std.specs.declared.option.Option.{Option}
use Rattle.std.specs.declared.option.Option.TheVariants.{None, Some}

-- the reading g of the rest of a string in s is refused, or ends where the string ends when it is read from j on, j at least k
abbrev pub Skips : Bytes → Got (Bytes) → ℕ → Option ℕ → Type 0
Skips s g k None = end_of (length s) g ≡ None
Skips s g k (Some j) = (end_of (length s) g ≡ end_of (length s) (read_str (drop j s))) × (k ≤ j)

-- a byte that stands for itself in a string, and takes no other with it: ASCII from 32 on, neither quote nor backslash
unfoldable pub plain : ℕ → Bool
plain b = ((ltb 31 b && ltb b 128) && not (eqb b 34)) && not (eqb b 92)

-- n such bytes from place i on
abbrev pub PlainRun : Bytes → ℕ → ℕ → Type 0
PlainRun s i n = (k : ℕ) → k < n → plain (get_or s (i + k) 0) ≡ true

-- one plain byte, in two places
unfoldable pub shared : ℕ → ℕ → Bool
shared x y = plain x && eqb x y

-- n such bytes from places i and j on
abbrev pub SharedRun : Bytes → ℕ → ℕ → ℕ → Type 0
SharedRun s i j n = (k : ℕ) → k < n → shared (get_or s (i + k) 0) (get_or s (j + k) 0) ≡ true
