-- What the leaves promise.
use Rattle.std.specs.Prelude.{◌≡◌, Bool, true, cond, ◌&&◌, ℕ, ◌+◌, ◌*◌, eqb, length, take, drop}
use Rattle.std.specs.declared.option.Option.{Option}
use Rattle.std.specs.declared.option.Option.TheVariants.{None, Some}
use Prim.Native.Char.{code}
use Rattle.base.specs.Bytes.{Bytes}
use Rattle.base.specs.Window.{byte_at}
use Rattle.base.specs.Hex.{is_hex, undo}
use Rattle.canonical_json.specs.Read.{raw}

-- t fills a buffer that was `before`, or has another number of bytes
pub record Fills (t before : Bytes) (done : Bool) (after : Bytes) : Type 0 where
  pub fits : done ≡ eqb (length t) (length before)
  pub is : after ≡ cond done t before

-- n bytes in hex stand at place i as they are, and a quote after them
unfoldable pub digits_at : ℕ → Bytes → ℕ → Bool
digits_at n s i = is_hex n (take (n * 2) (drop i s)) && eqb (byte_at s (i + n * 2)) (code "\"")

-- digits that stand at a place, undone
unfoldable pub undone_at : Bytes → Option ℕ → Option Bytes
undone_at s None = None
undone_at s (Some i) = Some (undo (raw (drop i s)))

-- a place that is handed back is that of n bytes in hex
abbrev pub HexAt : ℕ → Bytes → Option ℕ → Type 0
HexAt n s None = Unit {0}
HexAt n s (Some i) = is_hex n (raw (drop i s)) ≡ true
