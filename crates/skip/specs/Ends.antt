-- What a skip over a value promises.
use Rattle.std.specs.Prelude.{◌≡◌, ℕ, ◌-◌, ◌<◌, ◌≤◌, length, drop}
use Rattle.base.specs.Bytes.{Bytes}
use Rattle.canonical_json.specs.Json.{Json, put, Valid, max_depth}
use Rattle.canonical_json.specs.Read.{NoDigit}
use Rattle.std.specs.declared.option.Option.{Option}
use Rattle.std.specs.declared.option.Option.TheVariants.{None, Some}

-- an end that is handed back lies after p and in the text
abbrev pub EndAfter : Bytes → ℕ → Option ℕ → Type 0
EndAfter s p None = Unit {0}
EndAfter s p (Some e) = (p < e) × (e ≤ length s)

-- r is where the value at p ends, if one stands there; elsewhere the answer is the program's choice
pub record Ends (s : Bytes) (p : ℕ) (r : Option ℕ) : Type 0 where
  pub means : (v : Json) (rest : Bytes) → drop p s ≡ put v rest → NoDigit rest → Valid v max_depth → r ≡ Some (length s - length rest)
  -- of every text, so that loops end
  pub onward : EndAfter s p r
