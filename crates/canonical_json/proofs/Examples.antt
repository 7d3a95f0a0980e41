-- Texts that are canonical and texts that are not.
use mathlib.Core.Path.{◌≡◌, refl}
use mathlib.Core.List.{List, [], ◌∷◌, map}
use mathlib.Core.Bool.{Bool, true, false}
use mathlib.Core.Logic.{◌↔◌}
use Prim.Native.Nat.{ℕ}
use lib.ListN.{length}
use lib.Dec.{eqb}
use Rattle.base.specs.Bytes.{Bytes, bytes, less}
use Rattle.canonical_json.specs.Lead.{lead_of}
use Rattle.canonical_json.specs.Json.{Canonical, max_depth}
use Rattle.canonical_json.specs.Read.{end_of, read, kind_of, chars, digits, number, loop, body, member}
use Rattle.std.specs.declared.option.Option.{Option}
use Rattle.std.specs.declared.option.Option.TheVariants.{None, Some}
use Rattle.canonical_json.proofs.Canonical.{verdict-no, verdict-end}

-- each text, and whether it is canonical
abbrev table : List (Bytes × Bool)
table =
    (bytes "{\"a\":1,\"a!\":2}", true)
    ∷ (bytes "{\"a\":1,\"a\":2}", false)
    ∷ (bytes "[-0]", false)
    ∷ (bytes "[01]", false)
    ∷ (bytes "[1,]", false)
    ∷ (bytes "", false)
    ∷ (bytes "[[[[[[[[]]]]]]]]", true)
    ∷ (bytes "[[[[[[[[[]]]]]]]]]", false)
    ∷ (bytes "\"\\\"\\\\\"", true)
    ∷ (bytes "\"\\/\"", false)
    ∷ []

abbrev Right : List (Bytes × Bool) → Type 0
Right [] = Unit {0}
Right (c ∷ cs) = ((c.1 ≡ true) ↔ Canonical max_depth c.0) × Right cs

-- what the reader says of a text
abbrev ends : ℕ → Option ℕ → Bool
ends n None = false
ends n (Some e) = eqb e n

verdict : Bytes → Bool
verdict t = ends (length t) (end_of (length t) (read max_depth t))

decides : (t : Bytes) → (verdict t ≡ true) ↔ Canonical max_depth t
unfolding verdict
decides t = go (end_of (length t) (read max_depth t)) refl
  where
    go : (x : Option ℕ) → end_of (length t) (read max_depth t) ≡ x → (ends (length t) x ≡ true) ↔ Canonical max_depth t
    go None e = verdict-no max_depth t e
    go (Some k) e = verdict-end max_depth t k e

all : (cs : List (Bytes × Bool)) → map (λ c. verdict c.0) cs ≡ map (λ c. c.1) cs → Right cs
all [] e = tt
all (c ∷ cs) e =
    let h : verdict c.0 ≡ c.1 = cc in
    (rw (← h) (decides c.0), all cs (cc))

pub table-right : Right table
unfolding verdict read kind_of chars lead_of digits number loop body member less
table-right = all table refl
