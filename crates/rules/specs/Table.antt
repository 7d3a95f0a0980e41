-- "The lowest number whose condition holds, of those the call uses; 0 if none": a call's refusals stand in rising order, and the answer
-- is the first whose condition holds. Where one number has several conditions it has several lines.
use Rattle.std.specs.Prelude.{Bool, true, false, List, [], ◌∷◌, ℕ}
use Rattle.std.specs.declared.option.Option.{Option}
use Rattle.std.specs.declared.option.Option.TheVariants.{None, Some}

infix 80 ◌when◌
pub data Refusal : Type 0 where
  ◌when◌ : ℕ → Bool → Refusal

unfoldable pub first : List Refusal → ℕ
first [] = 0
first (n when true ∷ rest) = n
first (n when false ∷ rest) = first rest

-- a test of a record that may not be held: false where it is not
abbrev pub of_held : {A : Type 0} → Option A → (A → Bool) → Bool
of_held None p = false
of_held (Some a) p = p a

abbrev pub absent : {A : Type 0} → Option A → Bool
absent None = true
absent (Some a) = false
