-- The refusals of a table, asked one after another, for proofs above.
use Prim.Native.Nat.{ℕ}
use mathlib.Core.Path.{◌≡◌, refl}
use mathlib.Core.Bool.{Bool, true, false}
use mathlib.Core.List.{List, [], ◌∷◌}
use Rattle.rules.specs.Table.{Refusal, ◌when◌, first}

pub hit : (n : ℕ) (b : Bool) (rest : List Refusal) (r : Bool) → r ≡ b → r ≡ true → n ≡ first (n when b ∷ rest)
unfolding first
hit n b rest r p e = let q : b ≡ true = cc in rw q refl

pub skip : (m n : ℕ) (b : Bool) (rest : List Refusal) (r : Bool) → r ≡ b → r ≡ false → m ≡ first rest → m ≡ first (n when b ∷ rest)
unfolding first
skip m n b rest r p e h = let q : b ≡ false = cc in rw q h

pub none-holds : 0 ≡ first []
unfolding first
none-holds = refl

pub ruleset table = (skip, hit, none-holds)
