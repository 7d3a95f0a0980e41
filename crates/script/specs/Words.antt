-- The words of a line, parted by one space.
use Rattle.std.specs.Prelude.{[], ◌∷◌, cond, ℕ, zero, suc, eqb}
use Rattle.base.specs.Bytes.{Bytes}

-- the bytes before the first space
unfoldable pub first : Bytes → Bytes
first [] = []
first (b ∷ s) = cond (eqb b 32) [] (b ∷ first s)

-- the bytes behind the first space
unfoldable pub behind : Bytes → Bytes
behind [] = []
behind (b ∷ s) = cond (eqb b 32) s (behind s)

-- word k, counted from 0; no bytes where there is none
unfoldable pub word : ℕ → Bytes → Bytes
word zero s = first s
word (suc k) s = word k (behind s)

-- how many words there are: one more than spaces
unfoldable pub words : Bytes → ℕ
words [] = 1
words (b ∷ s) = cond (eqb b 32) (suc (words s)) (words s)
