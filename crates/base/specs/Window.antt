-- Windows into arrays, by index: total, whatever the array's length.
use Rattle.std.specs.Prelude.{List, [], ◌∷◌, ℕ, zero, suc, ◌+◌, get_or}
use Rattle.base.specs.Bytes.{Bytes}

-- the n values f i, f (i + 1), ..
unfoldable pub run : {A : Type 0} → (ℕ → A) → ℕ → ℕ → List A
run f i zero = []
run f i (suc n) = f i ∷ run f (i + 1) n

-- the byte at place i, 0 past the end
unfoldable pub byte_at : Bytes → ℕ → ℕ
byte_at a i = get_or a i 0

-- the n bytes from place i on
unfoldable pub window : Bytes → ℕ → ℕ → Bytes
window a i n = run (byte_at a) i n
