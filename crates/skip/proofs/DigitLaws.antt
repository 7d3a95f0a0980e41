-- The digits of a number.
use mathlib.Core.Path.{◌≡◌, refl, sym, ap, ◌∙◌}
use mathlib.Core.List.{[], ◌∷◌}
use mathlib.Core.Bool.{Bool, true, false, cond, not, ◌&&◌}
use Prim.Native.Nat.{ℕ}
use lib.Dec.{eqb}
use borrow.Author.Tests.{ne_eqb, eqb-true}
use Rattle.base.specs.Bytes.{Bytes, is_digit}
use Rattle.base.proofs.TestLaws.{never}
use Rattle.canonical_json.specs.Json.{valid_num, all_digits, is_nil}

-- a digit is none of the other bytes
pub digit_not : (b c : ℕ) → is_digit b ≡ true → is_digit c ≡ false → eqb b c ≡ false
digit_not b c d n = ne_eqb b c (λ (e : b ≡ c). never (sym d ∙ ap (λ (x : ℕ). is_digit x) e ∙ n))

pub all_digits_lem : (minus : Bool) (ds : Bytes) → valid_num minus ds ≡ true → all_digits ds ≡ true
all_digits_lem minus [] g = never (sym g)
all_digits_lem minus (b ∷ ds) g = go (eqb b 48) refl minus ds g
  where
    go : (x : Bool) → eqb b 48 ≡ x → (minus : Bool) (ds : Bytes) → cond x (not minus && is_nil ds) (is_digit b && all_digits ds) ≡ true → all_digits (b ∷ ds) ≡ true
    go true e true ds g = never (sym g)
    go true e false [] g = let k : b ≡ 48 = eqb-true b 48 e in rw k
    go true e false (c ∷ ds) g = never (sym g)
    go false e minus ds g = g
