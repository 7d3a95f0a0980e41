-- The kind of a value where no single byte tells it.
use mathlib.Core.Path.{◌≡◌}
use mathlib.Core.Bool.{true}
use Prim.Native.Nat.{ℕ}
use native.Mathlib.Omega.{arith}
use borrow.Author.Tests.{ne_eqb}
use Rattle.base.specs.Bytes.{is_digit}
use Rattle.base.proofs.ByteLaws.{digit_range}
use Rattle.canonical_json.specs.Read.{kind_of}
use Rattle.canonical_json.specs.declared.Kind.TheVariants.{Digit}

pub digit-kind : (b : ℕ) → is_digit b ≡ true → kind_of b ≡ Digit
unfolding kind_of
digit-kind b e =
    let w = digit_range b e in
    simp (
      ne_eqb b 34 (λ (z : b ≡ 34). omega arith),
      ne_eqb b 45 (λ (z : b ≡ 45). omega arith),
      ne_eqb b 91 (λ (z : b ≡ 91). omega arith),
      ne_eqb b 102 (λ (z : b ≡ 102). omega arith),
      ne_eqb b 110 (λ (z : b ≡ 110). omega arith),
      ne_eqb b 116 (λ (z : b ≡ 116). omega arith),
      ne_eqb b 123 (λ (z : b ≡ 123). omega arith),
      e,
    )
