-- Quotients of natural numbers by any m above 0.
use Prim.Native.Nat.{ℕ, suc, ◌+◌, ◌-◌, ◌*◌, ◌/◌, ◌%◌, ◌<◌}
use mathlib.Core.Path.{◌≡◌, sym, ◌∙◌, ap}
use mathlib.Core.Bool.{Bool, true, false, cond}
use lib.Dec.{eqb}
use native.Mathlib.Omega.{arith}
use native.Mathlib.Nat.{add-mul, suc-mul, mod-lt, div-add-mod', mul-add-div_right, div-eq_of_lt, div-lt_iff_lt-mul}
use borrow.Author.Tests.{eqb-true, eqb-false}

module _ (m : ℕ) (p : 0 < m) where
  pub quotient : (x q r : ℕ) → x ≡ q * m + r → r < m → x / m ≡ q
  quotient x q r e h = ap (λ (n : ℕ). n / m) e ∙ mul-add-div_right p q r ∙ ap (λ (n : ℕ). q + n) (div-eq_of_lt h) ∙ omega arith

  -- the quotient rounded up grows by one after a multiple of m
  pub rounded_up : (x : ℕ) (b : Bool) → eqb (x % m) 0 ≡ b → (suc x + (m - 1)) / m ≡ (x + (m - 1)) / m + cond b 1 0
  rounded_up x true e =
      let z = eqb-true (x % m) 0 e in
      let w = div-add-mod' x m in
      quotient (suc x + (m - 1)) (suc (x / m)) 0 (omega (arith, suc-mul (x / m) m)) p
      ∙ sym (ap (λ (n : ℕ). n + 1) (quotient (x + (m - 1)) (x / m) (m - 1) (omega arith) (omega arith)) ∙ omega arith)
  rounded_up x false e =
      let z = eqb-false (x % m) 0 e in
      let w = div-add-mod' x m in
      let l = mod-lt x p in
      quotient (suc x + (m - 1)) (suc (x / m)) (x % m) (omega (arith, suc-mul (x / m) m)) l
      ∙ sym (ap (λ (n : ℕ). n + 0) (quotient (x + (m - 1)) (suc (x / m)) (x % m - 1) (omega (arith, suc-mul (x / m) m)) (omega arith)) ∙ omega arith)

  -- x and n make up k times m, less one: so do their quotients
  pub complement : (x n k : ℕ) → k * m ≡ x + suc n → k ≡ x / m + suc (n / m)
  complement x n k e =
      let q = x / m in
      let w = div-add-mod' x m in
      let l = mod-lt x p in
      let less : q < k = (div-lt_iff_lt-mul p).1 (omega arith) in
      let j = k - suc q in
      let s : k ≡ suc q + j = omega arith in
      let t : k * m ≡ suc q * m + j * m = ap (λ (n : ℕ). n * m) s ∙ add-mul (suc q) j m in
      let r : n ≡ j * m + (m - 1 - x % m) = omega (arith, suc-mul q m) in
      omega (arith, quotient n j (m - 1 - x % m) r (omega arith))
