-- The order of byte strings.
use mathlib.Core.Path.{◌≡◌, refl, sym, ap, ◌∙◌}
use mathlib.Core.Logic.{◌⊎◌, inl, inr}
use mathlib.Core.Bool.{Bool, true, false, cond}
use mathlib.Core.List.{[], ◌∷◌}
use Prim.Native.Nat.{ℕ, ◌<◌}
use native.Mathlib.Omega.{arith}
use borrow.Author.Tests.{eq-eqb, eqb-true, ltb-true, lt-ltb, ne_eqb}
use lib.Dec.{eqb, ltb}
use Rattle.base.specs.Bytes.{Bytes, same, less}
use Rattle.base.proofs.TestLaws.{never}
use Rattle.base.proofs.ByteLaws.{same_true}

pub less_self : (a : Bytes) → less a a ≡ false
unfolding less
less_self [] = refl
less_self (x ∷ a) = rw (eq-eqb x x refl) (less_self a)

less-cases : (x y : ℕ) (a b : Bytes) → less (x ∷ a) (y ∷ b) ≡ true → (x < y) ⊎ ((x ≡ y) × (less a b ≡ true))
unfolding less
less-cases x y a b e = step (eqb x y) refl e
  where
    step : (t : Bool) → eqb x y ≡ t → cond t (less a b) (ltb x y) ≡ true → (x < y) ⊎ ((x ≡ y) × (less a b ≡ true))
    step true q e = inr (eqb-true x y q, e)
    step false q e = inl (ltb-true x y e)

less-byte : (x y : ℕ) (a b : Bytes) → x < y → less (x ∷ a) (y ∷ b) ≡ true
unfolding less
less-byte x y a b h = rw (ne_eqb x y (λ (e : x ≡ y). omega arith), lt-ltb x y h)

less-tail : (x y : ℕ) (a b : Bytes) → x ≡ y → less a b ≡ true → less (x ∷ a) (y ∷ b) ≡ true
unfolding less
less-tail x y a b e h = rw (eq-eqb x y e) h

pub less_trans : (a b c : Bytes) → less a b ≡ true → less b c ≡ true → less a c ≡ true
unfolding less
less_trans a b [] p q = never (sym q)
less_trans a [] (z ∷ c) p q = never (sym p)
less_trans [] (y ∷ b) (z ∷ c) p q = refl
less_trans (x ∷ a) (y ∷ b) (z ∷ c) p q = cases (less-cases x y a b p) (less-cases y z b c q) (less_trans a b c)
  where
    cases : (x < y) ⊎ ((x ≡ y) × (less a b ≡ true)) → (y < z) ⊎ ((y ≡ z) × (less b c ≡ true))
        → (less a b ≡ true → less b c ≡ true → less a c ≡ true) → less (x ∷ a) (z ∷ c) ≡ true
    cases (inl h) (inl k) more = less-byte x z a c (omega arith)
    cases (inl h) (inr k) more = less-byte x z a c (omega (arith, k.0))
    cases (inr h) (inl k) more = less-byte x z a c (omega (arith, h.0))
    cases (inr h) (inr k) more = less-tail x z a c (h.0 ∙ k.0) (more h.1 k.1)

-- a smaller one is another
pub less-differs : (a b : Bytes) → less a b ≡ true → same a b ≡ false
less-differs a b h = go (same a b) refl
  where
    go : (x : Bool) → same a b ≡ x → same a b ≡ false
    go true e = never (sym h ∙ ap (less a) (sym (same_true a b e)) ∙ less_self a)
    go false e = e
