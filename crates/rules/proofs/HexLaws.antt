-- Byte strings that different hex stands for differ.
use mathlib.Core.Path.{◌≡◌, refl}
use mathlib.Core.Logic.{◌⊎◌, inl, inr, ⊎_elim}
use mathlib.Core.Bool.{Bool, true, false, ◌&&◌}
use mathlib.Core.List.{[], ◌∷◌}
use Prim.Native.Nat.{ℕ, zero, suc, ◌+◌, ◌*◌, ◌≤◌, ◌<◌}
use native.Mathlib.Omega.{arith}
use borrow.Author.Tests.{ltb-true, leb-true, leb-false}
use lib.Dec.{ltb, leb}
use lib.ListN.{length}
use Rattle.base.specs.Bytes.{Bytes}
use Rattle.base.specs.Hex.{digit_of, all_hex, is_hex, undo}
use Rattle.base.proofs.TestLaws.{both}
use Rattle.base.proofs.HexLaws.{decimal, letter, below, between, above, hex-parts}

-- the digits, by what they stand for
digit-is : (b : ℕ) → digit_of b < 16 → ((b ≡ digit_of b + 48) × (digit_of b < 10)) ⊎ ((b ≡ digit_of b + 87) × (10 ≤ digit_of b))
digit-is b h = step (leb 48 b) refl (leb b 57) refl (leb 97 b) refl (leb b 102) refl
  where
    step : (p : Bool) → leb 48 b ≡ p → (q : Bool) → leb b 57 ≡ q → (r : Bool) → leb 97 b ≡ r → (s : Bool) → leb b 102 ≡ s
        → ((b ≡ digit_of b + 48) × (digit_of b < 10)) ⊎ ((b ≡ digit_of b + 87) × (10 ≤ digit_of b))
    step false e q f r g s i = let l = leb-false 48 b e in absurd (omega (arith, below b l))
    step true e true f r g s i =
        let l = leb-true 48 b e in
        let m = leb-true b 57 f in
        inl (omega (arith, decimal b l m), omega (arith, decimal b l m))
    step true e false f false g s i = let l = leb-false b 57 f in let m = leb-false 97 b g in absurd (omega (arith, between b l m))
    step true e false f true g true i =
        let l = leb-true 97 b g in
        let m = leb-true b 102 i in
        inr (omega (arith, letter b l m), omega (arith, letter b l m))
    step true e false f true g false i = let l = leb-false b 102 i in absurd (omega (arith, above b l))

digit-one : (a b : ℕ) → digit_of a < 16 → digit_of b < 16 → digit_of a ≡ digit_of b → a ≡ b
digit-one a b h k e =
    ⊎_elim (λ p. ⊎_elim (λ q. omega (arith, p.0, p.1, q.0, q.1)) (λ q. omega (arith, p.0, p.1, q.0, q.1)) (digit-is b k))
    (λ p. ⊎_elim (λ q. omega (arith, p.0, p.1, q.0, q.1)) (λ q. omega (arith, p.0, p.1, q.0, q.1)) (digit-is b k))
    (digit-is a h)

undo-one : (n : ℕ) (s t : Bytes) → length s ≡ n * 2 → length t ≡ n * 2 → all_hex s ≡ true → all_hex t ≡ true → undo s ≡ undo t → s ≡ t
unfolding undo all_hex
undo-one zero [] [] h k p q e = refl
undo-one zero [] (c ∷ t) h k p q e = absurd (omega arith)
undo-one zero (a ∷ s) t h k p q e = absurd (omega arith)
undo-one (suc n) [] t h k p q e = absurd (omega arith)
undo-one (suc n) (a ∷ []) t h k p q e = absurd (omega arith)
undo-one (suc n) (a ∷ (b ∷ s)) [] h k p q e = absurd (omega arith)
undo-one (suc n) (a ∷ (b ∷ s)) (c ∷ []) h k p q e = absurd (omega arith)
undo-one (suc n) (a ∷ (b ∷ s)) (c ∷ (d ∷ t)) h k p q e =
    let v = both (ltb (digit_of a) 16) (ltb (digit_of b) 16 && all_hex s) p in
    let v' = both (ltb (digit_of b) 16) (all_hex s) v.1 in
    let w = both (ltb (digit_of c) 16) (ltb (digit_of d) 16 && all_hex t) q in
    let w' = both (ltb (digit_of d) 16) (all_hex t) w.1 in
    let a-hex = ltb-true (digit_of a) 16 v.0 in
    let b-hex = ltb-true (digit_of b) 16 v'.0 in
    let c-hex = ltb-true (digit_of c) 16 w.0 in
    let d-hex = ltb-true (digit_of d) 16 w'.0 in
    let byte : digit_of a * 16 + digit_of b ≡ digit_of c * 16 + digit_of d = cc in
    let rest : undo s ≡ undo t = cc in
    let high = digit-one a c a-hex c-hex (omega arith) in
    let low = digit-one b d b-hex d-hex (omega arith) in
    let tails = undo-one n s t (omega arith) (omega arith) v'.1 w'.1 rest in
    cc

pub hex-one : (n : ℕ) (s t : Bytes) → is_hex n s ≡ true → is_hex n t ≡ true → undo s ≡ undo t → s ≡ t
hex-one n s t p q e =
    let v = hex-parts n s p in
    let w = hex-parts n t q in
    undo-one n s t v.0 w.0 v.1 w.1 e
