-- An array of structs that is filled from the front: what its first values stand for.
use mathlib.Core.Path.{◌≡◌, refl, ap, ◌∙◌}
use mathlib.Core.List.{List, [], ◌∷◌, ◌++◌}
use Prim.Native.Nat.{ℕ, zero, suc, ◌+◌, ◌≤◌, ◌<◌, min}
use native.Mathlib.Omega.{arith}
use native.Mathlib.Numerals.{add-one}
use lib.ListN.{length, get_or, set}
use lib.Seq.{get_or-set_same, get_or-set_other}
use Rattle.base.specs.Window.{run}
use Rattle.records.specs.View.{firsts}

run-last : {A : Type 0} (f : ℕ → A) (i n : ℕ) → run f i (suc n) ≡ run f i n ++ (f (i + n) ∷ [])
unfolding run
run-last f i zero = let z : i + 0 ≡ i = omega arith in rw z
run-last f i (suc n) =
    let z : i + 1 + n ≡ i + suc n = omega arith in
    rw (run-last f (i + 1) n, z)

run_agree : {A : Type 0} (f g : ℕ → A) (i n : ℕ) → ((j : ℕ) → j < i + n → f j ≡ g j) → run f i n ≡ run g i n
unfolding run
run_agree f g i zero h = refl
run_agree f g i (suc n) h = rw (h i (omega arith), run_agree f g (i + 1) n (λ (j : ℕ) (l : j < i + 1 + n). h j (omega arith)))

module _ {X A : Type 0} (view : X → A) (d : X) where
  -- the first n values
  unfoldable pub front : List X → ℕ → List A
  front l n = run (λ i. view (get_or l i d)) 0 n

  pub front-none : (l : List X) → front l 0 ≡ []
  unfolding front run
  front-none l = refl

  pub front-more : (l : List X) (n : ℕ) (x : X) → n < length l → front (set l n x) (n + 1) ≡ front l n ++ (view x ∷ [])
  unfolding front
  front-more l n x h =
      let f : ℕ → A = λ i. view (get_or (set l n x) i d) in
      let g : ℕ → A = λ i. view (get_or l i d) in
      let z : 0 + n ≡ n = omega arith in
      let last : run f 0 (n + 1) ≡ run f 0 n ++ (f (0 + n) ∷ []) = rw (add-one n) (run-last f 0 n) in
      let before : run f 0 n ≡ run g 0 n = run_agree f g 0 n (λ (j : ℕ) (k : j < 0 + n). ap view (get_or-set_other l n j x d (λ (e : j ≡ n). omega arith))) in
      let new : f (0 + n) ≡ view x = ap f z ∙ ap view (get_or-set_same l n x d h) in
      last ∙ ap (λ (t : List A). t ++ (f (0 + n) ∷ [])) before ∙ ap (λ (a : A). run g 0 n ++ (a ∷ [])) new

  pub front-firsts : (l : List X) (n most : ℕ) → n ≤ most → firsts (λ i. view (get_or l i d)) n most ≡ front l n
  unfolding front firsts
  front-firsts l n most h = ap (λ (k : ℕ). run (λ i. view (get_or l i d)) 0 k) (least n most h)
    where
      least : (n most : ℕ) → n ≤ most → min n most ≡ n
      least n most h = omega arith
