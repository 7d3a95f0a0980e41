-- Numbers and words: what is read was written, and what is written is read.
use mathlib.Core.Path.{◌≡◌, refl, sym, ap, ◌∙◌}
use mathlib.Core.List.{[], ◌∷◌, ◌++◌}
use mathlib.Core.Bool.{Bool, true, false, cond, not, ◌&&◌}
use Prim.Native.Nat.{ℕ}
use lib.Dec.{eqb}
use borrow.Author.Tests.{eq-eqb, eqb-true}
use Rattle.base.specs.Bytes.{Bytes, is_digit}
use Rattle.base.proofs.TestLaws.{never, both}
use Rattle.canonical_json.specs.Json.{all_digits, is_nil, valid_num}
use Rattle.canonical_json.specs.Read.{got, digits, number, word, NoDigit}
use Rattle.canonical_json.proofs.Cases.{choose-elim}
use Rattle.canonical_json.proofs.Says.{Says, says-bad, says-got, says-also, says_map}

abbrev DigitsOf : Bytes → Bytes → Bytes → Type 0
DigitsOf t ds r = (t ≡ ds ++ r) × (all_digits ds ≡ true)

digits_sound : (t : Bytes) → Says (DigitsOf t) (digits t)
unfolding digits
digits_sound [] = says-got (refl, refl)
digits_sound (b ∷ t) =
    choose-elim (Says (DigitsOf (b ∷ t))) (is_digit b) _ _
    (λ (e : is_digit b ≡ true). says-also (λ (x : Bytes). b ∷ x) (digits_sound t) (λ ds r q. (ap (λ (x : Bytes). b ∷ x) q.0, simp e q.1)))
    (λ _. says-got (refl, refl))

abbrev pub NumberOf : Bool → Bytes → Bytes → Bytes → Type 0
NumberOf neg t ds r = (t ≡ ds ++ r) × (valid_num neg ds ≡ true)

pub number_sound : (neg : Bool) (t : Bytes) → Says (NumberOf neg t) (number neg t)
unfolding number
number_sound neg [] = says-bad
number_sound neg (b ∷ t) =
    choose-elim (Says (NumberOf neg (b ∷ t))) (eqb b 48) _ _
    (λ (e : eqb b 48 ≡ true). choose-elim (Says (NumberOf neg (b ∷ t))) neg _ _ (λ _. says-bad)
    (λ (n : neg ≡ false). says-got (ap (λ (x : ℕ). x ∷ t) (eqb-true b 48 e), rw n)))
    (λ (e : eqb b 48 ≡ false). choose-elim (Says (NumberOf neg (b ∷ t))) (is_digit b) _ _
    (λ (f : is_digit b ≡ true). says-also (λ (x : Bytes). b ∷ x) (digits_sound t) (λ ds r q. (ap (λ (x : Bytes). b ∷ x) q.0, simp (e, f) q.1)))
    (λ _. says-bad))

digits-stop : (r : Bytes) → NoDigit r → digits r ≡ got [] r
unfolding digits
digits-stop [] f = refl
digits-stop (c ∷ t) f = simp f

digits-complete : (ds r : Bytes) → all_digits ds ≡ true → NoDigit r → digits (ds ++ r) ≡ got ds r
unfolding digits
digits-complete [] r g f = digits-stop r f
digits-complete (b ∷ ds) r g f =
    let e = both (is_digit b) (all_digits ds) g in
    simp (e.0, digits-complete ds r e.1 f)

pub number-complete : (neg : Bool) (ds r : Bytes) → valid_num neg ds ≡ true → NoDigit r → number neg (ds ++ r) ≡ got ds r
unfolding number
number-complete neg [] r g f = never (sym g)
number-complete neg (b ∷ ds) r g f = go (eqb b 48) refl ds neg g
  where
    go : (x : Bool) → eqb b 48 ≡ x → (ds : Bytes) (neg : Bool) → cond x (not neg && is_nil ds) (is_digit b && all_digits ds) ≡ true → number neg (b ∷ (ds ++ r)) ≡ got (b ∷ ds) r
    go true e ds true g = never (sym g)
    go true e [] false g = rw e (ap (λ (x : ℕ). got (x ∷ []) r) (sym (eqb-true b 48 e)))
    go true e (c ∷ ds) false g = never (sym g)
    go false e ds neg g =
        let w = both (is_digit b) (all_digits ds) g in
        rw e (simp (w.0, digits-complete ds r w.1 f))

pub word_sound : (w t : Bytes) → Says (λ (x : Unit {0}) (r : Bytes). t ≡ w ++ r) (word w t)
word_sound [] t = says-got refl
word_sound (c ∷ w) [] = says-bad
word_sound (c ∷ w) (b ∷ t) =
    choose-elim (Says (λ (x : Unit {0}) (r : Bytes). b ∷ t ≡ c ∷ w ++ r)) (eqb b c) _ _
    (λ (e : eqb b c ≡ true). says_map (word_sound w t) (λ x r q. ap (λ (x : ℕ). x ∷ t) (eqb-true b c e) ∙ ap (λ (x : Bytes). c ∷ x) q))
    (λ _. says-bad)

pub word-complete : (w r : Bytes) → word w (w ++ r) ≡ got tt r
word-complete [] r = refl
word-complete (c ∷ w) r = rw (eq-eqb c c refl) (word-complete w r)
