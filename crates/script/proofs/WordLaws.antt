-- The words of a line as the parts that a split at its spaces gives.
use Rattle.std.proofs.Common.{◌≡◌, refl, sym, ap, ◌∙◌, ℕ, zero, suc, ◌+◌, List, [], ◌∷◌, Bool, true, false, cond, eqb, get_or, arith}
use Rattle.std.specs.List.{slice_split, onto_first, count_by}
use Rattle.std.proofs.lemmas.List.Sums.{sum_by-cons}
use Rattle.base.specs.Bytes.{Bytes}
use Rattle.script.specs.Words.{first, behind, word, words}

abbrev pub is_space : ℕ → Bool
is_space b = eqb b 32

-- the parts of a line
abbrev pub parts : Bytes → List Bytes
parts s = slice_split is_space s

onto-zero : (b : ℕ) (ps : List Bytes) → get_or (onto_first b ps) 0 [] ≡ b ∷ get_or ps 0 []
onto-zero b [] = refl
onto-zero b (p ∷ ps) = refl

onto-suc : (k b : ℕ) (ps : List Bytes) → get_or (onto_first b ps) (suc k) [] ≡ get_or ps (suc k) []
onto-suc k b [] = refl
onto-suc k b (p ∷ ps) = refl

none-word : (k : ℕ) → word k [] ≡ []
unfolding word first behind
none-word zero = refl
none-word (suc k) = none-word k

pub word-parts : (k : ℕ) (s : Bytes) → word k s ≡ get_or (parts s) k []
unfolding word first behind
word-parts zero [] = refl
word-parts zero (b ∷ s) = go (eqb b 32) (word-parts zero s)
  where
    go : (x : Bool) → first s ≡ get_or (parts s) 0 [] → cond x [] (b ∷ first s) ≡ get_or (cond x ([] ∷ parts s) (onto_first b (parts s))) 0 []
    go true h = refl
    go false h = ap (λ (t : Bytes). b ∷ t) h ∙ sym (onto-zero b (parts s))
word-parts (suc k) [] = none-word k
word-parts (suc k) (b ∷ s) = go (eqb b 32) (word-parts k s) (word-parts (suc k) s)
  where
    go : (x : Bool) → word k s ≡ get_or (parts s) k [] → word k (behind s) ≡ get_or (parts s) (suc k) [] →
        word k (cond x s (behind s)) ≡ get_or (cond x ([] ∷ parts s) (onto_first b (parts s))) (suc k) []
    go true h g = h
    go false h g = g ∙ sym (onto-suc k b (parts s))

pub words-count : (s : Bytes) → words s ≡ count_by is_space s + 1
unfolding words
words-count [] = refl
words-count (b ∷ s) = go (eqb b 32) (words-count s) ∙ sym (ap (λ (n : ℕ). n + 1) (sum_by-cons (λ x. cond (is_space x) 1 0) b s))
  where
    go : (x : Bool) → words s ≡ count_by is_space s + 1 → cond x (suc (words s)) (words s) ≡ cond x 1 0 + count_by is_space s + 1
    go true h = omega arith
    go false h = omega arith
