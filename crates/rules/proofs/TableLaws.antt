-- A call's table: the answer is 0 exactly where no condition holds, and else the lowest number whose condition holds.
use mathlib.Core.Path.{◌≡◌, refl, sym, ◌∙◌}
use mathlib.Core.Logic.{◌⊎◌, inl, inr, ⊎_elim}
use mathlib.Core.Bool.{Bool, true, false, cond, ◌&&◌}
use Rattle.std.specs.declared.option.Option.{Option}
use Rattle.std.specs.declared.option.Option.TheVariants.{None, Some}
use mathlib.Core.List.{List, [], ◌∷◌}
use Prim.Native.Nat.{ℕ, zero, suc, ◌≤◌, ◌<◌}
use native.Mathlib.Omega.{arith}
use native.Mathlib.Nat.{le_trans}
use lib.Dec.{leb, eqb}
use borrow.Author.Tests.{leb-true, eq-eqb}
use Rattle.base.proofs.TestLaws.{never, both}
use Rattle.base.specs.Bytes.{Bytes}
use Rattle.rules.specs.Records.{Fault, too_long, not_text, bad_form, other_keyid, other_spec, Read, refused, says}
use Rattle.rules.specs.Table.{Refusal, ◌when◌, first, of_held}
use Rattle.rules.specs.Steps.{fault_number, judged}

-- ## No condition holds

abbrev pub Clear : List Refusal → Type 0
Clear [] = Unit {0}
Clear (n when b ∷ rest) = (b ≡ false) × Clear rest

-- one line after another
infixr 5 ◌&◌
abbrev pub ◌&◌ : {A B : Type 0} → A → B → A × B
a & b = (a, b)

pub clear_first : (rows : List Refusal) → Clear rows → first rows ≡ 0
unfolding first
clear_first [] p = refl
clear_first (n when true ∷ rest) p = never p.0
clear_first (n when false ∷ rest) p = clear_first rest p.1

-- ## What holds of every number of a table, and of 0, holds of its answer

abbrev pub every : (ℕ → Bool) → List Refusal → Bool
every p [] = true
every p (n when b ∷ rest) = p n && every p rest

pub first-every : (p : ℕ → Bool) (rows : List Refusal) → p 0 ≡ true → every p rows ≡ true → p (first rows) ≡ true
unfolding first
first-every p [] z e = z
first-every p (n when true ∷ rest) z e = (both (p n) (every p rest) e).0
first-every p (n when false ∷ rest) z e = first-every p rest z (both (p n) (every p rest) e).1

-- ## Rising numbers

-- the numbers do not fall, and none is below m
abbrev pub rising : ℕ → List Refusal → Bool
rising m [] = true
rising m (n when b ∷ rest) = leb m n && rising n rest

pub first-clear : (m : ℕ) (rows : List Refusal) → 1 ≤ m → rising m rows ≡ true → first rows ≡ 0 → Clear rows
unfolding first
first-clear m [] l r e = tt
first-clear m (n when true ∷ rest) l r e = absurd (omega (arith, leb-true m n (both (leb m n) (rising n rest) r).0))
first-clear m (n when false ∷ rest) l r e =
    let w = both (leb m n) (rising n rest) r in
    (refl, first-clear n rest (le_trans l (leb-true m n w.0)) w.1 e)

-- the condition of the line of a number, of its k-th line where it has several, counted from 0
abbrev pub condition : ℕ → ℕ → List Refusal → Bool
condition n k [] = false
condition n k (m when b ∷ rest) = cond (eqb n m) (elim k [ zero ↦ b | suc j ↦ condition n j rest ]) (condition n k rest)

pub line_clear : (rows : List Refusal) → Clear rows → (n k : ℕ) → condition n k rows ≡ false
line_clear [] p n k = refl
line_clear (m when b ∷ rest) p n k = go (eqb n m) k (line_clear rest p.1 n)
  where
    go : (c : Bool) (k : ℕ) → ((j : ℕ) → condition n j rest ≡ false)
        → cond c (elim k as (λ x. Bool) [ zero ↦ b | suc j ↦ condition n j rest ]) (condition n k rest) ≡ false
    go true zero more = p.0
    go true (suc j) more = more j
    go false k more = more k

-- where the answer is 0, the condition of no line holds
pub no_line : (rows : List Refusal) → rising 5 rows ≡ true → first rows ≡ 0 → (n k : ℕ) → condition n k rows ≡ false
no_line rows r e = line_clear rows (first-clear 5 rows (omega arith) r e)

-- ## The line that answers

-- a number that is answered has a line whose condition holds
pub line_holds : (rows : List Refusal) (n : ℕ) → ¬ (n ≡ 0) → first rows ≡ n → (k : ℕ) × (condition n k rows ≡ true)
unfolding first
line_holds [] n x e = absurd (x (sym e))
line_holds (m when true ∷ rest) n x e = (0, rw (eq-eqb n m (sym e)))
line_holds (m when false ∷ rest) n x e = go (line_holds rest n x e) (eqb n m)
  where
    go : (k : ℕ) × (condition n k rest ≡ true) → (c : Bool)
        → (k : ℕ) × (cond c (elim k as (λ x. Bool) [ zero ↦ false | suc j ↦ condition n j rest ]) (condition n k rest) ≡ true)
    go w true = (suc w.0, w.1)
    go w false = w

-- ## Records that may not be held

pub held_test : {A : Type 0} {o : Option A} {a : A} (p : A → Bool) → o ≡ Some a → of_held o p ≡ false → p a ≡ false
held_test p e t = rw e at t

pub test_held : {A : Type 0} (o : Option A) (p : A → Bool) → ((a : A) → o ≡ Some a → p a ≡ false) → of_held o p ≡ false
test_held None p f = refl
test_held (Some a) p f = f a refl

pub held-true : {A : Type 0} (o : Option A) (p : A → Bool) → of_held o p ≡ true → (a : A) × (o ≡ Some a) × (p a ≡ true)
held-true None p e = never (sym e)
held-true (Some a) p e = (a, refl, e)

pub one-held : {A : Type 0} {o : Option A} {a b : A} → o ≡ Some a → o ≡ Some b → a ≡ b
one-held p q = cc

-- ## Reading and the table

-- reading refuses with 1 to 4 or 16
pub fault-numbers : (f : Fault) → (1 ≤ fault_number f) × ((fault_number f < 5) ⊎ (fault_number f ≡ 16))
unfolding fault_number
fault-numbers too_long = (omega arith, inl (omega arith))
fault-numbers not_text = (omega arith, inl (omega arith))
fault-numbers bad_form = (omega arith, inl (omega arith))
fault-numbers other_keyid = (omega arith, inr refl)
fault-numbers other_spec = (omega arith, inl (omega arith))

pub fault-refuses : (f : Fault) → ¬ (fault_number f ≡ 0)
fault-refuses f e = let w = (fault-numbers f).0 in omega arith

pub fault-other : (n : ℕ) → 5 ≤ n → n < 16 → (f : Fault) → ¬ (fault_number f ≡ n)
fault-other n lo hi f e =
    ⊎_elim (λ (l : fault_number f < 5). omega arith) (λ (q : fault_number f ≡ 16). omega arith) (fault-numbers f).1

-- a file that was judged 0 was read, and no condition of the table holds of what it says
pub record Judged {A : Type 0} (rd : Read A) (table : A → List Bytes → List Refusal) : Type 0 where
  pub file : A
  pub entries : List Bytes
  pub reads : rd ≡ says file entries
  pub clear : first (table file entries) ≡ 0

pub judged-says : {A : Type 0} (rd : Read A) (table : A → List Bytes → List Refusal) → judged rd table ≡ 0 → Judged rd table
unfolding judged
judged-says (refused f) table e = absurd (fault-refuses f e)
judged-says (says a es) table e = record { file = a; entries = es; reads = refl; clear = e }

-- where another number of the table is answered, one of its lines holds of what the file says
pub judged_line : {A X : Type 0} (rd : Read A) (table : A → List Bytes → List Refusal) (n : ℕ) → 5 ≤ n → n < 16
    → ((a : A) (es : List Bytes) → rd ≡ says a es → (k : ℕ) → condition n k (table a es) ≡ true → X) → judged rd table ≡ n → X
unfolding judged
judged_line (refused f) table n lo hi line e = absurd (fault-other n lo hi f e)
judged_line (says a es) table n lo hi line e = let w = line_holds (table a es) n (λ z. omega arith) e in line a es refl w.0 w.1

pub judged-is : {A : Type 0} {rd : Read A} {a : A} {es : List Bytes} (table : A → List Bytes → List Refusal) → rd ≡ says a es
    → judged rd table ≡ first (table a es)
unfolding judged
judged-is table e = rw e

pub says-judged : {A : Type 0} {rd : Read A} {a : A} {es : List Bytes} (table : A → List Bytes → List Refusal) → rd ≡ says a es
    → Clear (table a es) → judged rd table ≡ 0
says-judged {a} {es} table e c = judged-is table e ∙ clear_first (table a es) c
