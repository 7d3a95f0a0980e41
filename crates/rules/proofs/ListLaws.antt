-- Tests as statements; lists: tests of their elements, membership, different elements, filters.
use mathlib.Core.Path.{◌≡◌, refl, sym, ap, ◌∙◌}
use mathlib.Core.Logic.{◌↔◌, ◌⊎◌, inl, inr, ⊎_elim}
use mathlib.Core.Bool.{Bool, true, false, not, cond, ◌&&◌, ◌||◌}
use mathlib.Core.List.Memᴰ
use mathlib.Core.List.{List, [], ◌∷◌, Memᴰ}
use Prim.Native.Nat.{suc, ◌≤◌}
use native.Mathlib.Omega.{arith}
use lib.ListN.{length}
use Rattle.base.specs.Bytes.{Bytes, same}
use Rattle.base.proofs.ByteLaws.{same_self, same_true}
use Rattle.base.proofs.TestLaws.{never, both, neither}
use Rattle.rules.specs.Forms.{is_in, different, all_of}
use Rattle.rules.specs.State.{filter}
use Rattle.rules.specs.Conditions.{any}
use Rattle.rules.specs.Words.{Different}

-- ## Tests

-- a test that is true exactly where P holds is false exactly where it does not, and the other way round
pub false-exactly : {P : Type 0} (b : Bool) → ((b ≡ true) ↔ P) → (b ≡ false) ↔ (¬ P)
false-exactly true h = (λ e. never e, λ n. absurd (n (h.0 refl)))
false-exactly false h = (λ e p. never (sym (h.1 p)), λ n. refl)

pub true-exactly : {P : Type 0} (b : Bool) → ((b ≡ false) ↔ P) → (b ≡ true) ↔ (¬ P)
true-exactly true h = (λ e p. never (h.1 p), λ n. refl)
true-exactly false h = (λ e. never (sym e), λ n. absurd (n (h.0 refl)))

pub neither-exactly : {P Q : Type 0} (a b : Bool) → ((a ≡ false) ↔ P) → ((b ≡ false) ↔ Q) → (a || b ≡ false) ↔ (P × Q)
neither-exactly true b p q = (λ e. never e, λ w. never (p.1 w.0))
neither-exactly false b p q = (λ e. (p.0 refl, q.0 e), λ w. q.1 w.1)

pub both-exactly : {P Q : Type 0} (a b : Bool) → ((a ≡ true) ↔ P) → ((b ≡ true) ↔ Q) → (a && b ≡ true) ↔ (P × Q)
both-exactly true b p q = (λ e. (p.0 refl, q.0 e), λ w. q.1 w.1)
both-exactly false b p q = (λ e. never (sym e), λ w. never (sym (p.1 w.0)))

pub not-exactly : {P : Type 0} (b : Bool) → ((b ≡ true) ↔ P) → (not b ≡ false) ↔ P
not-exactly true h = (λ e. h.0 refl, λ p. refl)
not-exactly false h = (λ e. never e, λ p. never (sym (h.1 p)))

pub either_exactly : {P Q : Type 0} (a b : Bool) → ((a ≡ true) ↔ P) → ((b ≡ true) ↔ Q) → (a || b ≡ true) ↔ (P ⊎ Q)
either_exactly {P} {Q} true b p q = (λ e. inl (p.0 refl), λ w. refl)
either_exactly {P} {Q} false b p q = (λ e. inr (q.0 e), ⊎_elim (λ x. never (sym (p.1 x))) q.1)

-- bytes are compared
pub same-exactly : (a b : Bytes) → (same a b ≡ true) ↔ (a ≡ b)
same-exactly a b = (same_true a b, λ e. rw (← e, same_self a))

-- ## Elements

pub any_false : {A : Type 0} (p : A → Bool) (xs : List A) → (any p xs ≡ false) ↔ ((x : A) → Memᴰ x xs → p x ≡ false)
any_false {A} p xs = (λ e x. there x xs e, back xs)
  where
    there : (x : A) (xs : List A) → any p xs ≡ false → Memᴰ x xs → p x ≡ false
    there x xs e (Memᴰ.head {x = y} {xs = ys} q) = rw q (neither (p y) (any p ys) e).0
    there x xs e (Memᴰ.tail {x = y} {xs = ys} m) = there x ys (neither (p y) (any p ys) e).1 m

    back : (xs : List A) → ((x : A) → Memᴰ x xs → p x ≡ false) → any p xs ≡ false
    back [] f = refl
    back (x ∷ xs) f = rw (f x (Memᴰ.head refl)) (back xs (λ y m. f y (Memᴰ.tail m)))

pub all_true : (p : Bytes → Bool) (xs : List Bytes) → (all_of p xs ≡ true) ↔ ((x : Bytes) → Memᴰ x xs → p x ≡ true)
all_true p xs = (λ e x. there x xs e, back xs)
  where
    there : (x : Bytes) (xs : List Bytes) → all_of p xs ≡ true → Memᴰ x xs → p x ≡ true
    there x xs e (Memᴰ.head {x = y} {xs = ys} q) = rw q (both (p y) (all_of p ys) e).0
    there x xs e (Memᴰ.tail {x = y} {xs = ys} m) = there x ys (both (p y) (all_of p ys) e).1 m

    back : (xs : List Bytes) → ((x : Bytes) → Memᴰ x xs → p x ≡ true) → all_of p xs ≡ true
    back [] f = refl
    back (x ∷ xs) f = rw (f x (Memᴰ.head refl)) (back xs (λ y m. f y (Memᴰ.tail m)))

pub is-in : (k : Bytes) (xs : List Bytes) → (is_in k xs ≡ true) ↔ Memᴰ k xs
unfolding is_in
is-in k [] = (λ e. never (sym e), λ m. elim m [ ])
is-in k (x ∷ xs) =
    let w = either_exactly (same k x) (is_in k xs) (same-exactly k x) (is-in k xs) in
    (λ e. ⊎_elim Memᴰ.head Memᴰ.tail (w.0 e), λ m. w.1 (Memᴰ.cases_cons m))

-- ## Different elements

pub different-true : (xs : List Bytes) → (different xs ≡ true) ↔ Different xs
unfolding different
different-true [] = (λ e. tt, λ d. refl)
different-true (x ∷ xs) =
    both-exactly (not (is_in x xs)) (different xs) (true-exactly (not (is_in x xs)) (not-exactly (is_in x xs) (is-in x xs))) (different-true xs)

-- a list without one of its elements
taken_out : (x : Bytes) (ys : List Bytes) → Memᴰ x ys
    → (zs : List Bytes) × (length ys ≡ suc (length zs)) × ((y : Bytes) → Memᴰ y ys → ¬ (y ≡ x) → Memᴰ y zs)
taken_out x ys (Memᴰ.head {x = z} {xs = zs} e) =
    (zs, refl, λ y i n. ⊎_elim (λ q. absurd (n (q ∙ sym e))) (λ k. k) (Memᴰ.cases_cons i))
taken_out x ys (Memᴰ.tail {x = z} {xs = zs} m) =
    let w = taken_out x zs m in
    (z ∷ w.0, ap suc w.1, λ y i n. ⊎_elim Memᴰ.head (λ k. Memᴰ.tail (w.2 y k n)) (Memᴰ.cases_cons i))

-- different elements of a list are not more than it has
pub no_longer : (xs ys : List Bytes) → Different xs → ((k : Bytes) → Memᴰ k xs → Memᴰ k ys) → length xs ≤ length ys
no_longer [] ys d f = omega arith
no_longer (x ∷ xs) ys d f =
    let w = taken_out x ys (f x (Memᴰ.head refl)) in
    let h = no_longer xs w.0 d.1 (λ k m. w.2 k (f k (Memᴰ.tail m)) (λ e. d.0 (Memᴰ.cast (sym e) m))) in
    omega (arith, w.1)

-- ## Filters

pub filtered : {A : Type 0} (p : A → Bool) (xs : List A) (x : A) → Memᴰ x (filter p xs) ↔ (Memᴰ x xs × (p x ≡ true))
unfolding filter
filtered p [] x = (λ m. elim m [ ], λ w. elim w.0 [ ])
filtered p (y ∷ ys) x = step (p y) refl (filtered p ys x)
  where
    step : (b : Bool) → p y ≡ b → Memᴰ x (filter p ys) ↔ (Memᴰ x ys × (p x ≡ true))
        → Memᴰ x (cond b (y ∷ filter p ys) (filter p ys)) ↔ (Memᴰ x (y ∷ ys) × (p x ≡ true))
    step true e h = (there, λ w. back w.0 w.1)
      where
        there : Memᴰ x (y ∷ filter p ys) → Memᴰ x (y ∷ ys) × (p x ≡ true)
        there (Memᴰ.head q) = (Memᴰ.head q, ap p q ∙ e)
        there (Memᴰ.tail n) = let w = h.0 n in (Memᴰ.tail w.0, w.1)

        back : Memᴰ x (y ∷ ys) → p x ≡ true → Memᴰ x (y ∷ filter p ys)
        back (Memᴰ.head q) t = Memᴰ.head q
        back (Memᴰ.tail n) t = Memᴰ.tail (h.1 (n, t))
    step false e h = (λ m. let w = h.0 m in (Memᴰ.tail w.0, w.1), λ w. back w.0 w.1)
      where
        back : Memᴰ x (y ∷ ys) → p x ≡ true → Memᴰ x (filter p ys)
        back (Memᴰ.head q) t = never (sym t ∙ ap p q ∙ e)
        back (Memᴰ.tail n) t = h.1 (n, t)

pub filter-different : (p : Bytes → Bool) (xs : List Bytes) → Different xs → Different (filter p xs)
unfolding filter
filter-different p [] d = tt
filter-different p (x ∷ xs) d = step (p x) (filter-different p xs d.1)
  where
    step : (b : Bool) → Different (filter p xs) → Different (cond b (x ∷ filter p xs) (filter p xs))
    step true more = (λ m. d.0 ((filtered p xs x).0 m).0, more)
    step false more = more
