-- Options: what is there, what a step of a form gave, and tests of a record that may not be held.
use mathlib.Core.Path.{◌≡◌, refl, subst}
use mathlib.Core.Logic.{◌↔◌}
use mathlib.Core.Bool.{Bool, true, false, ◌&&◌}
use Rattle.std.specs.declared.option.Option.{Option}
use Rattle.std.specs.declared.option.Option.TheVariants.{None, Some}
use Rattle.canonical_json.specs.Options.{bind}
use Prim.Native.Nat.{ℕ, ◌≤◌}
use borrow.Author.Tests.{leb-true, le-leb}
use lib.Dec.{leb}
use Rattle.base.proofs.TestLaws.{never, both}
use Rattle.canonical_json.specs.Json.{Json}
use Rattle.canonical_json.specs.Fields.{keep, natural, between, number}
use Rattle.rules.specs.Take.{◌>>=◌}
use Rattle.rules.specs.Table.{of_held, absent}

pub none-not-some : {A X : Type 0} {a : A} → Path (Option A) None (Some a) → X
none-not-some e = never (cc)

pub some_is : {A : Type 0} {a b : A} → Path (Option A) (Some a) (Some b) → a ≡ b
some_is e = cc

-- ## Steps of a form

-- a step that gave something had something
pub had : {A B : Type 0} {b : B} (o : Option A) (f : A → Option B) → (o >>= f) ≡ Some b → (a : A) × (o ≡ Some a) × (f a ≡ Some b)
unfolding bind
had None f e = none-not-some e
had (Some a) f e = (a, refl, e)

-- a value that was kept passed its test
pub kept-is : {A : Type 0} {b : A} (t : Bool) (a : A) → keep t a ≡ Some b → (t ≡ true) × (a ≡ b)
unfolding keep
kept-is true a e = (refl, some_is e)
kept-is false a e = none-not-some e

-- a whole number is read exactly where it is within its limits
pub number-exactly : (lo hi : ℕ) (v : Json) (n : ℕ) → (number lo hi v ≡ Some n) ↔ ((natural v ≡ Some n) × (lo ≤ n) × (n ≤ hi))
unfolding number between bind keep
number-exactly lo hi v n = (there, λ w. rw (w.0, le-leb lo n w.1, le-leb n hi w.2))
  where
    there : number lo hi v ≡ Some n → (natural v ≡ Some n) × (lo ≤ n) × (n ≤ hi)
    there e =
        let m = had (natural v) (between lo hi) e in
        let k = kept-is (leb lo m.0 && leb m.0 hi) m.0 m.2 in
        let w = both (leb lo m.0) (leb m.0 hi) k.0 in
        subst (λ (x : ℕ). (natural v ≡ Some x) × (lo ≤ x) × (x ≤ hi)) k.1 (m.1, leb-true lo m.0 w.0, leb-true m.0 hi w.1)

-- ## Records that may be held

pub held-false : {A : Type 0} (P : A → Type 0) (p : A → Bool) (o : Option A) → ((a : A) → (p a ≡ false) ↔ P a)
    → (of_held o p ≡ false) ↔ ((a : A) → o ≡ Some a → P a)
held-false P p None h = (λ e a q. none-not-some q, λ f. refl)
held-false P p (Some a) h = (λ e b q. subst P (some_is q) ((h a).0 e), λ f. (h a).1 (f a refl))

pub not-absent : {A : Type 0} (o : Option A) → (absent o ≡ false) ↔ ((a : A) × (o ≡ Some a))
not-absent None = (λ e. never e, λ w. none-not-some w.1)
not-absent (Some a) = (λ e. (a, refl), λ w. refl)
