-- Steps of a form at a place of the text: what is nothing stays nothing, and what is found is handed on.
use mathlib.Core.Path.{◌≡◌, refl, sym, ◌∙◌}
use Rattle.std.specs.declared.option.Option.{Option}
use Rattle.std.specs.declared.option.Option.TheVariants.{None, Some}
use Rattle.canonical_json.specs.Options.{bind}
use Rattle.std.specs.Prelude.{MatchOption}
use mathlib.Core.Bool.{Bool, false}
use Prim.Native.Nat.{ℕ}
use lib.ListN.{drop}
use Rattle.base.specs.Bytes.{Bytes}
use Rattle.canonical_json.specs.Json.{Json}
use Rattle.canonical_json.specs.Read.{raw}
use Rattle.canonical_json.specs.Fields.{text, field, keep}
use Rattle.lookup.specs.Place.{Stands, PlaceOf, Finds, Takes, Reads}
use Rattle.lookup.specs.Leaves.{string_in}
use Rattle.lookup.proofs.StringLaws.{no_text, text-there}
use Rattle.lookup.specs.declared.Spanned.{Spanned}
use Rattle.rules.specs.Take.{◌>>=◌, must, may, inside}
use Rattle.forms.specs.Member.{TakesMust, TakesMay}

module _ {A B : Type 0} {o : Option A} (f : A → Option B) where
  pub stop : o ≡ None → (o >>= f) ≡ None
  unfolding bind
  stop e = rw e

  pub on : {a : A} → o ≡ Some a → (o >>= f) ≡ f a
  unfolding bind
  on e = rw e

-- ## A member, by where it was found

module _ (s : Bytes) (p : ℕ) (k : Bytes) {r : Option ℕ} (w : Finds s p (field k) r) where
  lacks : r ≡ None → (v : Json) → Stands s p v → field k v ≡ None
  lacks q v h = rw q at (w v h)

  holds : (x : ℕ) → r ≡ Some x → (v : Json) → Stands s p v → PlaceOf s (Some x) (field k v)
  holds x q v h = rw q at (w v h)

  module _ {A : Type 0} (f : Json → Option A) (o : Option A) where
    pub must-none : r ≡ None → o ≡ None → Takes s p (must k f) o
    unfolding must
    must-none q e v h = e ∙ sym (stop f (lacks q v h))

    pub must-at : (x : ℕ) → r ≡ Some x → Takes s x f o → Takes s p (must k f) o
    unfolding must
    must-at x q t v h = let z = holds x q v h in t z.0 z.2 ∙ sym (on f z.1)

  module _ {A : Type 0} (f : Json → Option A) (o : Option (Option A)) where
    pub may_none : r ≡ None → o ≡ Some None → Takes s p (may k f) o
    unfolding may inside
    may_none q e v h = rw (lacks q v h) e

    pub may_at : (x : ℕ) → r ≡ Some x → (i : Option A) → Takes s x f i → o ≡ (i >>= λ a. Some (Some a)) → Takes s p (may k f) o
    unfolding may inside
    may_at x q i t e v h = let z = holds x q v h in rw (z.1, ← t z.0 z.2) e

module _ {A : Type 0} (s : Bytes) (f : Json → Option A) (found : Option ℕ) where
  pub must-lacks : found ≡ None → (o : Option A) → o ≡ None → TakesMust s found f o
  must-lacks q o e p k w = must-none s p k w f o q e

  pub must-holds : (x : ℕ) → found ≡ Some x → (o : Option A) → Takes s x f o → TakesMust s found f o
  must-holds x q o t p k w = must-at s p k w f o x q t

  pub may-lacks : found ≡ None → TakesMay s found f (Some None)
  may-lacks q p k w = may_none s p k w f (Some None) q refl

  pub may-holds : (x : ℕ) → found ≡ Some x → (i : Option A) → Takes s x f i → (o : Option (Option A)) → o ≡ (i >>= λ a. Some (Some a)) → TakesMay s found f o
  may-holds x q i t o e p k w = may_at s p k w f o x q i t e

-- a test of a member
pub must-test : (s : Bytes) (f : Json → Option (Unit {0})) (found : Option ℕ) (b : Bool) → MatchOption found (b ≡ false) (λ x. Takes s x f (keep b tt)) → TakesMust s found f (keep b tt)
unfolding keep
must-test s f None b m = must-lacks s f None refl (keep b tt) (rw m refl)
must-test s f (Some x) b m = must-holds s f (Some x) x refl (keep b tt) m

-- ## A reader that refuses

pub reads-none : {T A : Type 0} (view : T → A) (s : Bytes) (p : ℕ) (form : Json → Option A) (r : Option (Spanned T)) → r ≡ None → Takes s p form None → Reads view s p form r
reads-none view s p form r q t = rw q (record { means = t; end = tt })

-- ## A string

module _ (s : Bytes) (p : ℕ) {r : Option ℕ} (q : r ≡ string_in p (drop p s)) {A : Type 0} (g : Bytes → Option A) (o : Option A) where
  pub text-none : r ≡ None → o ≡ None → Takes s p (λ v. text v >>= g) o
  text-none n e v h = e ∙ sym (stop g (no_text s p v h r q n))

  pub text_at : (i : ℕ) → r ≡ Some i → o ≡ g (raw (drop i s)) → Takes s p (λ v. text v >>= g) o
  text_at i n e v h = e ∙ sym (on g (text-there s p v h r q i n))

-- a test of it
pub text-test : (s : Bytes) (p : ℕ) (r : Option ℕ) → r ≡ string_in p (drop p s) → (t : Bytes → Bool) (b : Bool) → MatchOption r (b ≡ false) (λ i. b ≡ t (raw (drop i s)))
    → Takes s p (λ v. text v >>= λ x. keep (t x) (tt {0})) (keep b tt)
unfolding keep
text-test s p None q t b m = text-none s p q (λ x. keep (t x) (tt {0})) (keep b tt) refl (rw m refl)
text-test s p (Some i) q t b m = text_at s p q (λ x. keep (t x) (tt {0})) (keep b tt) i refl (rw m refl)
