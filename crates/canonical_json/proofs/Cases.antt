-- Cases of the reader's combinators, once for every use.
use mathlib.Core.Path.{◌≡◌, refl}
use mathlib.Core.List.{[], ◌∷◌}
use mathlib.Core.Bool.{Bool, true, false}
use Prim.Native.Nat.{ℕ}
use Rattle.base.specs.Bytes.{Bytes}
use Rattle.canonical_json.specs.Read.{Got, bad, got, then, choose, front, led}
use Rattle.std.specs.declared.option.Option.{Option}
use Rattle.canonical_json.specs.declared.Sequence.{Sequence}
use Rattle.canonical_json.specs.Lead.{seq}
use Rattle.std.specs.declared.option.Option.TheVariants.{None, Some}

pub choose-elim : {A : Type 0} (P : A → Type 0) (b : Bool) (f g : Unit {0} → A) → (b ≡ true → P (f tt)) → (b ≡ false → P (g tt)) → P (choose b f g)
choose-elim P true f g x y = x refl
choose-elim P false f g x y = y refl

pub then-elim : {A B : Type 0} (P : Got B → Type 0) (g : Got A) (k : A → Bytes → Got B) → P bad → ((a : A) (r : Bytes) → g ≡ got a r → P (k a r)) → P (then g k)
then-elim P bad k x y = x
then-elim P (got a r) k x y = y a r refl

pub front-elim : {B : Type 0} (P : Got B → Type 0) (t : Bytes) (k : ℕ → Bytes → Got B) → P bad → ((c : ℕ) (r : Bytes) → t ≡ c ∷ r → P (k c r)) → P (front t k)
front-elim P [] k x y = x
front-elim P (c ∷ r) k x y = y c r refl

pub led-elim : {B : Type 0} (P : Got B → Type 0) (l : Option Sequence) (k : ℕ → ℕ → ℕ → Got B) → P bad → ((m lo hi : ℕ) → l ≡ seq m lo hi → P (k m lo hi)) → P (led l k)
led-elim P None k x y = x
led-elim P (Some l) k x y = y l.more l.lo l.hi refl

pub choose_cong : {A : Type 0} (b : Bool) (f g f' g' : Unit {0} → A) → f tt ≡ f' tt → g tt ≡ g' tt → choose b f g ≡ choose b f' g'
choose_cong true f g f' g' x y = x
choose_cong false f g f' g' x y = y

pub then_cong : {A B : Type 0} (g : Got A) (k k' : A → Bytes → Got B) → ((a : A) (r : Bytes) → g ≡ got a r → k a r ≡ k' a r) → then g k ≡ then g k'
then_cong bad k k' y = refl
then_cong (got a r) k k' y = y a r refl

pub front_cong : {B : Type 0} (t : Bytes) (k k' : ℕ → Bytes → Got B) → ((c : ℕ) (r : Bytes) → t ≡ c ∷ r → k c r ≡ k' c r) → front t k ≡ front t k'
front_cong [] k k' y = refl
front_cong (c ∷ r) k k' y = y c r refl
