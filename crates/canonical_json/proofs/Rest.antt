-- What a reader leaves is what it was given less some bytes at the front, at least one.
use mathlib.Core.Path.{◌≡◌, refl, ap, ◌∙◌}
use mathlib.Core.List.{[], ◌∷◌}
use Rattle.std.specs.declared.option.Option.{Option}
use Rattle.std.specs.declared.option.Option.TheVariants.{None}
use mathlib.Core.Bool.{Bool, true, false, ◌||◌}
use Prim.Native.Nat.{ℕ, zero, suc, ◌≤◌, ◌<◌, ◌+◌, ◌-◌}
use native.Mathlib.Omega.{arith}
use lib.ListN.{length, drop, length-drop}
use lib.Dec.{eqb}
use lib.Seq.{drop-drop}
use Rattle.base.specs.Bytes.{Bytes, bytes, is_digit}
use Rattle.std.specs.declared.option.Option.TheVariants.{None, Some}
use Rattle.canonical_json.specs.Lead.{lead_of, within}
use Rattle.canonical_json.specs.Json.{Json, Items, icons, inil, Members, mnil}
use Rattle.canonical_json.specs.Read.{Got, bad, got, end_of, also, then, choose, front, expect, chars, esc, read_str, digits, number, loop, elements, body, item, same, array, rises, member, named, mcons', object, word, read, read_with, read_kind, kind_of}
use Rattle.canonical_json.specs.declared.Kind.{Kind}
use Rattle.canonical_json.specs.declared.Kind.TheVariants.{Text, Minus, Digit, Array, Object, True, False, Null, Other}
use Rattle.canonical_json.proofs.Cases.{choose-elim, then-elim, front-elim, led-elim, choose_cong, then_cong, front_cong}
use Rattle.canonical_json.proofs.Chars.{chars-nil, chars-start, chars-more, esc-nil, esc-cons}

pub data Ends : Bytes → Bytes → Type 0 where
  one : {b : ℕ} {t : Bytes} → Ends (b ∷ t) t
  more : {b : ℕ} {t r : Bytes} → Ends t r → Ends (b ∷ t) r

pub ends_trans : {t r q : Bytes} → Ends t r → Ends r q → Ends t q
ends_trans one f = more f
ends_trans (more e) f = more (ends_trans e f)

pub ends-less : {t r : Bytes} → Ends t r → length r < length t
ends-less (one {t = t}) = omega arith
ends-less (more e) = let h = ends-less e in omega arith

-- the reading leaves less
pub data Fits {A : Type 0} (t : Bytes) : Got A → Type 0 where
  fits-bad : Fits t bad
  fits-got : {a : A} {r : Bytes} → Ends t r → Fits t (got a r)

pub fits-also : {A B : Type 0} {t : Bytes} {g : Got A} (f : A → B) → Fits t g → Fits t (also f g)
fits-also f fits-bad = fits-bad
fits-also f (fits-got h) = fits-got h

pub fits_more : {A : Type 0} {b : ℕ} {t : Bytes} {g : Got A} → Fits t g → Fits (b ∷ t) g
fits_more fits-bad = fits-bad
fits_more (fits-got h) = fits-got (more h)

pub fits_after : {A : Type 0} {t r : Bytes} {g : Got A} → Ends t r → Fits r g → Fits t g
fits_after e fits-bad = fits-bad
fits_after e (fits-got h) = fits-got (ends_trans e h)

pub fits-ends : {A : Type 0} {t r : Bytes} {a : A} → Fits t (got a r) → Ends t r
fits-ends (fits-got h) = h

mutual
  pub chars-fits : (t : Bytes) (m lo hi : ℕ) → Fits t (chars t m lo hi)
  chars-fits [] m lo hi = rw chars-nil fits-bad
  chars-fits (b ∷ t) zero lo hi =
      rw chars-start
      (choose-elim (Fits (b ∷ t)) (eqb b 34) _ _ (λ _. fits-got one)
      (λ _. choose-elim (Fits (b ∷ t)) (eqb b 92) _ _ (λ _. fits_more (esc-fits t))
      (λ _. led-elim (Fits (b ∷ t)) (lead_of b) _ fits-bad (λ m l h _. fits-also _ (fits_more (chars-fits t m l h))))))
  chars-fits (b ∷ t) (suc m) lo hi =
      rw chars-more
      (choose-elim (Fits (b ∷ t)) (within lo hi b) _ _ (λ _. fits-also _ (fits_more (chars-fits t m 128 191))) (λ _. fits-bad))

  esc-fits : (t : Bytes) → Fits t (esc t)
  esc-fits [] = rw esc-nil fits-bad
  esc-fits (c ∷ t) =
      rw esc-cons
      (choose-elim (Fits (c ∷ t)) (eqb c 34 || eqb c 92) _ _ (λ _. fits-also _ (fits_more (chars-fits t 0 0 0))) (λ _. fits-bad))

module _ {P A B : Type 0} (rd : P → Bytes → Got A) (next : P → A → P) (nil : B) (cons : A → B → B) (close : ℕ)
    (rd-fits : (p : P) (t : Bytes) → Fits t (rd p t)) where
  loop-fits : (n : ℕ) (p : P) (t : Bytes) → Fits t (loop rd next nil cons close n p t)
  unfolding loop
  loop-fits zero p t = fits-bad
  loop-fits (suc n) p t =
      then-elim (Fits t) (rd p t) _ fits-bad
      (λ a r e. front-elim (Fits t) r _ fits-bad
      (λ c q k.
      let h : Ends t q = ends_trans (fits-ends (rw e at (rd-fits p t))) (rw k one) in
      choose-elim (Fits t) (eqb c close) _ _ (λ _. fits-got h)
      (λ _. choose-elim (Fits t) (eqb c 44) _ _ (λ _. fits-also _ (fits_after h (loop-fits n (next p a) q))) (λ _. fits-bad))))

  pub body-fits : (p : P) (t : Bytes) → Fits t (body rd next nil cons close p t)
  unfolding body
  body-fits p t =
      front-elim (Fits t) t _ fits-bad
      (λ c r k. choose-elim (Fits t) (eqb c close) _ _ (λ _. fits-got (rw k one)) (λ _. loop-fits (length t) p t))

  -- as much fuel as bytes is enough
  loop_fuel : (n m : ℕ) (p : P) (t : Bytes) → length t ≤ n → length t ≤ m → loop rd next nil cons close n p t ≡ loop rd next nil cons close m p t
  unfolding loop
  loop_fuel zero zero p t h k = refl
  loop_fuel zero (suc m) p t h k = then-elim (λ g. bad ≡ g) (rd p t) _ refl (λ v r e. let l = ends-less (fits-ends (rw e at (rd-fits p t))) in absurd (omega arith))
  loop_fuel (suc n) zero p t h k = then-elim (λ g. g ≡ bad) (rd p t) _ refl (λ v r e. let l = ends-less (fits-ends (rw e at (rd-fits p t))) in absurd (omega arith))
  loop_fuel (suc n) (suc m) p t h k =
      then_cong (rd p t) _ _ (λ a r e.
      front_cong r _ _ (λ c q f.
      let w : Ends t q = ends_trans (fits-ends (rw e at (rd-fits p t))) (rw f one) in
      let l = ends-less w in
      choose_cong (eqb c close) _ _ _ _ refl
      (choose_cong (eqb c 44) _ _ _ _ (ap (λ g. also (λ b. cons a b) g) (loop_fuel n m (next p a) q (omega arith) (omega arith))) refl)))

  -- an element and those after it
  pub elements-step : (p : P) (t : Bytes) → elements rd next nil cons close p t ≡
      then (rd p t) (λ a r. front r (λ c q.
      choose (eqb c close) (λ _. got (cons a nil) q)
      (λ _. choose (eqb c 44) (λ _. also (λ b. cons a b) (elements rd next nil cons close (next p a) q)) (λ _. bad))))
  unfolding loop
  elements-step p t =
      loop_fuel (length t) (suc (length t)) p t (omega arith) (omega arith)
      ∙ then_cong (rd p t) _ _ (λ a r e.
      front_cong r _ _ (λ c q f.
      let w : Ends t q = ends_trans (fits-ends (rw e at (rd-fits p t))) (rw f one) in
      let l = ends-less w in
      choose_cong (eqb c close) _ _ _ _ refl
      (choose_cong (eqb c 44) _ _ _ _ (ap (λ g. also (λ b. cons a b) g) (loop_fuel (length t) (length q) (next p a) q (omega arith) (omega arith))) refl)))

-- after the first byte of a value, possibly nothing is left
pub data Keeps {A : Type 0} (t : Bytes) : Got A → Type 0 where
  keeps-bad : Keeps t bad
  keeps-all : {a : A} → Keeps t (got a t)
  keeps-less : {a : A} {r : Bytes} → Ends t r → Keeps t (got a r)

pub keeps-fits : {A : Type 0} {t : Bytes} {g : Got A} → Fits t g → Keeps t g
keeps-fits fits-bad = keeps-bad
keeps-fits (fits-got h) = keeps-less h

pub fits-keeps : {A : Type 0} {b : ℕ} {t : Bytes} {g : Got A} → Keeps t g → Fits (b ∷ t) g
fits-keeps keeps-bad = fits-bad
fits-keeps keeps-all = fits-got one
fits-keeps (keeps-less h) = fits-got (more h)

-- a byte is asked for
pub keeps-expect : {B : Type 0} (c : ℕ) (t : Bytes) (k : Bytes → Got B) → ((r : Bytes) → Keeps r (k r)) → Fits t (expect c t k)
keeps-expect c t k h =
    front-elim (Fits t) t _ fits-bad
    (λ b r e. choose-elim (Fits t) (eqb b c) _ _ (λ _. rw e (fits-keeps (h r))) (λ _. fits-bad))

pub keeps-also : {A B : Type 0} {t : Bytes} {g : Got A} (f : A → B) → Keeps t g → Keeps t (also f g)
keeps-also f keeps-bad = keeps-bad
keeps-also f keeps-all = keeps-all
keeps-also f (keeps-less h) = keeps-less h

word_keeps : (w t : Bytes) → Keeps t (word w t)
word_keeps [] t = keeps-all
word_keeps (c ∷ w) t = keeps-fits (keeps-expect c t _ (word_keeps w))

digits-keeps : (t : Bytes) → Keeps t (digits t)
unfolding digits
digits-keeps [] = keeps-all
digits-keeps (b ∷ t) = choose-elim (Keeps (b ∷ t)) (is_digit b) _ _ (λ _. keeps-fits (fits-also _ (fits-keeps (digits-keeps t)))) (λ _. keeps-all)

pub number_fits : (neg : Bool) (t : Bytes) → Fits t (number neg t)
unfolding number
number_fits neg [] = fits-bad
number_fits neg (b ∷ t) =
    choose-elim (Fits (b ∷ t)) (eqb b 48) _ _ (λ _. choose-elim (Fits (b ∷ t)) neg _ _ (λ _. fits-bad) (λ _. fits-got one))
    (λ _. choose-elim (Fits (b ∷ t)) (is_digit b) _ _ (λ _. fits-also _ (fits-keeps (digits-keeps t))) (λ _. fits-bad))

module _ (rd : Bytes → Got Json) (rd-fits : (t : Bytes) → Fits t (rd t)) where
  pub member-fits : (p : Option (Bytes)) (t : Bytes) → Fits t (member rd p t)
  unfolding member
  member-fits p t =
      keeps-expect 34 t _ (λ u. keeps-fits
      (then-elim (Fits u) (read_str u) _ fits-bad (λ n v e.
      choose-elim (Fits u) (rises p n) _ _
      (λ _. fits_after (fits-ends (rw e at (chars-fits u 0 0 0))) (keeps-expect 58 v _ (λ w. keeps-fits (fits-also _ (rd-fits w)))))
      (λ _. fits-bad))))

  pub array-fits : (t : Bytes) → Fits t (array rd t)
  array-fits t = body-fits (item rd) same inil icons 93 (λ p t. rd-fits t) tt t

  pub object-fits : (t : Bytes) → Fits t (object rd t)
  object-fits t = body-fits (member rd) named mnil mcons' 125 member-fits None t

kind-keeps : (ra : Bytes → Got Items) (ro : Bytes → Got Members) → ((t : Bytes) → Fits t (ra t)) → ((t : Bytes) → Fits t (ro t))
    → (k : Kind) (b : ℕ) (t : Bytes) → Fits (b ∷ t) (read_kind ra ro k b t)
kind-keeps ra ro h g Text b t = fits_more (fits-also _ (chars-fits t 0 0 0))
kind-keeps ra ro h g Minus b t = fits_more (fits-also _ (number_fits true t))
kind-keeps ra ro h g Digit b t = fits-also _ (number_fits false (b ∷ t))
kind-keeps ra ro h g Array b t = fits_more (fits-also _ (h t))
kind-keeps ra ro h g Object b t = fits_more (fits-also _ (g t))
kind-keeps ra ro h g True b t = fits-keeps (keeps-also _ (word_keeps (bytes "rue") t))
kind-keeps ra ro h g False b t = fits-keeps (keeps-also _ (word_keeps (bytes "alse") t))
kind-keeps ra ro h g Null b t = fits-keeps (keeps-also _ (word_keeps (bytes "ull") t))
kind-keeps ra ro h g Other b t = fits-bad

with-fits : (ra : Bytes → Got Items) (ro : Bytes → Got Members) → ((t : Bytes) → Fits t (ra t)) → ((t : Bytes) → Fits t (ro t))
    → (t : Bytes) → Fits t (read_with ra ro t)
with-fits ra ro h g [] = fits-bad
with-fits ra ro h g (b ∷ t) = kind-keeps ra ro h g (kind_of b) b t

pub read_fits : (d : ℕ) (t : Bytes) → Fits t (read d t)
unfolding read
read_fits zero t = with-fits (λ _. bad) (λ _. bad) (λ _. fits-bad) (λ _. fits-bad) t
read_fits (suc d) t = with-fits (array (read d)) (object (read d)) (array-fits (read d) (read_fits d)) (object-fits (read d) (read_fits d)) t

-- ## Where a reading at a place ends

ends-drop : {t r : Bytes} → Ends t r → (k : ℕ) → k + length r ≡ length t → r ≡ drop k t
ends-drop (one {b} {t}) zero h = absurd (omega arith)
ends-drop (one {b} {t}) (suc k) h = let e : k ≡ 0 = omega arith in rw e
ends-drop (more {b} {t} {r} e) zero h = let l = ends-less e in absurd (omega arith)
ends-drop (more {b} {t} {r} e) (suc k) h = ends-drop e k (omega arith)

-- the reading g at i found a value and ended at e
pub record Located {A : Type 0} (s : Bytes) (i : ℕ) (g : Got A) (e : ℕ) : Type 0 where
  pub value : A
  pub is : g ≡ got value (drop e s)
  pub after : i < e
  pub within : e ≤ length s

pub located : {A : Type 0} (s : Bytes) (i : ℕ) {g : Got A} (e : ℕ) → Fits (drop i s) g → end_of (length s) g ≡ Some e → Located s i g e
located s i e fits-bad q = let z : ◌≡◌ {A = ℕ} 0 1 = cc in absurd (omega arith)
located s i e (fits-got {a} {r} h) q =
    let k : length s - length r ≡ e = cc in
    let l = ends-less h in
    let d = length-drop i s in
    let lt : i < e = omega arith in
    let p : r ≡ drop (e - i) (drop i s) = ends-drop h (e - i) (omega arith) in
    let j : i + (e - i) ≡ e = omega arith in
    let p' : r ≡ drop e s = p ∙ drop-drop (e - i) i s ∙ ap (λ (n : ℕ). drop n s) j in
    record { value = a; is = ap (λ (x : Bytes). got a x) p'; after = lt; within = omega arith }

pub refused : {A : Type 0} (n : ℕ) (g : Got A) → end_of n g ≡ None → g ≡ bad
refused n bad q = refl
refused n (got a r) q = let z : ◌≡◌ {A = ℕ} 0 1 = cc in absurd (omega arith)
