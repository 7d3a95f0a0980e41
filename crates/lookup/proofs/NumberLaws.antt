-- The number that digits in front of a text write, and limits on it.
use mathlib.Core.Path.{◌≡◌, refl, sym, ap, ◌∙◌}
use mathlib.Core.List.{[], ◌∷◌, ◌++◌}
use Rattle.std.specs.declared.option.Option.{Option}
use Rattle.std.specs.declared.option.Option.TheVariants.{None, Some}
use Rattle.canonical_json.specs.Options.{bind}
use mathlib.Core.Bool.{Bool, true, false, cond, ◌&&◌, and-false}
use Prim.Native.Nat.{ℕ, ◌≤◌, ◌<◌, ◌+◌, ◌-◌, ◌*◌}
use native.Mathlib.Omega.{arith}
use lib.Dec.{leb}
use lib.ListN.{length, drop, get_or}
use borrow.Author.Tests.{le-leb, lt-leb}
use Rattle.std.proofs.lemmas.List.{take_rest}
use Rattle.base.specs.Bytes.{Bytes, is_digit}
use Rattle.base.proofs.PlaceLaws.{at-cons, at-end}
use Rattle.base.proofs.TestLaws.{both}
use Rattle.canonical_json.specs.Json.{Json, jnull, jtrue, jfalse, num, str, arr, obj, Valid, all_digits}
use Rattle.canonical_json.specs.Read.{NoDigit}
use Rattle.canonical_json.specs.Fields.{keep, between, decimal, natural, number}
use Rattle.canonical_json.proofs.Puts.{put-num}
use Rattle.skip.proofs.DigitLaws.{all_digits_lem}
use Rattle.lookup.specs.Place.{Stands, Takes}
use Rattle.lookup.specs.Leaves.{leading, leading_to, number_in}
use Rattle.lookup.proofs.FirstByte.{is_natural}
use Rattle.lookup.proofs.StandsLaws.{front}

-- ## Digits, one after the other: n before those at i

module _ (s : Bytes) (i n : ℕ) where
  pub digits-spent : length s ≤ i → leading n (drop i s) ≡ n
  unfolding leading
  digits-spent h = rw (at-end s i h)

  pub digits-end : i < length s → is_digit (get_or s i 0) ≡ false → leading n (drop i s) ≡ n
  unfolding leading
  digits-end h f = rw (at-cons s i h) (simp f)

  pub digits-next : i < length s → is_digit (get_or s i 0) ≡ true → leading n (drop i s) ≡ leading (n * 10 + (get_or s i 0 - 48)) (drop (i + 1) s)
  unfolding leading
  digits-next h f = rw (at-cons s i h) (simp f)

pub leading_grows : (t : Bytes) (n : ℕ) → n ≤ leading n t
unfolding leading
leading_grows [] n = omega arith
leading_grows (b ∷ t) n = go (is_digit b) (leading_grows t (n * 10 + (b - 48)))
  where
    go : (x : Bool) → n * 10 + (b - 48) ≤ leading (n * 10 + (b - 48)) t → n ≤ cond x (leading (n * 10 + (b - 48)) t) n
    go true h = omega arith
    go false h = omega arith

-- ## Limits

kept : {A : Type 0} (b : Bool) (x : A) → b ≡ true → keep b x ≡ Some x
unfolding keep
kept b x e = rw e

dropped : {A : Type 0} (b : Bool) (x : A) → b ≡ false → keep b x ≡ None
unfolding keep
dropped b x e = rw e

kept_back : {A : Type 0} (b : Bool) (x n : A) → Some n ≡ keep b x → (b ≡ true) × (n ≡ x)
unfolding keep
kept_back true x n e = (refl, cc)
kept_back false x n e = let z : ◌≡◌ {A = ℕ} 0 1 = cc in absurd (omega arith)

dropped-back : {A : Type 0} (b : Bool) (x : A) → None ≡ keep b x → b ≡ false
unfolding keep
dropped-back true x e = let z : ◌≡◌ {A = ℕ} 0 1 = cc in absurd (omega arith)
dropped-back false x e = refl

module _ (hi : ℕ) (t : Bytes) where
  pub leading-is : (n : ℕ) → leading 0 t ≡ n → n ≤ hi → Some n ≡ leading_to hi t
  unfolding leading_to
  leading-is n e h = ap Some (sym e) ∙ sym (kept _ (leading 0 t) (le-leb (leading 0 t) hi (omega arith)))

  pub leading-over : hi < leading 0 t → None ≡ leading_to hi t
  unfolding leading_to
  leading-over h = sym (dropped _ (leading 0 t) (lt-leb (leading 0 t) hi h))

  -- n before the digit at i, which takes it past hi
  pub digits-over : (i n d : ℕ) → i < length t → is_digit (get_or t i 0) ≡ true → leading 0 t ≡ leading n (drop i t) → d ≡ get_or t i 0 - 48 → hi < n * 10 + d → None ≡ leading_to hi t
  digits-over i n d h f e q o =
      let on = e ∙ digits-next t i n h f in
      let more = leading_grows (drop (i + 1) t) (n * 10 + (get_or t i 0 - 48)) in
      leading-over (omega arith)

-- what the check of `digits` may use
pub ruleset digits_rules = (digits-spent, digits-end, digits-next, leading-is, digits-over)

module _ (lo hi : ℕ) (s : Bytes) (p : ℕ) where
  pub number_cut : length s ≤ p → None ≡ number_in lo hi (drop p s)
  unfolding number_in
  number_cut h = rw (at-end s p h)

  module _ (h : p < length s) where
    pub number-not : is_digit (get_or s p 0) ≡ false → None ≡ number_in lo hi (drop p s)
    unfolding number_in
    number-not f = rw (at-cons s p h) (simp f)

    module _ (f : is_digit (get_or s p 0) ≡ true) where
      x : ℕ
      x = leading 0 (drop p s)

      number_is : number_in lo hi (drop p s) ≡ keep (leb lo x && leb x hi) x
      unfolding number_in between x
      number_is = rw (at-cons s p h) (simp f)

      pub number-over : None ≡ leading_to hi (drop p s) → None ≡ number_in lo hi (drop p s)
      unfolding leading_to x
      number-over e =
          let k : leb x hi ≡ false = dropped-back (leb x hi) x e in
          sym (number_is ∙ dropped _ x (rw (k, and-false) refl))

      pub number-low : (n : ℕ) → Some n ≡ leading_to hi (drop p s) → n < lo → None ≡ number_in lo hi (drop p s)
      unfolding leading_to x
      number-low n e l =
          let w = kept_back (leb x hi) x n e in
          let m : n ≡ x = w.1 in
          let k : leb lo x ≡ false = lt-leb lo x (omega arith) in
          sym (number_is ∙ dropped _ x (rw k refl))

      pub number-within : (n : ℕ) → Some n ≡ leading_to hi (drop p s) → lo ≤ n → Some n ≡ number_in lo hi (drop p s)
      unfolding leading_to x
      number-within n e l =
          let w = kept_back (leb x hi) x n e in
          let m : n ≡ x = w.1 in
          let k : leb lo x ≡ true = le-leb lo x (omega arith) in
          ap Some m ∙ sym (number_is ∙ kept _ x (rw k w.0))

-- what the check of `number_at` may use
pub ruleset number_rules = (number_cut, number-not, number-over, number-low, number-within, take_rest)

-- ## The number of a value

leading-stop : (r : Bytes) (n : ℕ) → NoDigit r → leading n r ≡ n
unfolding leading
leading-stop [] n f = refl
leading-stop (c ∷ t) n f = simp f

leading-digits : (ds r : Bytes) (n : ℕ) → all_digits ds ≡ true → NoDigit r → leading n (ds ++ r) ≡ decimal n ds
unfolding leading decimal
leading-digits [] r n g f = leading-stop r n f
leading-digits (b ∷ ds) r n g f =
    let e = both (is_digit b) (all_digits ds) g in
    simp e.0 (leading-digits ds r (n * 10 + (b - 48)) e.1 f)

number-first : (lo hi : ℕ) (s : Bytes) (p : ℕ) (v : Json) → Stands s p v → number_in lo hi (drop p s) ≡ cond (is_natural v) (between lo hi (leading 0 (drop p s))) None
unfolding number_in
number-first lo hi s p v h = let b = front s p v h in rw b.is (simp b.digit)

pub number_of : (lo hi : ℕ) (s : Bytes) (p : ℕ) (v : Json) → Stands s p v → number_in lo hi (drop p s) ≡ number lo hi v
unfolding number natural bind Valid
number_of lo hi s p v h = number-first lo hi s p v h ∙ go v h
  where
    go : (v : Json) → Stands s p v → cond (is_natural v) (between lo hi (leading 0 (drop p s))) None ≡ number lo hi v
    go jnull h = refl
    go jtrue h = refl
    go jfalse h = refl
    go (num true ds) h = refl
    go (num false ds) h = ap (λ (n : ℕ). between lo hi n) (ap (λ (t : Bytes). leading 0 t) (h.text ∙ put-num false ds _) ∙ leading-digits ds h.rest 0 (all_digits_lem false ds h.valid) h.free)
    go (str b) h = refl
    go (arr xs) h = refl
    go (obj ms) h = refl

pub number_takes : (lo hi : ℕ) (s : Bytes) (p : ℕ) (o : Option ℕ) → o ≡ number_in lo hi (drop p s) → Takes s p (number lo hi) o
number_takes lo hi s p o e v h = e ∙ number_of lo hi s p v h
