-- The reading of a number at places of the text.
use mathlib.Core.Path.{◌≡◌, refl, ap}
use mathlib.Core.List.{[], ◌∷◌}
use mathlib.Core.Bool.{Bool, true, false}
use Prim.Native.Nat.{ℕ, ◌≤◌, ◌<◌, ◌+◌, ◌-◌}
use native.Mathlib.Omega.{arith}
use native.Mathlib.Numerals.{one-add}
use lib.ListN.{length, take, drop, get_or, length-drop}
use lib.Seq.{drop-drop}
use Rattle.std.specs.List.{prefix_len}
use Rattle.std.proofs.lemmas.List.{take_rest}
use Rattle.std.proofs.lemmas.List.Sums.{prefix_len-le-length}
use borrow.Author.Tests.{eq-eqb, ne_eqb}
use Rattle.base.specs.Bytes.{Bytes, is_digit}
use Rattle.base.proofs.PlaceLaws.{at-cons, at-end}
use Rattle.canonical_json.specs.Read.{got, end_of, digits, number}
use Rattle.std.specs.declared.option.Option.TheVariants.{None, Some}
use Rattle.canonical_json.proofs.Place.{ends_at, ends-also}

module _ (s : Bytes) (i : ℕ) where
  pub over : (neg : Bool) → length s ≤ i → end_of (length s) (number neg (drop i s)) ≡ None
  unfolding number
  over neg h = rw (at-end s i h)

  pub minus-zero : (neg : Bool) → i < length s → get_or s i 0 ≡ 48 → neg ≡ true → end_of (length s) (number neg (drop i s)) ≡ None
  unfolding number
  minus-zero neg h e f = rw (at-cons s i h, eq-eqb (get_or s i 0) 48 e, f)

  pub is_zero : (neg : Bool) → i < length s → get_or s i 0 ≡ 48 → neg ≡ false → end_of (length s) (number neg (drop i s)) ≡ Some (i + 1)
  unfolding number
  is_zero neg h e f = rw (at-cons s i h, eq-eqb (get_or s i 0) 48 e, f) (ends_at {A = Bytes} s (i + 1) (48 ∷ []) (omega arith))

  pub none : (neg : Bool) → i < length s → (get_or s i 0 ≡ 48 → ⊥) → is_digit (get_or s i 0) ≡ false → end_of (length s) (number neg (drop i s)) ≡ None
  unfolding number
  none neg h e f = rw (at-cons s i h, ne_eqb (get_or s i 0) 48 e) (simp f)

  pub begun : (neg : Bool) → i < length s → (get_or s i 0 ≡ 48 → ⊥) → is_digit (get_or s i 0) ≡ true → end_of (length s) (number neg (drop i s)) ≡ end_of (length s) (digits (drop (i + 1) s))
  unfolding number
  begun neg h e f = rw (at-cons s i h, ne_eqb (get_or s i 0) 48 e) (simp f (ends-also (length s) (λ (x : Bytes). get_or s i 0 ∷ x) (digits (drop (i + 1) s))))

  -- where the digits end, and a digit before that
  pub spent : length s ≤ i → end_of (length s) (digits (drop i s)) ≡ Some (length s)
  unfolding digits
  spent h = rw (at-end s i h) (ap Some (omega arith))

  pub stop : i < length s → is_digit (get_or s i 0) ≡ false → end_of (length s) (digits (drop i s)) ≡ Some i
  unfolding digits
  stop h f = rw (at-cons s i h) (simp f (ap Some (omega (arith, length-drop (i + 1) s))))

  pub onward : i < length s → is_digit (get_or s i 0) ≡ true → end_of (length s) (digits (drop i s)) ≡ end_of (length s) (digits (drop (i + 1) s))
  unfolding digits
  onward h f = rw (at-cons s i h) (simp f (ends-also (length s) (λ (x : Bytes). get_or s i 0 ∷ x) (digits (drop (i + 1) s))))

-- the digits in front are those that a reader takes
digits-run : (t : Bytes) → digits t ≡ got (take (prefix_len is_digit t) t) (drop (prefix_len is_digit t) t)
unfolding digits
digits-run [] = refl
digits-run (b ∷ t) = go (is_digit b) refl (digits-run t)
  where
    go : (x : Bool) → is_digit b ≡ x → digits t ≡ got (take (prefix_len is_digit t) t) (drop (prefix_len is_digit t) t)
        → digits (b ∷ t) ≡ got (take (prefix_len is_digit (b ∷ t)) (b ∷ t)) (drop (prefix_len is_digit (b ∷ t)) (b ∷ t))
    go true e k = simp (e, k, one-add)
    go false e k = simp e

pub run : (s : Bytes) (i : ℕ) → i ≤ length s → end_of (length s) (digits (drop i s)) ≡ Some (i + prefix_len is_digit (take (length s - i) (drop i s)))
run s i h =
    let n = prefix_len is_digit (drop i s) in
    let k : n ≤ length (drop i s) = prefix_len-le-length is_digit (drop i s) in
    rw (take_rest, digits-run (drop i s), drop-drop n i s) (ends_at s (i + n) (take n (drop i s)) (omega (arith, length-drop i s)))

pub within : (s : Bytes) (i : ℕ) → i ≤ length s → i + prefix_len is_digit (take (length s - i) (drop i s)) ≤ length s
within s i h = rw take_rest (omega (arith, prefix_len-le-length is_digit (drop i s), length-drop i s))

-- ## What the check of `number` may use, and that of `digits_end`

pub ruleset number_rules = (over, minus-zero, is_zero, none, begun)

pub ruleset digits_rules = (spent, stop, onward)
