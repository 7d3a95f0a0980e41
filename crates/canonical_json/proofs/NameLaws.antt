-- Names as they stand in the text.
use mathlib.Core.Path.{◌≡◌, refl}
use mathlib.Core.List.{[], ◌∷◌}
use mathlib.Core.Bool.{true, false}
use Prim.Native.Nat.{ℕ, zero, suc, ◌≤◌, ◌<◌, ◌+◌}
use native.Mathlib.Omega.{arith}
use lib.ListN.{length, drop, get_or}
use lib.Dec.{eqb, ltb}
use borrow.Author.Tests.{eq-eqb, ne_eqb}
use Rattle.base.specs.Bytes.{Bytes, less}
use Rattle.base.proofs.PlaceLaws.{at-cons, at-end}
use Rattle.canonical_json.specs.Json.{is_escaped}
use Rattle.canonical_json.specs.Lead.{within, lead_of}
use Rattle.canonical_json.specs.Read.{choose, raw, raw_esc, chars, esc}
use Rattle.canonical_json.proofs.Cases.{choose-elim, led-elim}
use Rattle.canonical_json.proofs.Chars.{chars-nil, chars-start, chars-more, esc-nil, esc-cons}
use Rattle.canonical_json.proofs.Says.{Says, says-bad, says-got, says-also}
use Rattle.canonical_json.proofs.CharsLaws.{Ready, lead_ready, above, plain, neither}
use Rattle.canonical_json.specs.Names.{char_of, escaped_at}
use Rattle.std.specs.declared.option.Option.TheVariants.{None, Some}

raw-nil : raw [] ≡ []
unfolding raw
raw-nil = refl

raw-cons : (b : ℕ) (t : Bytes) → raw (b ∷ t) ≡ choose (eqb b 34) (λ _. []) (λ _. choose (eqb b 92) (λ _. raw_esc t) (λ _. b ∷ raw t))
unfolding raw
raw-cons b t = refl

esc-raw-nil : raw_esc [] ≡ []
unfolding raw
esc-raw-nil = refl

esc-raw-cons : (c : ℕ) (t : Bytes) → raw_esc (c ∷ t) ≡ c ∷ raw t
unfolding raw
esc-raw-cons c t = refl

module _ (s : Bytes) (i : ℕ) where
  pub over : length s ≤ i → raw (drop i s) ≡ []
  over h = rw (at-end s i h, raw-nil)

  pub closed : i < length s → get_or s i 0 ≡ 34 → raw (drop i s) ≡ []
  closed h e = rw (at-cons s i h, e, raw-cons)

  pub lone : i < length s → get_or s i 0 ≡ 92 → length s ≤ i + 1 → raw (drop i s) ≡ []
  lone h e k = rw (at-cons s i h, e, raw-cons, at-end s (i + 1) k, esc-raw-nil)

  pub escaped : i < length s → get_or s i 0 ≡ 92 → i + 1 < length s → raw (drop i s) ≡ get_or s (i + 1) 0 ∷ raw (drop (i + 1 + 1) s)
  escaped h e k = rw (at-cons s i h, e, raw-cons, at-cons s (i + 1) k, esc-raw-cons)

  pub byte : i < length s → (get_or s i 0 ≡ 34 → ⊥) → (get_or s i 0 ≡ 92 → ⊥) → raw (drop i s) ≡ get_or s i 0 ∷ raw (drop (i + 1) s)
  byte h e f = rw (at-cons s i h, raw-cons, ne_eqb _ _ e, ne_eqb _ _ f)

  -- ## The same of the byte that `char_at` gives

  pub char_over : length s ≤ i → None ≡ char_of i (drop i s)
  unfolding char_of
  char_over h = rw (at-end s i h)

  pub char_closed : i < length s → get_or s i 0 ≡ 34 → None ≡ char_of i (drop i s)
  unfolding char_of
  char_closed h e = rw (at-cons s i h, e)

  pub char_lone : i < length s → get_or s i 0 ≡ 92 → length s ≤ i + 1 → None ≡ char_of i (drop i s)
  unfolding char_of escaped_at
  char_lone h e k = rw (at-cons s i h, e, at-end s (i + 1) k)

  pub char_escaped : i < length s → get_or s i 0 ≡ 92 → i + 1 < length s → Some (get_or s (i + 1) 0, i + 1 + 1) ≡ char_of i (drop i s)
  unfolding char_of escaped_at
  char_escaped h e k = rw (at-cons s i h, e, at-cons s (i + 1) k)

  pub char_byte : i < length s → (get_or s i 0 ≡ 34 → ⊥) → (get_or s i 0 ≡ 92 → ⊥) → Some (get_or s i 0, i + 1) ≡ char_of i (drop i s)
  unfolding char_of
  char_byte h e f = rw (at-cons s i h, ne_eqb _ _ e, ne_eqb _ _ f)

-- ## What a string's reader finds is the name

mutual
  pub chars-raw : (t : Bytes) (m lo hi : ℕ) → Ready m lo → Says (λ bs r. raw t ≡ bs) (chars t m lo hi)
  chars-raw [] m lo hi k = rw chars-nil says-bad
  chars-raw (b ∷ t) zero lo hi k =
      rw chars-start
      (choose-elim (Says (λ bs r. raw (b ∷ t) ≡ bs)) (eqb b 34) _ _
      (λ (e : eqb b 34 ≡ true). says-got (rw (raw-cons, e)))
      (λ (e : eqb b 34 ≡ false). choose-elim (Says (λ bs r. raw (b ∷ t) ≡ bs)) (eqb b 92) _ _
      (λ (f : eqb b 92 ≡ true). rw (raw-cons, e, f) (esc-raw t))
      (λ (f : eqb b 92 ≡ false). led-elim (Says (λ bs r. raw (b ∷ t) ≡ bs)) (lead_of b) _ says-bad
      (λ m l h g. says-also (λ (x : Bytes). b ∷ x) (chars-raw t m l h (lead_ready b m l h g)) (λ bs r q. rw (raw-cons, e, f, q))))))
  chars-raw (b ∷ t) (suc m) lo hi k =
      rw chars-more
      (choose-elim (Says (λ bs r. raw (b ∷ t) ≡ bs)) (within lo hi b) _ _
      (λ (e : within lo hi b ≡ true).
      let n = neither b (plain b (above b m lo hi k e)) in
      says-also (λ (x : Bytes). b ∷ x) (chars-raw t m 128 191 (λ _. omega arith)) (λ bs r q. rw (raw-cons, n.0, n.1, q)))
      (λ _. says-bad))

  pub esc-raw : (t : Bytes) → Says (λ bs r. raw_esc t ≡ bs) (esc t)
  esc-raw [] = rw esc-nil says-bad
  esc-raw (c ∷ t) =
      rw esc-cons
      (choose-elim (Says (λ bs r. raw_esc (c ∷ t) ≡ bs)) (is_escaped c) _ _
      (λ _. says-also (λ (x : Bytes). c ∷ x) (chars-raw t 0 0 0 (λ n. absurd (n refl))) (λ bs r q. rw (esc-raw-cons, q)))
      (λ _. says-bad))

pub raw-plain : (b : ℕ) (t : Bytes) → eqb b 34 ≡ false → eqb b 92 ≡ false → raw (b ∷ t) ≡ b ∷ raw t
raw-plain b t e f = rw (raw-cons, e, f)

-- ## Comparison, one byte at a time

module _ (s t : Bytes) where
  pub less-end : t ≡ [] → less s t ≡ false
  unfolding less
  less-end e = rw e

  pub less_short : (y : ℕ) (t' : Bytes) → s ≡ [] → t ≡ y ∷ t' → less s t ≡ true
  unfolding less
  less_short y t' e f = rw (e, f)

  pub less-differ : (x y : ℕ) (s' t' : Bytes) → s ≡ x ∷ s' → t ≡ y ∷ t' → (x ≡ y → ⊥) → less s t ≡ ltb x y
  unfolding less
  less-differ x y s' t' e f n = rw (e, f, ne_eqb x y n)

  pub less-same : (x y : ℕ) (s' t' : Bytes) → s ≡ x ∷ s' → t ≡ y ∷ t' → x ≡ y → less s t ≡ less s' t'
  unfolding less
  less-same x y s' t' e f n = rw (e, f, eq-eqb x y n)

-- ## What the check of `char_at` may use, and that of `name_less`

pub ruleset char_rules = (over, closed, lone, escaped, byte, char_over, char_closed, char_lone, char_escaped, char_byte)

pub ruleset less_rules = (less-end, less_short, less-differ, less-same)
