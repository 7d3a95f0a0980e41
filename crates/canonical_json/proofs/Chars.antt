-- One turn of the reading of a string, at a place of the text.
use mathlib.Core.Path.{◌≡◌, refl, sym, ◌∙◌}
use mathlib.Core.List.{[], ◌∷◌}
use mathlib.Core.Logic.{◌⊎◌, inl, inr}
use mathlib.Core.Bool.{true, ◌||◌, and-false}
use Prim.Native.Nat.{ℕ, zero, suc, ◌≤◌, ◌<◌, ◌+◌}
use native.Mathlib.Omega.{arith}
use native.Mathlib.Numerals.{add-one}
use lib.ListN.{length, drop, get_or}
use lib.Dec.{eqb, leb}
use borrow.Author.Tests.{ne_eqb, le-leb, lt-leb}
use Rattle.base.specs.Bytes.{Bytes}
use Rattle.base.proofs.PlaceLaws.{at-cons, at-end}
use Rattle.canonical_json.specs.Lead.{seq, lead_of, within}
use Rattle.canonical_json.specs.Read.{Got, bad, got, end_of, also, choose, led, chars, esc, read_str}
use Rattle.canonical_json.specs.Strings.{Skips}
use Rattle.std.specs.declared.option.Option.{Option}
use Rattle.std.specs.declared.option.Option.TheVariants.{None, Some}
use Rattle.canonical_json.specs.Json.{is_escaped}
use Rattle.canonical_json.proofs.Place.{ends_at, ends-also}
use Rattle.canonical_json.proofs.Rows.{found}

-- ## The clauses
pub chars-nil : (m lo hi : ℕ) → chars [] m lo hi ≡ bad
unfolding chars
chars-nil m lo hi = refl

pub chars-start : (b : ℕ) (t : Bytes) (lo hi : ℕ) → chars (b ∷ t) 0 lo hi ≡ choose (eqb b 34) (λ _. got [] t) (λ _. choose (eqb b 92) (λ _. esc t) (λ _. led (lead_of b) (λ m l h. also (λ s. b ∷ s) (chars t m l h))))
unfolding chars
chars-start b t lo hi = refl

pub chars-more : (b : ℕ) (t : Bytes) (m lo hi : ℕ) → chars (b ∷ t) (suc m) lo hi ≡ choose (within lo hi b) (λ _. also (λ s. b ∷ s) (chars t m 128 191)) (λ _. bad)
unfolding chars
chars-more b t m lo hi = refl

pub esc-nil : esc [] ≡ bad
unfolding chars
esc-nil = refl

pub esc-cons : (c : ℕ) (t : Bytes) → esc (c ∷ t) ≡ choose (eqb c 34 || eqb c 92) (λ _. also (λ s. c ∷ s) (chars t 0 0 0)) (λ _. bad)
unfolding chars
esc-cons c t = refl

-- between characters no range waits
pub chars-done : (t : Bytes) (lo hi : ℕ) → chars t 0 lo hi ≡ read_str t
unfolding chars
chars-done [] lo hi = refl
chars-done (b ∷ t) lo hi = refl

-- ## One turn

-- no byte of a character is to come
pub spent : (s : Bytes) (i m lo hi : ℕ) → m ≡ 0 → end_of (length s) (chars (drop i s) m lo hi) ≡ end_of (length s) (read_str (drop i s))
spent s i m lo hi z = rw (z, chars-done)

grown : (n b : ℕ) (g : Got (Bytes)) → end_of n (also (λ (t : Bytes). b ∷ t) g) ≡ end_of n g
grown n b g = ends-also n (λ (t : Bytes). b ∷ t) g

pub over : (s : Bytes) (i m lo hi : ℕ) → length s ≤ i → end_of (length s) (chars (drop i s) m lo hi) ≡ None
over s i m lo hi h = rw (at-end s i h, chars-nil)

module _ (s : Bytes) (i : ℕ) where
  -- after a backslash
  pub lone : length s ≤ i → end_of (length s) (esc (drop i s)) ≡ None
  lone h = rw (at-end s i h, esc-nil)

  module _ (h : i < length s) where
    pub escaped : (c : ℕ) → get_or s i 0 ≡ c → is_escaped c ≡ true → end_of (length s) (esc (drop i s)) ≡ end_of (length s) (read_str (drop (i + 1) s))
    escaped c e f = rw (at-cons s i h, e, esc-cons, f) (grown (length s) c (read_str (drop (i + 1) s)))

    pub stray : (get_or s i 0 ≡ 34 → ⊥) → (get_or s i 0 ≡ 92 → ⊥) → end_of (length s) (esc (drop i s)) ≡ None
    stray f g = rw (at-cons s i h, esc-cons, ne_eqb _ _ f, ne_eqb _ _ g)

    -- between characters
    pub quote : get_or s i 0 ≡ 34 → end_of (length s) (read_str (drop i s)) ≡ Some (i + 1)
    quote e = rw (at-cons s i h, e, chars-start) (ends_at {A = Bytes} s (i + 1) [] (omega arith))

    pub backslash : get_or s i 0 ≡ 92 → end_of (length s) (read_str (drop i s)) ≡ end_of (length s) (esc (drop (i + 1) s))
    backslash e = rw (at-cons s i h, e, chars-start)

    module _ (f : get_or s i 0 ≡ 34 → ⊥) (g : get_or s i 0 ≡ 92 → ⊥) where
      pub no_lead : lead_of (get_or s i 0) ≡ None → end_of (length s) (read_str (drop i s)) ≡ None
      no_lead e = rw (at-cons s i h, chars-start, ne_eqb _ _ f, ne_eqb _ _ g, e)

      pub begun : (m lo hi : ℕ) → lead_of (get_or s i 0) ≡ seq m lo hi → end_of (length s) (read_str (drop i s)) ≡ end_of (length s) (chars (drop (i + 1) s) m lo hi)
      begun m lo hi e = rw (at-cons s i h, chars-start, ne_eqb _ _ f, ne_eqb _ _ g, e) (grown (length s) (get_or s i 0) (chars (drop (i + 1) s) m lo hi))

      pub control : get_or s i 0 < 32 → end_of (length s) (read_str (drop i s)) ≡ None
      control h = no_lead (sym (found 0 0 (get_or s i 0) (omega arith) refl (omega arith)))

      pub plain : 32 ≤ get_or s i 0 → get_or s i 0 ≤ 127 → end_of (length s) (read_str (drop i s)) ≡ end_of (length s) (read_str (drop (i + 1) s))
      plain lo hi = begun 0 0 0 (sym (found 1 32 (get_or s i 0) lo refl hi))

-- inside a character, of which m bytes are to come
module _ (s : Bytes) (i : ℕ) (h : i < length s) where
  pub onward : (m n lo hi : ℕ) → m ≡ n + 1 → lo ≤ get_or s i 0 → get_or s i 0 ≤ hi → end_of (length s) (chars (drop i s) m lo hi) ≡ end_of (length s) (chars (drop (i + 1) s) n 128 191)
  onward m n lo hi z f g = rw (z, add-one, at-cons s i h, chars-more, le-leb lo (get_or s i 0) f, le-leb (get_or s i 0) hi g) (grown (length s) (get_or s i 0) (chars (drop (i + 1) s) n 128 191))

  pub outside : (m lo hi : ℕ) → 0 < m → (get_or s i 0 < lo) ⊎ (hi < get_or s i 0) → end_of (length s) (chars (drop i s) m lo hi) ≡ None
  outside zero lo hi z f = absurd (omega arith)
  outside (suc m) lo hi z (inl f) = rw (at-cons s i h, chars-more, lt-leb lo (get_or s i 0) f)
  outside (suc m) lo hi z (inr f) = rw (at-cons s i h, chars-more, lt-leb (get_or s i 0) hi f, and-false (leb lo (get_or s i 0)))

-- ## What one function passed on is passed on by another

pub skips_from : (s : Bytes) (g h : Got (Bytes)) (k : ℕ) (r : Option ℕ) → end_of (length s) g ≡ end_of (length s) h → Skips s h k r → Skips s g k r
skips_from s g h k None e p = e ∙ p
skips_from s g h k (Some j) e p = (e ∙ p.0, p.1)

-- ## What the check of `escape_end` may use, of `tail_end`, of `char_end` and of `string`

pub ruleset escape_rules = (lone, escaped, stray)

pub ruleset tail_rules = (over, outside, onward, spent)

pub ruleset char_rules = (skips_from, backslash, control, plain, no_lead, begun)

pub ruleset string_rules = (quote, over)
