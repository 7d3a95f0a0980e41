-- Every value that stands in the text ends where the skip says: one law for each first byte.
use mathlib.Core.Path.{◌≡◌, refl, sym, ap, ◌∙◌}
use mathlib.Core.List.{[], ◌∷◌, ◌++◌}
use mathlib.Core.Bool.{Bool, true, false, cond, ◌||◌}
use mathlib.Core.Logic.{inl, inr}
use Prim.Native.Nat.{ℕ, zero, suc, ◌≤◌, ◌<◌, ◌+◌, ◌-◌}
use native.Mathlib.Omega.{arith}
use lib.Dec.{eqb}
use lib.ListN.{length, drop, get_or, length-drop}
use borrow.Author.Tests.{ne_eqb}
use Rattle.base.specs.Bytes.{Bytes, is_digit}
use Rattle.base.proofs.PlaceLaws.{at-cons}
use Rattle.base.proofs.TestLaws.{never, both}
use Rattle.canonical_json.specs.Json.{Json, jnull, jtrue, jfalse, num, str, arr, obj, put, Valid, all_digits, max_depth}
use Rattle.canonical_json.specs.Read.{NoDigit, got, end_of, digits, read}
use Rattle.std.specs.declared.option.Option.TheVariants.{None, Some}
use Rattle.canonical_json.proofs.Puts.{put_null, put-true, put-false, put-num, put-str, put-arr, put-obj}
use Rattle.canonical_json.proofs.Complete.{complete}
use Rattle.canonical_json.proofs.Rest.{ends-less, fits-ends, read_fits}
use Rattle.skip.specs.Skim.{skim, quoted, past_digits, is_opening, StringEnd, BracketEnd, WordEnd, DigitsEnd}
use Rattle.skip.specs.Ends.{Ends}
use Rattle.skip.proofs.DigitLaws.{digit_not, all_digits_lem}
use Rattle.skip.proofs.SkimLaws.{skim-zero, skim-bracket_end, skim_brace_end, string_passed, items_passed, members_passed}
use Rattle.skip.proofs.StepLaws.{OneOf, none_of, digits-stand}

-- ## A value, by its first byte

digits-past : (ds r : Bytes) → all_digits ds ≡ true → NoDigit r → past_digits (ds ++ r) ≡ r
unfolding past_digits
digits-past [] [] g f = refl
digits-past [] (c ∷ t) g f = simp f
digits-past (b ∷ ds) r g f = let k = both (is_digit b) (all_digits ds) g in simp k.0 (digits-past ds r k.1 f)

abbrev is_word : ℕ → Bool
is_word b = eqb b 110 || eqb b 116

-- what follows the value in front
past_value : Bytes → Bytes
past_value [] = []
past_value (b ∷ t) =
    cond (eqb b 34) (quoted t 0)
    (cond (is_opening b) (skim t 1)
    (cond (eqb b 102) (drop 4 t)
    (cond (is_word b) (drop 3 t) (past_digits t))))

past-digit : (b : ℕ) (t : Bytes) → is_digit b ≡ true → past_value (b ∷ t) ≡ past_digits t
unfolding past_value
past-digit b t d = rw (digit_not b 34 d refl, digit_not b 91 d refl, digit_not b 123 d refl, digit_not b 102 d refl, digit_not b 110 d refl, digit_not b 116 d refl)

past-put : (v : Json) (d : ℕ) (r : Bytes) → Valid v d → NoDigit r → past_value (put v r) ≡ r
unfolding past_value Valid
past-put jnull d r g f = rw put_null
past-put jtrue d r g f = rw put-true
past-put jfalse d r g f = rw put-false
past-put (num true ds) d r g f = rw put-num (digits-past ds r (all_digits_lem true ds g) f)
past-put (num false []) d r g f = never (sym g)
past-put (num false (b ∷ ds)) d r g f =
    let k = both (is_digit b) (all_digits ds) (all_digits_lem false (b ∷ ds) g) in
    rw put-num (past-digit b (ds ++ r) k.0 ∙ digits-past ds r k.1 f)
past-put (str s) d r g f = rw put-str (string_passed s r 0 ∙ skim-zero r)
past-put (arr xs) zero r g f = absurd g
past-put (arr xs) (suc d) r g f = rw put-arr (items_passed xs d (93 ∷ r) 0 g ∙ skim-bracket_end r 0 ∙ skim-zero r)
past-put (obj ms) zero r g f = absurd g
past-put (obj ms) (suc d) r g f = rw put-obj (members_passed ms d (125 ∷ r) 0 g ∙ skim_brace_end r 0 ∙ skim-zero r)

module _ (s : Bytes) (p e : ℕ) (h : p < length s) where
  ends : past_value (drop p s) ≡ drop e s → p < e → e ≤ length s → Ends s p (Some e)
  ends k l w = record { means = λ v rest t f g. ap Some (place v rest t f g); onward = (l, w) }
    where
      place : (v : Json) (rest : Bytes) → drop p s ≡ put v rest → NoDigit rest → Valid v max_depth → e ≡ length s - length rest
      place v rest t f g =
          let q : drop e s ≡ rest = sym k ∙ ap past_value t ∙ past-put v max_depth rest g f in
          let d = sym (length-drop e s) ∙ ap length q in
          omega arith

  pub string-ends : get_or s p 0 ≡ 34 → StringEnd s (p + 1) e → Ends s p (Some e)
  unfolding past_value
  string-ends b r = ends (rw (at-cons s p h, b) (r.means 0 ∙ skim-zero (drop e s))) (omega arith) r.within

  pub bracket_ends : OneOf 91 123 (get_or s p 0) → BracketEnd s (p + 1) e → Ends s p (Some e)
  unfolding past_value
  bracket_ends (inl b) r = ends (rw (at-cons s p h, b) r.means) (omega arith) r.within
  bracket_ends (inr b) r = ends (rw (at-cons s p h, b) r.means) (omega arith) r.within

  pub false-ends : get_or s p 0 ≡ 102 → WordEnd s (p + 1) 4 e → Ends s p (Some e)
  unfolding past_value
  false-ends b r = ends (rw (at-cons s p h, b) r.means) (omega arith) r.within

  pub word-ends : OneOf 110 116 (get_or s p 0) → WordEnd s (p + 1) 3 e → Ends s p (Some e)
  unfolding past_value
  word-ends (inl b) r = ends (rw (at-cons s p h, b) r.means) (omega arith) r.within
  word-ends (inr b) r = ends (rw (at-cons s p h, b) r.means) (omega arith) r.within

  pub digits-ends : (get_or s p 0 ≡ 34 → ⊥) → (OneOf 91 123 (get_or s p 0) → ⊥) → (get_or s p 0 ≡ 102 → ⊥) → (OneOf 110 116 (get_or s p 0) → ⊥)
      → DigitsEnd s (p + 1) e → Ends s p (Some e)
  unfolding past_value
  digits-ends q o f w r = ends (rw (at-cons s p h, ne_eqb _ _ q, none_of 91 123 _ o, ne_eqb _ _ f, none_of 110 116 _ w) r.means) (omega arith) r.within

  -- the same, by where the digits end
  pub digits_read : (get_or s p 0 ≡ 34 → ⊥) → (OneOf 91 123 (get_or s p 0) → ⊥) → (get_or s p 0 ≡ 102 → ⊥) → (OneOf 110 116 (get_or s p 0) → ⊥)
      → end_of (length s) (digits (drop (p + 1) s)) ≡ Some e → Ends s p (Some e)
  digits_read q o f w k = digits-ends q o f w (digits-stand s (p + 1) e (omega arith) k)

-- where the text has ended no value stands: its reader would find it there
pub none-stands : (s : Bytes) (p : ℕ) → length s ≤ p → Ends s p None
none-stands s p h = record { means = λ v rest t f g. absurd (none v rest t f g); onward = tt }
  where
    none : (v : Json) (rest : Bytes) → drop p s ≡ put v rest → NoDigit rest → Valid v max_depth → ⊥
    none v rest t f g =
        let k : read max_depth (drop p s) ≡ got v rest = ap (λ (x : Bytes). read max_depth x) t ∙ complete v max_depth rest g f in
        let l = ends-less (fits-ends (rw k at (read_fits max_depth (drop p s)))) in
        let d = length-drop p s in
        omega arith

-- what the check of `value` may use
pub ruleset value_rules = (bracket_ends, false-ends, word-ends, digits_read)
