-- The text of a value is passed whole: past it, as many brackets are open as before it.
use mathlib.Core.Path.{◌≡◌, refl, ◌∙◌}
use mathlib.Core.List.{[], ◌∷◌, ◌++◌}
use mathlib.Core.Bool.{Bool, true, false, cond}
use Prim.Native.Nat.{ℕ, zero, suc}
use lib.Dec.{eqb}
use Rattle.base.specs.Bytes.{Bytes, bytes, is_digit}
use Rattle.base.proofs.TestLaws.{both}
use Rattle.canonical_json.specs.Json.{Json, jnull, jtrue, jfalse, num, str, arr, obj, Items, inil, icons, Members, mnil, mcons, put, put_bytes, put_str, put_num, put_items, put_more_items, put_members, put_more_members, is_escaped, Valid, ValidItems, ValidMembers, ValidMore, all_digits}
use Rattle.canonical_json.proofs.Puts.{put_null, put-true, put-false, put-num, put-str, put-arr, put-obj, items-nil, items-cons, more-items-nil, more-items-cons, members-nil, members-cons, more-members-nil, more-members-cons}
use Rattle.canonical_json.proofs.CharsLaws.{neither}
use Rattle.skip.specs.Skim.{skim, quoted, is_opening, is_closing}
use Rattle.skip.proofs.DigitLaws.{digit_not, all_digits_lem}

-- ## The clauses: `mutual` functions are kept shut, and rewritten by these

pub skim-nil : (n : ℕ) → skim [] n ≡ []
unfolding skim
skim-nil n = refl

pub skim-zero : (t : Bytes) → skim t 0 ≡ t
unfolding skim
skim-zero [] = refl
skim-zero (b ∷ t) = refl

pub quoted-nil : (n : ℕ) → quoted [] n ≡ []
unfolding skim
quoted-nil n = refl

pub quoted-close : (t : Bytes) (n : ℕ) → quoted (34 ∷ t) n ≡ skim t n
unfolding skim
quoted-close t n = refl

pub quoted-cut : (n : ℕ) → quoted (92 ∷ []) n ≡ []
unfolding skim
quoted-cut n = refl

pub quoted_escape : (b : ℕ) (t : Bytes) (n : ℕ) → quoted (92 ∷ b ∷ t) n ≡ quoted t n
unfolding skim
quoted_escape b t n = refl

pub quoted-plain : (b : ℕ) (t : Bytes) (n : ℕ) → eqb b 34 ≡ false → eqb b 92 ≡ false → quoted (b ∷ t) n ≡ quoted t n
unfolding skim
quoted-plain b t n e f = rw (e, f)

module _ (t : Bytes) (n : ℕ) where
  pub skim-quote : skim (34 ∷ t) (suc n) ≡ quoted t (suc n)
  unfolding skim
  skim-quote = refl

  pub skim_bracket : skim (91 ∷ t) (suc n) ≡ skim t (suc (suc n))
  unfolding skim
  skim_bracket = refl

  pub skim_brace : skim (123 ∷ t) (suc n) ≡ skim t (suc (suc n))
  unfolding skim
  skim_brace = refl

  pub skim-bracket_end : skim (93 ∷ t) (suc n) ≡ skim t n
  unfolding skim
  skim-bracket_end = refl

  pub skim_brace_end : skim (125 ∷ t) (suc n) ≡ skim t n
  unfolding skim
  skim_brace_end = refl

  pub skim_comma : skim (44 ∷ t) (suc n) ≡ skim t (suc n)
  unfolding skim
  skim_comma = refl

  pub skim-colon : skim (58 ∷ t) (suc n) ≡ skim t (suc n)
  unfolding skim
  skim-colon = refl

  pub skim-other : (b : ℕ) → eqb b 34 ≡ false → is_opening b ≡ false → is_closing b ≡ false → skim (b ∷ t) (suc n) ≡ skim t (suc n)
  unfolding skim
  skim-other b e f g = rw (e, f, g)

-- ## The text of a value is passed whole

pub string_passed : (bs r : Bytes) (n : ℕ) → quoted (put_bytes bs (34 ∷ r)) n ≡ skim r n
unfolding put_bytes
string_passed [] r n = quoted-close r n
string_passed (b ∷ bs) r n = go (is_escaped b) refl (string_passed bs r n)
  where
    go : (x : Bool) → is_escaped b ≡ x → quoted (put_bytes bs (34 ∷ r)) n ≡ skim r n
        → quoted (cond x (92 ∷ b ∷ put_bytes bs (34 ∷ r)) (b ∷ put_bytes bs (34 ∷ r))) n ≡ skim r n
    go true e h = quoted_escape b _ n ∙ h
    go false e h = let k = neither b e in quoted-plain b _ n k.0 k.1 ∙ h

str_passed : (bs r : Bytes) (n : ℕ) → skim (put_str bs r) (suc n) ≡ skim r (suc n)
str_passed bs r n = skim-quote _ n ∙ string_passed bs r (suc n)

digit_passed : (b : ℕ) (t : Bytes) (n : ℕ) → is_digit b ≡ true → skim (b ∷ t) (suc n) ≡ skim t (suc n)
digit_passed b t n d =
    let q = digit_not b 34 d refl in
    let o : is_opening b ≡ false = rw (digit_not b 91 d refl, digit_not b 123 d refl) in
    let c : is_closing b ≡ false = rw (digit_not b 93 d refl, digit_not b 125 d refl) in
    skim-other t n b q o c

digits_passed : (ds r : Bytes) (n : ℕ) → all_digits ds ≡ true → skim (ds ++ r) (suc n) ≡ skim r (suc n)
digits_passed [] r n g = refl
digits_passed (b ∷ ds) r n g =
    let k = both (is_digit b) (all_digits ds) g in
    digit_passed b (ds ++ r) n k.0 ∙ digits_passed ds r n k.1

num_passed : (minus : Bool) (ds r : Bytes) (n : ℕ) → all_digits ds ≡ true → skim (put_num minus ds r) (suc n) ≡ skim r (suc n)
num_passed true ds r n g = skim-other _ n 45 refl refl refl ∙ digits_passed ds r n g
num_passed false ds r n g = digits_passed ds r n g

null_passed : (r : Bytes) (n : ℕ) → skim (110 ∷ (bytes "ull" ++ r)) (suc n) ≡ skim r (suc n)
unfolding skim
null_passed r n = refl

true_passed : (r : Bytes) (n : ℕ) → skim (116 ∷ (bytes "rue" ++ r)) (suc n) ≡ skim r (suc n)
unfolding skim
true_passed r n = refl

false_passed : (r : Bytes) (n : ℕ) → skim (102 ∷ (bytes "alse" ++ r)) (suc n) ≡ skim r (suc n)
unfolding skim
false_passed r n = refl

mutual
  unfolding Valid

  pub value_passed : (v : Json) (d : ℕ) (r : Bytes) (n : ℕ) → Valid v d → skim (put v r) (suc n) ≡ skim r (suc n)
  value_passed jnull d r n g = rw put_null (null_passed r n)
  value_passed jtrue d r n g = rw put-true (true_passed r n)
  value_passed jfalse d r n g = rw put-false (false_passed r n)
  value_passed (num minus ds) d r n g = rw put-num (num_passed minus ds r n (all_digits_lem minus ds g))
  value_passed (str s) d r n g = rw put-str (str_passed s r n)
  value_passed (arr xs) zero r n g = absurd g
  value_passed (arr xs) (suc d) r n g = rw put-arr (skim_bracket _ n ∙ items_passed xs d (93 ∷ r) (suc n) g ∙ skim-bracket_end r (suc n))
  value_passed (obj ms) zero r n g = absurd g
  value_passed (obj ms) (suc d) r n g = rw put-obj (skim_brace _ n ∙ members_passed ms d (125 ∷ r) (suc n) g ∙ skim_brace_end r (suc n))

  pub items_passed : (xs : Items) (d : ℕ) (r : Bytes) (n : ℕ) → ValidItems xs d → skim (put_items xs r) (suc n) ≡ skim r (suc n)
  items_passed inil d r n g = rw items-nil
  items_passed (icons v vs) d r n g = rw items-cons (value_passed v d _ n g.0 ∙ more-items_passed vs d r n g.1)

  more-items_passed : (xs : Items) (d : ℕ) (r : Bytes) (n : ℕ) → ValidItems xs d → skim (put_more_items xs r) (suc n) ≡ skim r (suc n)
  more-items_passed inil d r n g = rw more-items-nil
  more-items_passed (icons v vs) d r n g = rw more-items-cons (skim_comma _ n ∙ value_passed v d _ n g.0 ∙ more-items_passed vs d r n g.1)

  pub members_passed : (ms : Members) (d : ℕ) (r : Bytes) (n : ℕ) → ValidMembers ms d → skim (put_members ms r) (suc n) ≡ skim r (suc n)
  members_passed mnil d r n g = rw members-nil
  members_passed (mcons k v ms) d r n g = rw members-cons (str_passed k _ n ∙ skim-colon _ n ∙ value_passed v d _ n g.1 ∙ more-members_passed k ms d r n g.2)

  more-members_passed : (p : Bytes) (ms : Members) (d : ℕ) (r : Bytes) (n : ℕ) → ValidMore p ms d → skim (put_more_members ms r) (suc n) ≡ skim r (suc n)
  more-members_passed p mnil d r n g = rw more-members-nil
  more-members_passed p (mcons k v ms) d r n g =
      rw more-members-cons (skim_comma _ n ∙ str_passed k _ n ∙ skim-colon _ n ∙ value_passed v d _ n g.2 ∙ more-members_passed k ms d r n g.3)
