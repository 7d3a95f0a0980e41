-- The first byte of a value's text.
use mathlib.Core.Path.{◌≡◌, refl, sym, ◌∙◌}
use mathlib.Core.List.{[], ◌∷◌}
use mathlib.Core.Bool.{Bool, true, false}
use Prim.Native.Nat.{ℕ}
use lib.Dec.{eqb}
use Rattle.base.specs.Bytes.{Bytes, is_digit}
use Rattle.base.proofs.TestLaws.{never, both}
use Rattle.canonical_json.specs.Json.{Json, jnull, jtrue, jfalse, num, str, arr, obj, put, Valid, valid_num, all_digits}
use Rattle.skip.proofs.DigitLaws.{digit_not, all_digits_lem}
use Rattle.canonical_json.proofs.Puts.{put_null, put-true, put-false, put-num, put-str, put-arr, put-obj}

pub first-digit : (minus : Bool) (b : ℕ) (ds : Bytes) → valid_num minus (b ∷ ds) ≡ true → is_digit b ≡ true
first-digit minus b ds g = (both (is_digit b) (all_digits ds) (all_digits_lem minus (b ∷ ds) g)).0

-- whether the text of v begins with the byte c, which is no digit
abbrev pub begins_with : ℕ → Json → Bool
begins_with c jnull = eqb 110 c
begins_with c jtrue = eqb 116 c
begins_with c jfalse = eqb 102 c
begins_with c (num true ds) = eqb 45 c
begins_with c (num false ds) = false
begins_with c (str b) = eqb 34 c
begins_with c (arr xs) = eqb 91 c
begins_with c (obj ms) = eqb 123 c

-- whether it begins with a digit
abbrev pub is_natural : Json → Bool
is_natural jnull = false
is_natural jtrue = false
is_natural jfalse = false
is_natural (num true ds) = false
is_natural (num false ds) = true
is_natural (str b) = false
is_natural (arr xs) = false
is_natural (obj ms) = false

-- the first byte of t tells what v is
pub record Begins (v : Json) (t : Bytes) : Type 0 where
  pub first : ℕ
  pub others : Bytes
  pub is : t ≡ first ∷ others
  pub with : (c : ℕ) → is_digit c ≡ false → eqb first c ≡ begins_with c v
  pub digit : is_digit first ≡ is_natural v

pub begins : (v : Json) (d : ℕ) (r t : Bytes) → Valid v d → t ≡ put v r → Begins v t
unfolding Valid
begins jnull d r t g e = record { first = 110; others = _; is = e ∙ put_null r; with = λ c n. refl; digit = refl }
begins jtrue d r t g e = record { first = 116; others = _; is = e ∙ put-true r; with = λ c n. refl; digit = refl }
begins jfalse d r t g e = record { first = 102; others = _; is = e ∙ put-false r; with = λ c n. refl; digit = refl }
begins (num true ds) d r t g e = record { first = 45; others = _; is = e ∙ put-num true ds r; with = λ c n. refl; digit = refl }
begins (num false []) d r t g e = never (sym g)
begins (num false (b ∷ ds)) d r t g e =
    let k = first-digit false b ds g in
    record { first = b; others = _; is = e ∙ put-num false (b ∷ ds) r; with = λ c n. digit_not b c k n; digit = k }
begins (str b) d r t g e = record { first = 34; others = _; is = e ∙ put-str b r; with = λ c n. refl; digit = refl }
begins (arr xs) d r t g e = record { first = 91; others = _; is = e ∙ put-arr xs r; with = λ c n. refl; digit = refl }
begins (obj ms) d r t g e = record { first = 123; others = _; is = e ∙ put-obj ms r; with = λ c n. refl; digit = refl }

-- no value begins as an array ends
pub not-closing : (v : Json) → begins_with 93 v ≡ false
not-closing jnull = refl
not-closing jtrue = refl
not-closing jfalse = refl
not-closing (num true ds) = refl
not-closing (num false ds) = refl
not-closing (str b) = refl
not-closing (arr xs) = refl
not-closing (obj ms) = refl
