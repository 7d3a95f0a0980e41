-- What is written is read: the reader finds each valid value in its canonical text.
use mathlib.Core.Path.{◌≡◌, refl, sym, ◌∙◌}
use mathlib.Core.List.{[], ◌∷◌, ◌++◌}
use Rattle.std.specs.declared.option.Option.{Option}
use Rattle.std.specs.declared.option.Option.TheVariants.{None, Some}
use mathlib.Core.Bool.{Bool, true, false, cond, not, ◌&&◌}
use Prim.Native.Nat.{ℕ, zero, suc}
use native.Mathlib.Omega.{arith}
use lib.Dec.{eqb}
use borrow.Author.Tests.{eq-eqb, ne_eqb, eqb-true, eqb-false}
use Rattle.base.specs.Bytes.{Bytes, is_digit}
use Rattle.base.proofs.TestLaws.{never, both}
use Rattle.base.proofs.ByteLaws.{digit_range}
use Rattle.canonical_json.specs.Json.{Json, jnull, jtrue, jfalse, num, str, arr, obj, Items, inil, icons, Members, mnil, mcons, put, put_items, put_more_items, put_members, put_more_members, put_str, put_num, Valid, ValidItems, ValidMembers, ValidMore, ValidStr, valid_num, all_digits, is_nil}
use Rattle.canonical_json.specs.Read.{Got, got, elements, body, item, same, array, rises, member, named, mcons', object, kind_of, read, NoDigit}
use Rattle.canonical_json.proofs.KindLaws.{digit-kind}
use Rattle.canonical_json.proofs.Rfc.{of_rfc}
use Rattle.canonical_json.proofs.CharsLaws.{chars-complete}
use Rattle.canonical_json.proofs.NumberLaws.{number-complete}
use Rattle.canonical_json.proofs.Rest.{read_fits, member-fits, elements-step}
use Rattle.canonical_json.proofs.Values.{read-with}
use Rattle.canonical_json.proofs.Puts.{put_null, put-true, put-false, put-num, put-str, put-arr, put-obj, items-nil, items-cons, more-items-nil, more-items-cons, members-nil, members-cons, more-members-nil, more-members-cons}

-- ## The first byte

first-digit : (s : Bool) (b : ℕ) (t : Bytes) → valid_num s (b ∷ t) ≡ true → is_digit b ≡ true
first-digit s b t g = go (eqb b 48) refl g
  where
    go : (x : Bool) → eqb b 48 ≡ x → cond x (not s && is_nil t) (is_digit b && all_digits t) ≡ true → is_digit b ≡ true
    go true e g = rw (eqb-true b 48 e)
    go false e g = (both (is_digit b) (all_digits t) g).0

-- the text begins with a byte other than `]`
record First (t : Bytes) : Type 0 where
  head : ℕ
  tail : Bytes
  is : t ≡ head ∷ tail
  apart : head ≡ 93 → ⊥

first-num : (s : Bool) (ds : Bytes) (r : Bytes) → valid_num s ds ≡ true → First (put_num s ds r)
first-num true ds r g = record { head = 45; tail = ds ++ r; is = refl; apart = eqb-false 45 93 refl }
first-num false [] r g = never (sym g)
first-num false (b ∷ ds) r g =
    let w = digit_range b (first-digit false b ds g) in
    record { head = b; tail = ds ++ r; is = refl; apart = λ (z : b ≡ 93). omega arith }

first : (v : Json) (d : ℕ) (r : Bytes) → Valid v d → First (put v r)
unfolding Valid
first jnull d r g = record { head = 110; tail = _; is = put_null r; apart = eqb-false 110 93 refl }
first jtrue d r g = record { head = 116; tail = _; is = put-true r; apart = eqb-false 116 93 refl }
first jfalse d r g = record { head = 102; tail = _; is = put-false r; apart = eqb-false 102 93 refl }
first (num s ds) d r g = rw put-num (first-num s ds r g)
first (str s) d r g = record { head = 34; tail = _; is = put-str s r; apart = eqb-false 34 93 refl }
first (arr xs) d r g = record { head = 91; tail = _; is = put-arr xs r; apart = eqb-false 91 93 refl }
first (obj ms) d r g = record { head = 123; tail = _; is = put-obj ms r; apart = eqb-false 123 93 refl }

-- ## The closing byte, and another

module _ {P A B : Type 0} (rd : P → Bytes → Got A) (next : P → A → P) (nil : B) (cons : A → B → B) (close : ℕ) (p : P) where
  body-close : (r : Bytes) → body rd next nil cons close p (close ∷ r) ≡ got nil r
  unfolding body
  body-close r = rw (eq-eqb close close refl)

  body_open : (t : Bytes) (c : ℕ) (u : Bytes) → t ≡ c ∷ u → (c ≡ close → ⊥) → body rd next nil cons close p t ≡ elements rd next nil cons close p t
  unfolding body
  body_open t c u e n = rw (e, ne_eqb c close n)

-- ## Leaves

number_read : (d : ℕ) (ds r : Bytes) → valid_num false ds ≡ true → NoDigit r → read d (ds ++ r) ≡ got (num false ds) r
number_read d [] r g f = never (sym g)
number_read d (b ∷ ds) r g f = rw (read-with, digit-kind b (first-digit false b ds g), number-complete false (b ∷ ds) r g f)

num-read : (s : Bool) (d : ℕ) (ds r : Bytes) → valid_num s ds ≡ true → NoDigit r → read d (put_num s ds r) ≡ got (num s ds) r
unfolding kind_of
num-read true d ds r g f = rw (read-with, number-complete true ds r g f)
num-read false d ds r g f = number_read d ds r g f

member-read : (rd : Bytes → Got Json) (p : Option (Bytes)) (n : Bytes) (v : Json) (r : Bytes) → rises p n ≡ true → ValidStr n → rd (put v r) ≡ got v r
    → member rd p (put_str n (58 ∷ put v r)) ≡ got (n, v) r
unfolding member
member-read rd p n v r h g e = rw (chars-complete n 0 0 0 (58 ∷ put v r) (λ z. absurd (z refl)) (of_rfc n g.0 g.1 0 0), h, e)

-- ## Values

mutual
  unfolding Valid kind_of

  pub complete : (v : Json) (d : ℕ) (r : Bytes) → Valid v d → NoDigit r → read d (put v r) ≡ got v r
  complete jnull d r g f = rw (put_null, read-with)
  complete jtrue d r g f = rw (put-true, read-with)
  complete jfalse d r g f = rw (put-false, read-with)
  complete (num s ds) d r g f = rw put-num (num-read s d ds r g f)
  complete (str s) d r g f = rw (put-str, read-with, chars-complete s 0 0 0 r (λ z. absurd (z refl)) (of_rfc s g.0 g.1 0 0))
  complete (arr xs) zero r g f = absurd g
  complete (arr xs) (suc d) r g f = rw (put-arr, read-with, complete-items xs d r g)
  complete (obj ms) zero r g f = absurd g
  complete (obj ms) (suc d) r g f = rw (put-obj, read-with, complete-members ms d r g)

  complete-items : (xs : Items) (d : ℕ) (r : Bytes) → ValidItems xs d → array (read d) (put_items xs (93 ∷ r)) ≡ got xs r
  complete-items inil d r g = rw items-nil (body-close (item (read d)) same inil icons 93 tt r)
  complete-items (icons v vs) d r g =
      let h = first v d (put_more_items vs (93 ∷ r)) g.0 in
      rw items-cons
      (body_open (item (read d)) same inil icons 93 tt (put v (put_more_items vs (93 ∷ r))) h.head h.tail h.is h.apart
      ∙ complete-more vs d r g.1 v (λ R f. complete v d R g.0 f))

  complete-more : (vs : Items) (d : ℕ) (r : Bytes) → ValidItems vs d → (v : Json) → ((R : Bytes) → NoDigit R → read d (put v R) ≡ got v R)
      → elements (item (read d)) same inil icons 93 tt (put v (put_more_items vs (93 ∷ r))) ≡ got (icons v vs) r
  complete-more inil d r g v hv =
      rw (more-items-nil, elements-step (item (read d)) same inil icons 93 (λ _. read_fits d) tt (put v (93 ∷ r)), hv (93 ∷ r) refl)
  complete-more (icons w ws) d r g v hv =
      rw (
        more-items-cons,
        elements-step (item (read d)) same inil icons 93 (λ _. read_fits d) tt (put v (44 ∷ put w (put_more_items ws (93 ∷ r)))),
        hv (44 ∷ put w (put_more_items ws (93 ∷ r))) refl,
        complete-more ws d r g.1 w (λ R f. complete w d R g.0 f),
      )

  complete-members : (ms : Members) (d : ℕ) (r : Bytes) → ValidMembers ms d → object (read d) (put_members ms (125 ∷ r)) ≡ got ms r
  complete-members mnil d r g = rw members-nil (body-close (member (read d)) named mnil mcons' 125 None r)
  complete-members (mcons n v ms) d r g =
      rw members-cons
      (body_open (member (read d)) named mnil mcons' 125 None (put_str n (58 ∷ put v (put_more_members ms (125 ∷ r)))) 34 _ refl (eqb-false 34 125 refl)
      ∙ complete-more-members ms d r n g.2 None refl g.0 v (λ R f. complete v d R g.1 f))

  complete-more-members : (ms : Members) (d : ℕ) (r n : Bytes) → ValidMore n ms d → (p : Option (Bytes)) → rises p n ≡ true → ValidStr n
      → (v : Json) → ((R : Bytes) → NoDigit R → read d (put v R) ≡ got v R)
      → elements (member (read d)) named mnil mcons' 125 p (put_str n (58 ∷ put v (put_more_members ms (125 ∷ r)))) ≡ got (mcons n v ms) r
  complete-more-members mnil d r n g p h k v hv =
      rw (
        more-members-nil,
        elements-step (member (read d)) named mnil mcons' 125 (member-fits (read d) (read_fits d)) p (put_str n (58 ∷ put v (125 ∷ r))),
        member-read (read d) p n v (125 ∷ r) h k (hv (125 ∷ r) refl),
      )
  complete-more-members (mcons m w ms) d r n g p h k v hv =
      rw (
        more-members-cons,
        elements-step (member (read d)) named mnil mcons' 125 (member-fits (read d) (read_fits d)) p (put_str n (58 ∷ put v (44 ∷ put_str m (58 ∷ put w (put_more_members ms (125 ∷ r)))))),
        member-read (read d) p n v (44 ∷ put_str m (58 ∷ put w (put_more_members ms (125 ∷ r)))) h k (hv (44 ∷ put_str m (58 ∷ put w (put_more_members ms (125 ∷ r)))) refl),
        complete-more-members ms d r m g.3 (Some n) g.0 g.1 w (λ R f. complete w d R g.2 f),
      )

-- an object ends by itself, whatever follows
pub complete-object : (ms : Members) (d : ℕ) (r : Bytes) → Valid (obj ms) d → read d (put (obj ms) r) ≡ got (obj ms) r
unfolding Valid kind_of
complete-object ms zero r g = absurd g
complete-object ms (suc d) r g = rw (put-obj, read-with, complete-members ms d r g)
