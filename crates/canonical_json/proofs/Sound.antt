-- What is read was written: the text is the canonical text of the value that the reader finds, and the value is valid.
use mathlib.Core.Path.{◌≡◌, refl, sym, ap, ◌∙◌}
use mathlib.Core.List.{[], ◌∷◌}
use Rattle.std.specs.declared.option.Option.{Option}
use Rattle.std.specs.declared.option.Option.TheVariants.{None, Some}
use mathlib.Core.Bool.{true, false}
use mathlib.Core.Logic.{◌⊎◌, inl, inr}
use Prim.Native.Nat.{ℕ, zero, suc}
use lib.ListN.{length}
use lib.Dec.{eqb}
use borrow.Author.Tests.{eqb-true}
use Rattle.base.specs.Bytes.{Bytes, bytes, is_digit}
use Rattle.base.proofs.TestLaws.{cond-elim}
use Rattle.canonical_json.specs.Json.{Json, jnull, jtrue, jfalse, num, str, arr, obj, Items, inil, icons, Members, mnil, put, put_items, put_more_items, put_members, put_more_members, put_str, Valid, ValidItems, ValidMembers, ValidMore, ValidStr}
use Rattle.canonical_json.specs.Read.{Got, bad, read_str, loop, body, item, same, array, Member, rises, member, named, mcons', object, kind_of, read_kind, read_with, read}
use Rattle.canonical_json.specs.declared.Kind.{Kind}
use Rattle.canonical_json.specs.declared.Kind.TheVariants.{Text, Minus, Digit, Array, Object, True, False, Null}
use Rattle.canonical_json.proofs.Cases.{choose-elim, then-elim, front-elim}
use Rattle.canonical_json.proofs.Says.{Says, says-bad, says-got, says-also, says_map, says_of}
use Rattle.canonical_json.proofs.Rfc.{to_rfc}
use Rattle.canonical_json.proofs.CharsLaws.{chars_sound}
use Rattle.canonical_json.proofs.NumberLaws.{number_sound, word_sound}
use Rattle.canonical_json.proofs.Puts.{put_null, put-true, put-false, put-num, put-str, put-arr, put-obj, items-nil, items-cons, more-items-nil, more-items-cons, members-nil, members-cons, more-members-nil, more-members-cons}

-- ## Elements between commas

module _ {P A B : Type 0} (rd : P → Bytes → Got A) (next : P → A → P) (nil : B) (cons : A → B → B) (close : ℕ)
    (put_one : A → Bytes → Bytes) (put_more : B → Bytes → Bytes) (Q : P → A → Type 0) (Qs : P → B → Type 0) where
  -- an element that Q accepts, and those after it
  pub record Whole (p : P) (t : Bytes) (b : B) (r : Bytes) : Type 0 where
    pub head : A
    pub tail : B
    pub is : b ≡ cons head tail
    pub text : t ≡ put_one head (put_more tail (close ∷ r))
    pub good : Q p head
    pub more : Qs (next p head) tail

  module _ (more-nil : (r : Bytes) → put_more nil r ≡ r)
      (more-cons : (a : A) (b : B) (r : Bytes) → put_more (cons a b) r ≡ 44 ∷ put_one a (put_more b r))
      (qs-nil : (p : P) → Qs p nil)
      (qs-cons : (p : P) (a : A) (b : B) → Q p a → Qs (next p a) b → Qs p (cons a b))
      (rd-sound : (p : P) (t : Bytes) → Says (λ a r. (t ≡ put_one a r) × Q p a) (rd p t)) where
    loop_sound : (n : ℕ) (p : P) (t : Bytes) → Says (Whole p t) (loop rd next nil cons close n p t)
    unfolding loop
    loop_sound zero p t = says-bad
    loop_sound (suc n) p t =
        then-elim (Says (Whole p t)) (rd p t) _ says-bad
        (λ a r e. front-elim (Says (Whole p t)) r _ says-bad
        (λ c q k.
        let w = says_of (rw e at (rd-sound p t)) in
        choose-elim (Says (Whole p t)) (eqb c close) _ _
        (λ (f : eqb c close ≡ true).
        let z : t ≡ put_one a (close ∷ q) = w.0 ∙ ap (λ (x : Bytes). put_one a x) (k ∙ ap (λ (x : ℕ). x ∷ q) (eqb-true c close f)) in
        says-got (record { head = a; tail = nil; is = refl; text = z ∙ ap (λ (x : Bytes). put_one a x) (sym (more-nil (close ∷ q))); good = w.1; more = qs-nil (next p a) }))
        (λ _. choose-elim (Says (Whole p t)) (eqb c 44) _ _
        (λ (f : eqb c 44 ≡ true). says-also (λ (b : B). cons a b) (loop_sound n (next p a) q)
        (λ b s v.
        let y : t ≡ put_one a (44 ∷ q) = w.0 ∙ ap (λ (x : Bytes). put_one a x) (k ∙ ap (λ (x : ℕ). x ∷ q) (eqb-true c 44 f)) in
        let m : put_more b (close ∷ s) ≡ 44 ∷ q = ap (λ (x : B). put_more x (close ∷ s)) v.is ∙ more-cons v.head v.tail (close ∷ s) ∙ ap (λ (x : Bytes). 44 ∷ x) (sym v.text) in
        record { head = a; tail = b; is = refl; text = y ∙ ap (λ (x : Bytes). put_one a x) (sym m); good = w.1; more = rw v.is (qs-cons (next p a) v.head v.tail v.good v.more) }))
        (λ _. says-bad))))

    pub body_sound : (p : P) (t : Bytes) → Says (λ b r. ((b ≡ nil) × (t ≡ close ∷ r)) ⊎ Whole p t b r) (body rd next nil cons close p t)
    unfolding body
    body_sound p t =
        front-elim (Says (λ b r. ((b ≡ nil) × (t ≡ close ∷ r)) ⊎ Whole p t b r)) t _ says-bad
        (λ c r k. choose-elim (Says (λ b r. ((b ≡ nil) × (t ≡ close ∷ r)) ⊎ Whole p t b r)) (eqb c close) _ _
        (λ (f : eqb c close ≡ true). says-got (inl (refl, k ∙ ap (λ (x : ℕ). x ∷ r) (eqb-true c close f))))
        (λ _. says_map (loop_sound (length t) p t) (λ b r w. inr w)))

-- ## Arrays and objects, over a sound reader of values

-- v, then r, is t; and v may stand where the depth left is d
abbrev pub Wrote : ℕ → Bytes → Json → Bytes → Type 0
Wrote d t v r = (t ≡ put v r) × Valid v d

abbrev WroteItems : ℕ → Bytes → Items → Bytes → Type 0
WroteItems d t xs r = (t ≡ put_items xs (93 ∷ r)) × ValidItems xs d

abbrev WroteMembers : ℕ → Bytes → Members → Bytes → Type 0
WroteMembers d t ms r = (t ≡ put_members ms (125 ∷ r)) × ValidMembers ms d

abbrev put_member : Member → Bytes → Bytes
put_member m r = put_str m.0 (58 ∷ put m.1 r)

abbrev MemberGood : ℕ → Option (Bytes) → Member → Type 0
MemberGood d p m = (rises p m.0 ≡ true) × ValidStr m.0 × Valid m.1 d

abbrev MembersGood : ℕ → Option (Bytes) → Members → Type 0
MembersGood d None ms = ValidMembers ms d
MembersGood d (Some n) ms = ValidMore n ms d

members-good-nil : (d : ℕ) (p : Option (Bytes)) → MembersGood d p mnil
unfolding Valid
members-good-nil d None = tt
members-good-nil d (Some n) = tt

members-good-cons : (d : ℕ) (p : Option (Bytes)) (m : Member) (ms : Members) → MemberGood d p m → MembersGood d (Some m.0) ms → MembersGood d p (mcons' m ms)
unfolding Valid
members-good-cons d None m ms g h = (g.1, g.2, h)
members-good-cons d (Some n) m ms g h = (g.0, g.1, g.2, h)

items-good-nil : (d : ℕ) → ValidItems inil d
unfolding Valid
items-good-nil d = tt

items-good-cons : (d : ℕ) (v : Json) (vs : Items) → Valid v d → ValidItems vs d → ValidItems (icons v vs) d
unfolding Valid
items-good-cons d v vs g h = (g, h)

module _ (d : ℕ) (rd : Bytes → Got Json) (rd-sound : (t : Bytes) → Says (Wrote d t) (rd t)) where
  array_sound : (t : Bytes) → Says (WroteItems d t) (array rd t)
  array_sound t =
      says_map
      (body_sound (item rd) same inil icons 93 put put_more_items (λ _ v. Valid v d) (λ _ vs. ValidItems vs d) more-items-nil more-items-cons (λ _. items-good-nil d) (λ _ v vs g h. items-good-cons d v vs g h) (λ _ t. rd-sound t) tt t)
      (λ xs r w. go xs r w)
    where
      go : (xs : Items) (r : Bytes) → ((xs ≡ inil) × (t ≡ 93 ∷ r)) ⊎ Whole (item rd) same inil icons 93 put put_more_items (λ _ v. Valid v d) (λ _ vs. ValidItems vs d) tt t xs r → WroteItems d t xs r
      go xs r (inl e) = rw (e.0, items-nil) (e.1, items-good-nil d)
      go xs r (inr w) = rw (w.is, items-cons) (w.text, items-good-cons d w.head w.tail w.good w.more)

  member_sound : (p : Option (Bytes)) (t : Bytes) → Says (λ m r. (t ≡ put_member m r) × MemberGood d p m) (member rd p t)
  unfolding member
  member_sound p [] = says-bad
  member_sound p (b ∷ u) =
      choose-elim (Says (λ m r. (b ∷ u ≡ put_member m r) × MemberGood d p m)) (eqb b 34) _ _
      (λ (e : eqb b 34 ≡ true). then-elim (Says (λ m r. (b ∷ u ≡ put_member m r) × MemberGood d p m)) (read_str u) _ says-bad
      (λ n v f. choose-elim (Says (λ m r. (b ∷ u ≡ put_member m r) × MemberGood d p m)) (rises p n) _ _
      (λ (g : rises p n ≡ true). front-elim (Says (λ m r. (b ∷ u ≡ put_member m r) × MemberGood d p m)) v _ says-bad
      (λ c w h. choose-elim (Says (λ m r. (b ∷ u ≡ put_member m r) × MemberGood d p m)) (eqb c 58) _ _
      (λ (k : eqb c 58 ≡ true).
      let q = says_of (rw f at (chars_sound u 0 0 0 (λ z. absurd (z refl)))) in
      says-also (λ (x : Json). (n, x)) (rd-sound w)
      (λ x r y.
      let z : v ≡ 58 ∷ put x r = h ∙ ap (λ (i : ℕ). i ∷ w) (eqb-true c 58 k) ∙ ap (λ (l : Bytes). 58 ∷ l) y.0 in
      (ap (λ (i : ℕ). i ∷ u) (eqb-true b 34 e) ∙ ap (λ (l : Bytes). 34 ∷ l) q.0 ∙ ap (λ (l : Bytes). put_str n l) z, (g, to_rfc n q.1, y.1))))
      (λ _. says-bad)))
      (λ _. says-bad)))
      (λ _. says-bad)

  object_sound : (t : Bytes) → Says (WroteMembers d t) (object rd t)
  object_sound t =
      says_map
      (body_sound (member rd) named mnil mcons' 125 put_member put_more_members (MemberGood d) (MembersGood d) more-members-nil (λ m ms r. more-members-cons m.0 m.1 ms r) (members-good-nil d) (members-good-cons d) member_sound None t)
      (λ ms r w. go ms r w)
    where
      go : (ms : Members) (r : Bytes) → ((ms ≡ mnil) × (t ≡ 125 ∷ r)) ⊎ Whole (member rd) named mnil mcons' 125 put_member put_more_members (MemberGood d) (MembersGood d) None t ms r → WroteMembers d t ms r
      go ms r (inl e) = rw (e.0, members-nil) (e.1, members-good-nil d None)
      go ms r (inr w) = rw (w.is, members-cons) (w.text, members-good-cons d None w.head w.tail w.good w.more)

-- ## Values

-- the first byte is c, and t follows
module _ (d : ℕ) (ra : Bytes → Got Items) (ro : Bytes → Got Members)
    (ra-sound : (t : Bytes) → Says (λ xs r. (t ≡ put_items xs (93 ∷ r)) × Valid (arr xs) d) (ra t))
    (ro-sound : (t : Bytes) → Says (λ ms r. (t ≡ put_members ms (125 ∷ r)) × Valid (obj ms) d) (ro t)) where
  with_sound : (t : Bytes) → Says (Wrote d t) (read_with ra ro t)
  unfolding kind_of Valid
  with_sound [] = says-bad
  with_sound (b ∷ t) =
      cond-elim K (eqb b 34) Text _ (λ e. says-also str (chars_sound t 0 0 0 (λ z. absurd (z refl))) (λ s r q. (at b 34 e q.0 ∙ sym (put-str s r), to_rfc s q.1)))
      (λ _. cond-elim K (eqb b 45) Minus _ (λ e. says-also (λ (ds : Bytes). num true ds) (number_sound true t) (λ ds r q. (at b 45 e q.0 ∙ sym (put-num true ds r), q.1)))
      (λ _. cond-elim K (eqb b 91) Array _ (λ e. says-also arr (ra-sound t) (λ xs r q. (at b 91 e q.0 ∙ sym (put-arr xs r), q.1)))
      (λ _. cond-elim K (eqb b 102) False _ (λ e. says-also (λ (x : Unit {0}). jfalse) (word_sound (bytes "alse") t) (λ _ r q. (at b 102 e q ∙ sym (put-false r), tt)))
      (λ _. cond-elim K (eqb b 110) Null _ (λ e. says-also (λ (x : Unit {0}). jnull) (word_sound (bytes "ull") t) (λ _ r q. (at b 110 e q ∙ sym (put_null r), tt)))
      (λ _. cond-elim K (eqb b 116) True _ (λ e. says-also (λ (x : Unit {0}). jtrue) (word_sound (bytes "rue") t) (λ _ r q. (at b 116 e q ∙ sym (put-true r), tt)))
      (λ _. cond-elim K (eqb b 123) Object _ (λ e. says-also obj (ro-sound t) (λ ms r q. (at b 123 e q.0 ∙ sym (put-obj ms r), q.1)))
      (λ _. cond-elim K (is_digit b) Digit _ (λ e. says-also (λ (ds : Bytes). num false ds) (number_sound false (b ∷ t)) (λ ds r q. (q.0 ∙ sym (put-num false ds r), q.1)))
      (λ _. says-bad))))))))
    where
      K : Kind → Type 0
      K k = Says (Wrote d (b ∷ t)) (read_kind ra ro k b t)

      at : (b c : ℕ) → eqb b c ≡ true → {x : Bytes} → t ≡ x → b ∷ t ≡ c ∷ x
      at b c e q = ap (λ (i : ℕ). i ∷ t) (eqb-true b c e) ∙ ap (λ (l : Bytes). c ∷ l) q

pub read_sound : (d : ℕ) (t : Bytes) → Says (Wrote d t) (read d t)
unfolding read Valid
read_sound zero t = with_sound zero (λ _. bad) (λ _. bad) (λ _. says-bad) (λ _. says-bad) t
read_sound (suc d) t = with_sound (suc d) (array (read d)) (object (read d)) (array_sound d (read d) (read_sound d)) (object_sound d (read d) (read_sound d)) t
