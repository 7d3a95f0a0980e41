-- The members of an object one after the other.
use mathlib.Core.Path.{◌≡◌, refl, sym, ap, ◌∙◌}
use mathlib.Core.List.{◌∷◌}
use Rattle.std.specs.declared.option.Option.{Option}
use Rattle.std.specs.declared.option.Option.TheVariants.{None, Some}
use mathlib.Core.Bool.{true, false}
use Prim.Native.Nat.{ℕ, suc, ◌≤◌, ◌<◌, ◌+◌, ◌-◌}
use native.Mathlib.Omega.{arith}
use lib.ListN.{length, drop, get_or}
use Rattle.base.specs.Bytes.{Bytes}
use Rattle.canonical_json.specs.Json.{Json, jnull, jtrue, jfalse, num, str, arr, obj, Members, mnil, mcons, put, put_str, put_bytes, put_more_members, Valid, ValidMembers, max_depth}
use Rattle.canonical_json.specs.Read.{raw, NoDigit}
use Rattle.canonical_json.specs.Fields.{members}
use Rattle.canonical_json.proofs.Puts.{put-str, put-obj, members-nil, members-cons, more-members-nil, more-members-cons}
use Rattle.lookup.specs.Place.{Stands, EndsAt, KnownEnd}
use Rattle.lookup.specs.Walk.{closes, opens, Opens, Follows, ElementAfter, MemberAt, MemberAfter, NameAt, MembersLeft, members-end, members-at, MembersOf, MemberBy, FirstMember, NextMemberBy}
use Rattle.lookup.specs.declared.Element.{Element}
use Rattle.lookup.specs.declared.Element.TheVariants as element
use Rattle.lookup.specs.declared.Member.{Member}
use Rattle.lookup.specs.declared.Member.TheVariants as member
use Rattle.canonical_json.proofs.Deeper.{deeper}
use Rattle.lookup.proofs.StandsLaws.{there, rest_at, end-found, end_is, place_after}
use Rattle.lookup.proofs.ItemLaws.{closes-end, closes-on, opens-on, opens-no, opens-place, follows_place}
use Rattle.lookup.proofs.StringLaws.{raw-bytes}

-- ## One member

-- the text of the members from one on
abbrev MemberText : Bytes → Json → Members → Bytes → Bytes
MemberText n v ms rest = put_str n (58 ∷ put v (put_more_members ms (125 ∷ rest)))

module _ (s : Bytes) (i : ℕ) (n : Bytes) (v : Json) (ms : Members) (rest : Bytes) (t : drop i s ≡ MemberText n v ms rest) (g : ValidMembers (mcons n v ms) max_depth) where
  -- the name is a string that stands before its colon
  pub name-stands : Stands s i (str n)
  unfolding Valid
  name-stands = record { rest = 58 ∷ put v (put_more_members ms (125 ∷ rest)); text = t ∙ sym (put-str n _); free = refl; valid = g.0 }

  module _ (r : Option ℕ) (w : EndsAt s i r) where
    pub name-found : r ≡ None → ⊥
    name-found q = end-found s i (str n) name-stands w q

    module _ (e : ℕ) (q : r ≡ Some e) where
      colon : (e < length s) × (get_or s e 0 ≡ 58) × (drop (e + 1) s ≡ put v (put_more_members ms (125 ∷ rest)))
      unfolding name-stands
      colon = there s e 58 _ (ap (λ (m : ℕ). drop m s) (end_is s i (str n) name-stands w e q) ∙ rest_at s i (str n) name-stands)

      pub colon-cut : length s ≤ e → ⊥
      colon-cut l = let k = colon.0 in omega arith

      pub member-there : MembersLeft s rest (member.At (i + 1) (e + 1)) (mcons n v ms)
      member-there = members-at ((there s i 34 _ t).2 ∙ ap (λ (x : Bytes). put_bytes n (34 ∷ 58 ∷ x)) (sym colon.2)) colon.2 g

pub name-after : (s : Bytes) (i : ℕ) (r : Option ℕ) → EndsAt s i r → (e : ℕ) → r ≡ Some e → e < length s → MemberAfter s i (member.At (i + 1) (e + 1))
name-after s i r w e q h = let k = place_after s i r w.onward e q in (omega arith, omega (arith, k.0), omega arith)

-- the ways out of `member_at`
module _ (s : Bytes) (i : ℕ) (r : Option ℕ) (w : EndsAt s i r) where
  pub member_none : r ≡ None → MemberAt s i member.NoObject
  member_none q = record { means = λ n v ms rest t g. absurd (name-found s i n v ms rest t g r w q); onward = tt; place = tt }

  module _ (e : ℕ) (q : r ≡ Some e) where
    pub member_cut : length s ≤ e → MemberAt s i member.NoObject
    member_cut h = record { means = λ n v ms rest t g. absurd (colon-cut s i n v ms rest t g r w e q h); onward = tt; place = tt }

    pub member_found : e < length s → MemberAt s i (member.At (i + 1) (e + 1))
    member_found h = record { means = λ n v ms rest t g. member-there s i n v ms rest t g r w e q; onward = name-after s i r w e q h; place = refl }

pub ruleset member_rules = (member_none, member_cut, member_found)

-- a member that was found
pub member-after : (s : Bytes) (p : ℕ) (r : Member) → MemberAfter s p r → (i j : ℕ) → r ≡ member.At i j → (p < i) × (i < j) × (j ≤ length s)
member-after s p r a i j q = rw q at a

-- a name just past i
pub name-later : (r : Member) {i p : ℕ} → NameAt r (i + 1) → i ≡ p → NameAt r (p + 1)
name-later r n e = rw e at n

-- what is left of the text, for a loop's measure
abbrev pub ahead : Bytes → Member → ℕ
ahead s member.NoObject = 0
ahead s (member.End e) = 0
ahead s (member.At i j) = suc (length s - j)

pub ahead-less : (s : Bytes) (m : Member) (i j : ℕ) → m ≡ member.At i j → (r : Member) → MemberAfter s j r → ahead s r < ahead s m
ahead-less s m i j q r a = rw q (go r a)
  where
    go : (r : Member) → MemberAfter s j r → ahead s r < suc (length s - j)
    go member.NoObject a = omega arith
    go (member.End e) a = omega arith
    go (member.At n v) a = let x = a.0 in let y = a.1 in let z = a.2 in omega arith

-- what lies after i lies after a place before i
pub after-later : (s : Bytes) (p i : ℕ) → p < i → (r : Member) → MemberAfter s i r → MemberAfter s p r
after-later s p i h member.NoObject a = tt
after-later s p i h (member.End e) a = let z = a.0 in (omega arith, a.1)
after-later s p i h (member.At n v) a = let z = a.0 in (omega arith, a.1, a.2)

-- ## Members in order

pub more-members-free : (ms : Members) (r : Bytes) → NoDigit (put_more_members ms (125 ∷ r))
more-members-free mnil r = rw more-members-nil refl
more-members-free (mcons n v ms) r = rw more-members-cons refl

member-before : (s : Bytes) (j : ℕ) (n : Bytes) (v : Json) (ms : Members) (rest : Bytes) → drop j s ≡ put v (put_more_members ms (125 ∷ rest)) → ValidMembers (mcons n v ms) max_depth → Stands s j v
unfolding Valid
member-before s j n v ms rest t g = record { rest = put_more_members ms (125 ∷ rest); text = t; free = more-members-free ms rest; valid = g.1 }

-- a member that is the first of those left: its value stands at its place, and its name is read at its own
module _ {s rest : Bytes} {i j : ℕ} {n : Bytes} {v : Json} {ms : Members} where
  pub member-stands : MembersLeft s rest (member.At i j) (mcons n v ms) → Stands s j v
  member-stands (members-at t u g) = member-before s j n v ms rest u g

  pub member-name : MembersLeft s rest (member.At i j) (mcons n v ms) → raw (drop i s) ≡ n
  member-name (members-at t u g) = ap raw t ∙ raw-bytes n _

-- what stands past a bracket or a comma
data MembersOpen (s rest : Bytes) : Element → Option Members → Type 0 where
  open_none : MembersOpen s rest element.NoArray None
  open_end : {e : ℕ} → drop e s ≡ rest → MembersOpen s rest (element.End e) (Some mnil)
  open_at : {i : ℕ} {n : Bytes} {v : Json} {ms : Members} → drop i s ≡ MemberText n v ms rest → ValidMembers (mcons n v ms) max_depth
      → MembersOpen s rest (element.At i) (Some (mcons n v ms))

members-by : {s rest : Bytes} (r : Member) {e : Element} {o : Option Members} → MembersOpen s rest e o → MemberBy s e r → MembersOf s rest r o
members-by r open_none q = q
members-by r (open_end t) q = rw q (members-end t)
members-by {rest = rest} r (open_at {n = n} {v = v} {ms = ms} t g) m = m.means n v ms rest t g

module _ (s : Bytes) (p : ℕ) where
  first-members : {e : Element} → Opens s p 123 125 e → (v : Json) (h : Stands s p v) → MembersOpen s h.rest e (members v)
  unfolding members Valid
  first-members o jnull h = rw (o.is ∙ opens-no s p jnull h 123 125 refl refl) open_none
  first-members o jtrue h = rw (o.is ∙ opens-no s p jtrue h 123 125 refl refl) open_none
  first-members o jfalse h = rw (o.is ∙ opens-no s p jfalse h 123 125 refl refl) open_none
  first-members o (num true ds) h = rw (o.is ∙ opens-no s p (num true ds) h 123 125 refl refl) open_none
  first-members o (num false ds) h = rw (o.is ∙ opens-no s p (num false ds) h 123 125 refl refl) open_none
  first-members o (str b) h = rw (o.is ∙ opens-no s p (str b) h 123 125 refl refl) open_none
  first-members o (arr xs) h = rw (o.is ∙ opens-no s p (arr xs) h 123 125 refl refl) open_none
  first-members {e} o (obj mnil) h =
      let t : drop p s ≡ 123 ∷ 125 ∷ h.rest = h.text ∙ put-obj mnil _ ∙ ap (λ (x : Bytes). 123 ∷ x) (members-nil _) in
      let k : e ≡ element.End (p + 1 + 1) = o.is ∙ ap (λ (x : Bytes). opens 123 125 p x) t ∙ opens-on 123 125 p _ ∙ closes-end 125 _ _ _ in
      rw k (open_end (there s (p + 1) 125 _ (there s p 123 _ t).2).2)
  first-members {e} o (obj (mcons n u ms)) h =
      let g : ValidMembers (mcons n u ms) max_depth = deeper (obj (mcons n u ms)) max_depth h.valid in
      let q : drop p s ≡ 123 ∷ MemberText n u ms h.rest = h.text ∙ put-obj (mcons n u ms) _ ∙ ap (λ (x : Bytes). 123 ∷ x) (members-cons n u ms _) in
      let k : e ≡ element.At (p + 1) = o.is ∙ ap (λ (x : Bytes). opens 123 125 p x) q ∙ opens-on 123 125 p _ ∙ closes-on 125 _ (p + 1) 34 _ refl in
      rw k (open_at (there s p 123 _ q).2 g)

  next-members : {f : Option ℕ} {r : Element} → Follows s p 125 f r → KnownEnd s p f
      → {rest : Bytes} (i : ℕ) (n : Bytes) (v : Json) (ms : Members) → MembersLeft s rest (member.At i p) (mcons n v ms) → MembersOpen s rest r (Some ms)
  unfolding Valid member-before
  next-members {r = r} w known {rest} i n v ms l = go ms l
    where
      go : (us : Members) → MembersLeft s rest (member.At i p) (mcons n v us) → MembersOpen s rest r (Some us)
      go mnil (members-at t u g) =
          let h = member-before s p n v mnil rest u g in
          let e = length s - length h.rest in
          let c = more-members-nil (125 ∷ rest) in
          let k : r ≡ element.End (e + 1) = w.means known v h ∙ ap (λ (x : Bytes). closes 125 (e + 1) (e + 1) x) c ∙ closes-end 125 _ _ _ in
          rw k (open_end (there s e 125 _ (rest_at s p v h ∙ c)).2)
      go (mcons m x us) (members-at t u g) =
          let h = member-before s p n v (mcons m x us) rest u g in
          let e = length s - length h.rest in
          let c = more-members-cons m x us (125 ∷ rest) in
          let k : r ≡ element.At (e + 1) = w.means known v h ∙ ap (λ (x : Bytes). closes 125 (e + 1) (e + 1) x) c ∙ closes-on 125 _ (e + 1) 44 _ refl in
          rw k (open_at (there s e 44 _ (rest_at s p v h ∙ c)).2 (g.2.1, g.2.2, g.2.3))

-- ## The member that a bracket or a comma leads to

module _ (s : Bytes) (p : ℕ) (r : Member) where
  by-after : (e : Element) → MemberBy s e r → ElementAfter s p e → MemberAfter s p r
  by-after element.NoArray q a = rw q tt
  by-after (element.End e) q a = rw q a
  by-after (element.At i) m a = after-later s p i a.0 r m.onward

  by-name : (e : Element) → MemberBy s e r → ((i : ℕ) → e ≡ element.At i → i ≡ p + 1) → NameAt r (p + 1 + 1)
  by-name element.NoArray q k = rw q tt
  by-name (element.End e) q k = rw q tt
  by-name (element.At i) m k = name-later r m.place (k i refl)

module _ (s : Bytes) (p : ℕ) (e : Element) (r : Member) (b : MemberBy s e r) where
  pub first_by : Opens s p 123 125 e → FirstMember s p r
  first_by o =
      record {
        means = λ v h. members-by r (first-members s p o v h) b;
        onward = by-after s p r e b o.onward;
        place = by-name s p r e b (opens-place s p 123 125 o);
      }

  pub next-by : {f : Option ℕ} → Follows s p 125 f e → NextMemberBy s p f r
  next-by w =
      let a = by-after s p r e b w.onward in
      record {
        means = λ k.
            record {
              means = λ i n v ms l. members-by r (next-members s p w k i n v ms l) b;
              onward = a;
              place = λ v h. by-name s (length s - length h.rest) r e b (λ i q. follows_place s p 125 e w k i q v h);
            };
        onward = a;
      }
