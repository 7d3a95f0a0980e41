-- A loop over the elements of an array or the members of an object: n are read and gave `acc`, and what is left decides the whole.
use mathlib.Core.Path.{◌≡◌, refl, sym, ap, ◌∙◌}
use Rattle.std.specs.declared.option.Option.{Option}
use Rattle.std.specs.declared.option.Option.TheVariants.{None, Some}
use Rattle.canonical_json.specs.Options.{bind}
use mathlib.Core.List.{List, [], ◌∷◌, ◌++◌, append_assoc, append-nil}
use mathlib.Core.Bool.{Bool, true, false, ◌&&◌}
use Prim.Native.Nat.{ℕ, suc, ◌+◌, ◌≤◌, ◌<◌}
use native.Mathlib.Omega.{arith}
use lib.Dec.{leb}
use lib.ListN.{length, drop}
use borrow.Author.Tests.{le-leb, lt-leb}
use Rattle.base.specs.Bytes.{Bytes}
use Rattle.canonical_json.specs.Json.{Json, Items, inil, icons, Members, mnil, mcons}
use Rattle.canonical_json.specs.Read.{raw}
use Rattle.canonical_json.specs.Fields.{items, members, size, count, keep}
use Rattle.lookup.specs.Place.{Stands, Takes}
use Rattle.lookup.specs.Walk.{ItemsLeft, items-end, items_at, ItemsOf, FirstElement, NextElement, MembersLeft, members-end, members-at, MembersOf, FirstMember, NextMember}
use Rattle.lookup.specs.declared.Element.{Element}
use Rattle.lookup.specs.declared.Element.TheVariants as element
use Rattle.lookup.specs.declared.Member.{Member}
use Rattle.lookup.specs.declared.Member.TheVariants as member
use Rattle.lookup.proofs.ItemLaws.{item-stands}
use Rattle.lookup.proofs.MemberLaws.{member-stands, member-name}
use Rattle.rules.specs.Take.{◌>>=◌, each, each_named}
use Rattle.forms.specs.Each.{each_item, each_member}

-- ## What the parts say, one after the other

-- all of them, if each says something
unfoldable pub every : {A : Type 0} → List (Option A) → Option (List A)
every [] = Some []
every (o ∷ os) = o >>= λ a. every os >>= λ more. Some (a ∷ more)

module _ {A : Type 0} (lo hi : ℕ) where
  -- n before them said acc
  unfoldable pub left : ℕ → List A → List (Option A) → Option (List A)
  left n acc os = keep (leb lo (n + length os) && leb (n + length os) hi) os >>= λ os. every os >>= λ more. Some (acc ++ more)

  pub left-all : (os : List (Option A)) → (keep (leb lo (length os) && leb (length os) hi) os >>= every) ≡ left 0 [] os
  unfolding left bind
  left-all os =
      let z : length os ≡ 0 + length os = omega arith in
      ap (λ (n : ℕ). keep (leb lo n && leb n hi) os >>= every) z ∙ go (keep (leb lo (0 + length os) && leb (0 + length os) hi) os)
    where
      whole : (o : Option (List A)) → o ≡ (o >>= λ more. Some ([] ++ more))
      whole None = refl
      whole (Some x) = refl

      go : (o : Option (List (Option A))) → (o >>= every) ≡ (o >>= λ os. every os >>= λ more. Some ([] ++ more))
      go None = refl
      go (Some xs) = whole (every xs)

  module _ (n : ℕ) (acc : List A) where
    out : (os : List (Option A)) → leb lo (n + length os) && leb (n + length os) hi ≡ false → left n acc os ≡ None
    unfolding left keep bind
    out os e = rw e

    right-false : (a b : Bool) → b ≡ false → a && b ≡ false
    right-false true b e = e
    right-false false b e = refl

    pub left-full : (o : Option A) (os : List (Option A)) → hi ≤ n → left n acc (o ∷ os) ≡ None
    left-full o os h = out (o ∷ os) (right-false (leb lo (n + suc (length os))) _ (lt-leb (n + suc (length os)) hi (omega arith)))

    pub left-few : n < lo → left n acc [] ≡ None
    left-few h = out [] (rw (lt-leb lo (n + 0) (omega arith)) refl)

    pub left_over : lo ≤ n → n ≤ hi → left n acc [] ≡ Some acc
    unfolding left keep bind every
    left_over l h = rw (le-leb lo (n + 0) (omega arith), le-leb (n + 0) hi (omega arith)) (ap Some (append-nil acc))

    pub left-broken : (o : Option A) (os : List (Option A)) → o ≡ None → left n acc (o ∷ os) ≡ None
    unfolding left keep bind every
    left-broken o os e = rw e (go (leb lo (n + suc (length os)) && leb (n + suc (length os)) hi))
      where
        go : (b : Bool) → (keep b (None ∷ os) >>= λ os. every os >>= λ more. Some (acc ++ more)) ≡ None
        go true = refl
        go false = refl

    pub left-next : (o : Option A) (os : List (Option A)) (a : A) → o ≡ Some a → left n acc (o ∷ os) ≡ left (n + 1) (acc ++ (a ∷ [])) os
    unfolding left keep bind every
    left-next o os a e =
        let z : n + suc (length os) ≡ n + 1 + length os = omega arith in
        rw (e, z) (go (leb lo (n + 1 + length os) && leb (n + 1 + length os) hi))
      where
        last : (o : Option (List A)) → ((o >>= λ more. Some (a ∷ more)) >>= λ more. Some (acc ++ more)) ≡ (o >>= λ more. Some ((acc ++ (a ∷ [])) ++ more))
        last None = refl
        last (Some x) = ap Some (sym (append_assoc acc (a ∷ []) x))

        go : (b : Bool) → (keep b (Some a ∷ os) >>= λ os. every os >>= λ more. Some (acc ++ more)) ≡ (keep b os >>= λ os. every os >>= λ more. Some ((acc ++ (a ∷ [])) ++ more))
        go true = last (every os)
        go false = refl

-- ## Elements of an array

module _ {A : Type 0} (f : Json → Option A) where
  unfoldable pub said : Items → List (Option A)
  said inil = []
  said (icons v vs) = f v ∷ said vs

  said-size : (xs : Items) → size xs ≡ length (said xs)
  unfolding said size
  said-size inil = refl
  said-size (icons v vs) = ap suc (said-size vs)

  said_each : (xs : Items) → each f xs ≡ every (said xs)
  unfolding said each every
  said_each inil = refl
  said_each (icons v vs) = rw (said_each vs) refl

  module _ (lo hi : ℕ) (s : Bytes) where
    -- the elements that are left, from e on, decide the whole
    abbrev pub ItemsWalk : Element → ℕ → List A → Option (List A) → Type 0
    ItemsWalk element.NoArray n acc whole = whole ≡ None
    ItemsWalk (element.End e) n acc whole = whole ≡ left lo hi n acc []
    ItemsWalk (element.At i) n acc whole =
        (v : Json) × (vs : Items) × ((rest : Bytes) × ItemsLeft s rest (element.At i) (icons v vs)) × (whole ≡ left lo hi n acc (f v ∷ said vs))

    items-walk : {rest : Bytes} {e : Element} {xs : Items} (n : ℕ) (acc : List A) → ItemsLeft s rest e xs → ItemsWalk e n acc (left lo hi n acc (said xs))
    unfolding said
    items-walk n acc (items-end t) = refl
    items-walk {rest} n acc (items_at {v = v} {vs = vs} t g) = (v, vs, (rest, items_at t g), refl)

    pub items-first : {p : ℕ} (e : Element) → FirstElement s p e → (v : Json) → Stands s p v → ItemsWalk e 0 [] (each_item lo hi f v)
    unfolding each_item bind keep
    items-first e w v h = go (items v) (w.means v h)
      where
        kept : (b : Bool) (xs : Items) → (keep b xs >>= each f) ≡ (keep b (said xs) >>= every)
        kept true xs = said_each xs
        kept false xs = refl

        go : (o : Option Items) → ItemsOf s h.rest e o → ItemsWalk e 0 [] (o >>= λ xs. keep (leb lo (size xs) && leb (size xs) hi) xs >>= each f)
        go None q = rw q refl
        go (Some xs) l = rw (kept (leb lo (size xs) && leb (size xs) hi) xs, said-size xs, left-all lo hi (said xs)) (items-walk 0 [] l)

    module _ (e : Element) (n : ℕ) (acc : List A) (whole : Option (List A)) (w : ItemsWalk e n acc whole) where
      pub items-none : e ≡ element.NoArray → None ≡ whole
      items-none q = sym (rw q at w)

      pub items-few : (j : ℕ) → e ≡ element.End j → n < lo → None ≡ whole
      items-few j q h = sym (rw q at w ∙ left-few lo hi n acc h)

      pub items-over : (j : ℕ) → e ≡ element.End j → lo ≤ n → n ≤ hi → Some acc ≡ whole
      items-over j q l h = sym (rw q at w ∙ left_over lo hi n acc l h)

      module _ (i : ℕ) (q : e ≡ element.At i) where
        here : ItemsWalk (element.At i) n acc whole
        here = rw q at w

        pub items-full : hi ≤ n → None ≡ whole
        items-full h = sym (here.3 ∙ left-full lo hi n acc _ _ h)

        pub items-broken : Takes s i f None → None ≡ whole
        items-broken t = sym (here.3 ∙ left-broken lo hi n acc _ _ (sym (t here.0 (item-stands here.2.1))))

        pub items-next : (a : A) → Takes s i f (Some a) → (e' : Element) → NextElement s i e' → ItemsWalk e' (n + 1) (acc ++ (a ∷ [])) whole
        items-next a t e' x =
            rw (here.3, left-next lo hi n acc (f here.0) (said here.1) a (sym (t here.0 (item-stands here.2.1))))
            (items-walk (n + 1) (acc ++ (a ∷ [])) (x.means here.0 here.1 here.2.1))

-- ## Members of an object

module _ {A : Type 0} (f : Bytes → Json → Option A) where
  unfoldable pub named : Members → List (Option A)
  named mnil = []
  named (mcons n v ms) = f n v ∷ named ms

  named_count : (ms : Members) → count ms ≡ length (named ms)
  unfolding named count
  named_count mnil = refl
  named_count (mcons n v ms) = ap suc (named_count ms)

  named-each : (ms : Members) → each_named f ms ≡ every (named ms)
  unfolding named each_named every
  named-each mnil = refl
  named-each (mcons n v ms) = rw (named-each ms) refl

  module _ (lo hi : ℕ) (s : Bytes) where
    abbrev pub MembersWalk : Member → ℕ → List A → Option (List A) → Type 0
    MembersWalk member.NoObject n acc whole = whole ≡ None
    MembersWalk (member.End e) n acc whole = whole ≡ left lo hi n acc []
    MembersWalk (member.At i j) n acc whole =
        (k : Bytes) × (v : Json) × (ms : Members) × ((rest : Bytes) × MembersLeft s rest (member.At i j) (mcons k v ms)) × (whole ≡ left lo hi n acc (f k v ∷ named ms))

    members-walk : {rest : Bytes} {m : Member} {ms : Members} (n : ℕ) (acc : List A) → MembersLeft s rest m ms → MembersWalk m n acc (left lo hi n acc (named ms))
    unfolding named
    members-walk n acc (members-end t) = refl
    members-walk {rest} n acc (members-at {n = k} {v = v} {ms = ms} t u g) = (k, v, ms, (rest, members-at t u g), refl)

    pub members-first : {p : ℕ} (m : Member) → FirstMember s p m → (v : Json) → Stands s p v → MembersWalk m 0 [] (each_member lo hi f v)
    unfolding each_member bind keep
    members-first m w v h = go (members v) (w.means v h)
      where
        kept : (b : Bool) (ms : Members) → (keep b ms >>= each_named f) ≡ (keep b (named ms) >>= every)
        kept true ms = named-each ms
        kept false ms = refl

        go : (o : Option Members) → MembersOf s h.rest m o → MembersWalk m 0 [] (o >>= λ ms. keep (leb lo (count ms) && leb (count ms) hi) ms >>= each_named f)
        go None q = rw q refl
        go (Some ms) l = rw (kept (leb lo (count ms) && leb (count ms) hi) ms, named_count ms, left-all lo hi (named ms)) (members-walk 0 [] l)

    module _ (m : Member) (n : ℕ) (acc : List A) (whole : Option (List A)) (w : MembersWalk m n acc whole) where
      pub members-none : m ≡ member.NoObject → None ≡ whole
      members-none q = sym (rw q at w)

      pub members-few : (e : ℕ) → m ≡ member.End e → n < lo → None ≡ whole
      members-few e q h = sym (rw q at w ∙ left-few lo hi n acc h)

      pub members-over : (e : ℕ) → m ≡ member.End e → lo ≤ n → n ≤ hi → Some acc ≡ whole
      members-over e q l h = sym (rw q at w ∙ left_over lo hi n acc l h)

      -- the name is read at i, the value stands at j
      module _ (i j : ℕ) (q : m ≡ member.At i j) where
        there : MembersWalk (member.At i j) n acc whole
        there = rw q at w

        said-there : (o : Option A) → Takes s j (f (raw (drop i s))) o → f there.0 there.1 ≡ o
        said-there o t = ap (λ (k : Bytes). f k there.1) (sym (member-name there.3.1)) ∙ sym (t there.1 (member-stands there.3.1))

        pub members-full : hi ≤ n → None ≡ whole
        members-full h = sym (there.4 ∙ left-full lo hi n acc _ _ h)

        pub members-broken : Takes s j (f (raw (drop i s))) None → None ≡ whole
        members-broken t = sym (there.4 ∙ left-broken lo hi n acc _ _ (said-there None t))

        pub members-next : (a : A) → Takes s j (f (raw (drop i s))) (Some a) → (m' : Member) → NextMember s j m' → MembersWalk m' (n + 1) (acc ++ (a ∷ [])) whole
        members-next a t m' x =
            rw (there.4, left-next lo hi n acc (f there.0 there.1) (named there.2) a (said-there (Some a) t))
            (members-walk (n + 1) (acc ++ (a ∷ [])) (x.means i there.0 there.1 there.2 there.3.1))
