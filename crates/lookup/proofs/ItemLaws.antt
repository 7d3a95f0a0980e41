-- Brackets at a place of the text, and the elements of an array one after the other.
use mathlib.Core.Path.{◌≡◌, refl, sym, ap, ◌∙◌}
use mathlib.Core.List.{[], ◌∷◌}
use mathlib.Core.Bool.{Bool, true, false, cond}
use Prim.Native.Nat.{ℕ, suc, ◌≤◌, ◌<◌, ◌+◌, ◌-◌}
use native.Mathlib.Omega.{arith}
use lib.Dec.{eqb}
use lib.ListN.{length, drop, get_or}
use borrow.Author.Tests.{eq-eqb, ne_eqb}
use Rattle.base.specs.Bytes.{Bytes, is_digit}
use Rattle.base.proofs.PlaceLaws.{at-cons, at-end}
use Rattle.canonical_json.specs.Json.{Json, jnull, jtrue, jfalse, num, str, arr, obj, Items, inil, icons, put, put_more_items, Valid, ValidItems, max_depth}
use Rattle.canonical_json.specs.Read.{NoDigit}
use Rattle.canonical_json.specs.Fields.{items}
use Rattle.canonical_json.proofs.Puts.{put-arr, items-nil, items-cons, more-items-nil, more-items-cons}
use Rattle.lookup.specs.Place.{Stands, EndsAt, KnownEnd, EndsBy}
use Rattle.lookup.specs.Walk.{closes, opens, Opens, ItemsLeft, items-end, items_at, ItemsOf, ElementAfter, Follows, NextElement}
use Rattle.std.specs.declared.option.Option.{Option}
use Rattle.std.specs.declared.option.Option.TheVariants.{None, Some}
use Rattle.lookup.specs.declared.Element.{Element}
use Rattle.lookup.specs.declared.Element.TheVariants.{NoArray, End, At}
use Rattle.canonical_json.proofs.Deeper.{deeper}
use Rattle.lookup.proofs.FirstByte.{begins_with, begins, not-closing}
use Rattle.lookup.proofs.StandsLaws.{there, front, rest_at, end-found, end_is}

-- ## Brackets

module _ (close e j : ℕ) where
  pub closes-end : (t : Bytes) → closes close e j (close ∷ t) ≡ End e
  unfolding closes
  closes-end t = rw (eq-eqb close close refl)

  pub closes-on : (b : ℕ) (t : Bytes) → eqb b close ≡ false → closes close e j (b ∷ t) ≡ At j
  unfolding closes
  closes-on b t n = rw n

  module _ (s : Bytes) (i : ℕ) where
    pub close-cut : length s ≤ i → closes close e j (drop i s) ≡ NoArray
    unfolding closes
    close-cut h = rw (at-end s i h)

    pub close-here : i < length s → get_or s i 0 ≡ close → closes close e j (drop i s) ≡ End e
    close-here h b = rw (at-cons s i h, b) (closes-end (drop (i + 1) s))

    pub close-later : i < length s → (get_or s i 0 ≡ close → ⊥) → closes close e j (drop i s) ≡ At j
    close-later h n = rw (at-cons s i h) (closes-on (get_or s i 0) (drop (i + 1) s) (ne_eqb _ _ n))

module _ (start close p : ℕ) where
  pub opens-on : (t : Bytes) → opens start close p (start ∷ t) ≡ closes close (p + 1 + 1) (p + 1) t
  unfolding opens
  opens-on t = rw (eq-eqb start start refl)

  pub opens_not : (b : ℕ) (t : Bytes) → eqb b start ≡ false → opens start close p (b ∷ t) ≡ NoArray
  unfolding opens
  opens_not b t e = rw e

  module _ (s : Bytes) where
    pub open_cut : length s ≤ p → opens start close p (drop p s) ≡ NoArray
    unfolding opens
    open_cut h = rw (at-end s p h)

    pub open_not : p < length s → (get_or s p 0 ≡ start → ⊥) → opens start close p (drop p s) ≡ NoArray
    open_not h e = rw (at-cons s p h) (opens_not (get_or s p 0) (drop (p + 1) s) (ne_eqb _ _ e))

    pub open_here : p < length s → get_or s p 0 ≡ start → opens start close p (drop p s) ≡ closes close (p + 1 + 1) (p + 1) (drop (p + 1) s)
    open_here h e = rw (at-cons s p h, e) (opens-on (drop (p + 1) s))

    -- the ways out of `opened`
    pub opened_cut : length s ≤ p → Opens s p start close NoArray
    opened_cut h = record { is = sym (open_cut h); onward = tt }

    module _ (h : p < length s) where
      pub opened_not : (get_or s p 0 ≡ start → ⊥) → Opens s p start close NoArray
      opened_not e = record { is = sym (open_not h e); onward = tt }

      module _ (e : get_or s p 0 ≡ start) where
        pub opened_end : length s ≤ p + 1 → Opens s p start close NoArray
        opened_end k = record { is = sym (open_here h e ∙ close-cut close (p + 1 + 1) (p + 1) s (p + 1) k); onward = tt }

        pub opened_none : p + 1 < length s → get_or s (p + 1) 0 ≡ close → Opens s p start close (End (p + 1 + 1))
        opened_none k f = record { is = sym (open_here h e ∙ close-here close (p + 1 + 1) (p + 1) s (p + 1) k f); onward = (omega arith, omega arith) }

        pub opened_some : p + 1 < length s → (get_or s (p + 1) 0 ≡ close → ⊥) → Opens s p start close (At (p + 1))
        opened_some k f = record { is = sym (open_here h e ∙ close-later close (p + 1 + 1) (p + 1) s (p + 1) k f); onward = (omega arith, omega arith) }

pub ruleset opened_rules = (opened_cut, opened_not, opened_end, opened_none, opened_some)

-- a value that does not begin with the opening byte
pub opens-no : (s : Bytes) (p : ℕ) (v : Json) → Stands s p v → (start close : ℕ) → is_digit start ≡ false → begins_with start v ≡ false → opens start close p (drop p s) ≡ NoArray
opens-no s p v h start close n e =
    let b = front s p v h in
    ap (λ (t : Bytes). opens start close p t) b.is ∙ opens_not start close p b.first b.others (b.with start n ∙ e)

-- what follows a value, by where it ends
pub follows_by : (s : Bytes) (p close : ℕ) {f : Option ℕ} → EndsAt s p f → (e : ℕ) → f ≡ Some e → (r : Element) → r ≡ closes close (e + 1) (e + 1) (drop e s)
    → (v : Json) (h : Stands s p v) → r ≡ closes close (length s - length h.rest + 1) (length s - length h.rest + 1) h.rest
follows_by s p close w e q r k v h =
    k ∙ ap (λ (n : ℕ). closes close (n + 1) (n + 1) (drop n s)) (end_is s p v h w e q)
    ∙ ap (λ (t : Bytes). closes close (length s - length h.rest + 1) (length s - length h.rest + 1) t) (rest_at s p v h)

-- the ways out of `following`
module _ (s : Bytes) (p close : ℕ) (f : Option ℕ) where
  pub following_none : EndsBy s p f None → Follows s p close f NoArray
  following_none w = record { means = λ k v h. absurd (end-found s p v h (w.means k) refl); onward = tt }

  module _ (e : ℕ) (w : EndsBy s p f (Some e)) where
    pub following_cut : length s ≤ e → Follows s p close f NoArray
    following_cut h = record { means = λ k. follows_by s p close (w.means k) e refl NoArray (sym (close-cut close _ _ s e h)); onward = tt }

    pub following_end : e < length s → get_or s e 0 ≡ close → Follows s p close f (End (e + 1))
    following_end h b = record { means = λ k. follows_by s p close (w.means k) e refl _ (sym (close-here close _ _ s e h b)); onward = (omega (arith, w.onward.0), omega arith) }

    pub following_at : e < length s → (get_or s e 0 ≡ close → ⊥) → Follows s p close f (At (e + 1))
    following_at h b = record { means = λ k. follows_by s p close (w.means k) e refl _ (sym (close-later close _ _ s e h b)); onward = (omega (arith, w.onward.0), omega arith) }

-- where the next element begins
closes-place : (close past j : ℕ) (t : Bytes) (i : ℕ) → closes close past j t ≡ At i → i ≡ j
unfolding closes
closes-place close past j [] i e = let z : ◌≡◌ {A = ℕ} 0 1 = cc in absurd (omega arith)
closes-place close past j (b ∷ t) i e = go (eqb b close) e
  where
    go : (x : Bool) → cond x (End past) (At j) ≡ At i → i ≡ j
    go true e = let z : ◌≡◌ {A = ℕ} 0 1 = cc in absurd (omega arith)
    go false e = cc

pub opens-place : (s : Bytes) (p start close : ℕ) {r : Element} → Opens s p start close r → (i : ℕ) → r ≡ At i → i ≡ p + 1
unfolding opens
opens-place s p start close o i q = go (drop p s) (sym o.is ∙ q)
  where
    at : (b : ℕ) (t : Bytes) (x : Bool) → cond x (closes close (p + 1 + 1) (p + 1) t) NoArray ≡ At i → i ≡ p + 1
    at b t true e = closes-place close (p + 1 + 1) (p + 1) t i e
    at b t false e = let z : ◌≡◌ {A = ℕ} 0 1 = cc in absurd (omega arith)

    go : (t : Bytes) → opens start close p t ≡ At i → i ≡ p + 1
    go [] e = let z : ◌≡◌ {A = ℕ} 0 1 = cc in absurd (omega arith)
    go (b ∷ t) e = at b t (eqb b start) e

pub follows_place : (s : Bytes) (j close : ℕ) {f : Option ℕ} (r : Element) → Follows s j close f r → KnownEnd s j f
    → (i : ℕ) → r ≡ At i → (v : Json) (h : Stands s j v) → i ≡ length s - length h.rest + 1
follows_place s j close r w k i q v h = closes-place close _ (length s - length h.rest + 1) h.rest i (sym (w.means k v h) ∙ q)

-- ## Elements

-- an element that was found
pub element-after : (s : Bytes) (p : ℕ) (r : Element) → ElementAfter s p r → (i : ℕ) → r ≡ At i → (p < i) × (i ≤ length s)
element-after s p r a i q = rw q at a

-- what is left of the text, for a loop's measure
abbrev pub ahead : Bytes → Element → ℕ
ahead s NoArray = 0
ahead s (End e) = 0
ahead s (At i) = suc (length s - i)

pub ahead-less : (s : Bytes) (e : Element) (i : ℕ) → e ≡ At i → (r : Element) → ElementAfter s i r → ahead s r < ahead s e
ahead-less s e i q r a = rw q (go r a)
  where
    go : (r : Element) → ElementAfter s i r → ahead s r < suc (length s - i)
    go NoArray a = omega arith
    go (End e) a = omega arith
    go (At k) a = let x = a.0 in let y = a.1 in omega arith

pub more-items-free : (vs : Items) (r : Bytes) → NoDigit (put_more_items vs (93 ∷ r))
more-items-free inil r = rw more-items-nil refl
more-items-free (icons v vs) r = rw more-items-cons refl

item-before : (s : Bytes) (i : ℕ) (v : Json) (vs : Items) (rest : Bytes) → drop i s ≡ put v (put_more_items vs (93 ∷ rest)) → ValidItems (icons v vs) max_depth → Stands s i v
unfolding Valid
item-before s i v vs rest t g = record { rest = put_more_items vs (93 ∷ rest); text = t; free = more-items-free vs rest; valid = g.0 }

-- an element that is the first of those left stands at its place
pub item-stands : {s rest : Bytes} {i : ℕ} {v : Json} {vs : Items} → ItemsLeft s rest (At i) (icons v vs) → Stands s i v
item-stands {s} {rest} {i} {v} {vs} (items_at t g) = item-before s i v vs rest t g

module _ (s : Bytes) (p : ℕ) where
  pub first-items : {r : Element} → Opens s p 91 93 r → (v : Json) (h : Stands s p v) → ItemsOf s h.rest r (items v)
  unfolding items Valid
  first-items o jnull h = o.is ∙ opens-no s p jnull h 91 93 refl refl
  first-items o jtrue h = o.is ∙ opens-no s p jtrue h 91 93 refl refl
  first-items o jfalse h = o.is ∙ opens-no s p jfalse h 91 93 refl refl
  first-items o (num true ds) h = o.is ∙ opens-no s p (num true ds) h 91 93 refl refl
  first-items o (num false ds) h = o.is ∙ opens-no s p (num false ds) h 91 93 refl refl
  first-items o (str b) h = o.is ∙ opens-no s p (str b) h 91 93 refl refl
  first-items o (obj ms) h = o.is ∙ opens-no s p (obj ms) h 91 93 refl refl
  first-items {r} o (arr inil) h =
      let t : drop p s ≡ 91 ∷ 93 ∷ h.rest = h.text ∙ put-arr inil _ ∙ ap (λ (x : Bytes). 91 ∷ x) (items-nil _) in
      let k : r ≡ End (p + 1 + 1) = o.is ∙ ap (λ (x : Bytes). opens 91 93 p x) t ∙ opens-on 91 93 p _ ∙ closes-end 93 _ _ _ in
      rw k (items-end (there s (p + 1) 93 _ (there s p 91 _ t).2).2)
  first-items {r} o (arr (icons u us)) h =
      let g : ValidItems (icons u us) max_depth = deeper (arr (icons u us)) max_depth h.valid in
      let t = put_more_items us (93 ∷ h.rest) in
      let b = begins u max_depth t (put u t) g.0 refl in
      let e : drop p s ≡ 91 ∷ put u t = h.text ∙ put-arr (icons u us) _ ∙ ap (λ (x : Bytes). 91 ∷ x) (items-cons u us _) in
      let k : r ≡ At (p + 1) = o.is ∙ ap (λ (x : Bytes). opens 91 93 p x) e ∙ opens-on 91 93 p _ ∙ ap (λ (x : Bytes). closes 93 (p + 1 + 1) (p + 1) x) b.is ∙ closes-on 93 _ (p + 1) _ _ (b.with 93 refl ∙ not-closing u) in
      rw k (items_at (there s p 91 _ e).2 g)

  pub next-items : {f : Option ℕ} {r : Element} → Follows s p 93 f r → KnownEnd s p f
      → {rest : Bytes} (v : Json) (vs : Items) → ItemsLeft s rest (At p) (icons v vs) → ItemsLeft s rest r vs
  unfolding Valid item-before
  next-items {r = r} w known {rest} v vs l = go vs l
    where
      go : (us : Items) → ItemsLeft s rest (At p) (icons v us) → ItemsLeft s rest r us
      go inil (items_at t g) =
          let h = item-before s p v inil rest t g in
          let e = length s - length h.rest in
          let m = more-items-nil (93 ∷ rest) in
          let k : r ≡ End (e + 1) = w.means known v h ∙ ap (λ (x : Bytes). closes 93 (e + 1) (e + 1) x) m ∙ closes-end 93 _ _ _ in
          rw k (items-end (there s e 93 _ (rest_at s p v h ∙ m)).2)
      go (icons u us) (items_at t g) =
          let h = item-before s p v (icons u us) rest t g in
          let e = length s - length h.rest in
          let m = more-items-cons u us (93 ∷ rest) in
          let k : r ≡ At (e + 1) = w.means known v h ∙ ap (λ (x : Bytes). closes 93 (e + 1) (e + 1) x) m ∙ closes-on 93 _ (e + 1) 44 _ refl in
          rw k (items_at (there s e 44 _ (rest_at s p v h ∙ m)).2 g.1)

pub next_of : (s : Bytes) (i : ℕ) (f : Option ℕ) (r : Element) → Follows s i 93 f r → KnownEnd s i f → NextElement s i r
next_of s i f r w k = record { means = next-items s i w k; onward = w.onward; place = λ v h j q. follows_place s i 93 r w k j q v h }
