-- The reading of elements between commas, at places of the text.
use mathlib.Core.Path.{◌≡◌}
use Rattle.std.specs.declared.option.Option.{Option}
use Prim.Native.Nat.{ℕ, ◌≤◌, ◌<◌, ◌+◌}
use native.Mathlib.Omega.{arith}
use lib.ListN.{length, drop, get_or}
use lib.Dec.{eqb}
use borrow.Author.Tests.{eq-eqb, ne_eqb}
use Rattle.base.specs.Bytes.{Bytes}
use Rattle.base.proofs.PlaceLaws.{at-cons, at-end}
use Rattle.canonical_json.specs.Json.{Json, Items, inil, icons, Members, mnil}
use Rattle.canonical_json.specs.Read.{Got, bad, got, end_of, also, then, front, choose, loop, elements, body, item, same, Member, member, named, mcons', read, array}
use Rattle.std.specs.declared.option.Option.TheVariants.{None, Some}
use Rattle.canonical_json.proofs.Place.{ends_at, ends-also}
use Rattle.canonical_json.proofs.Rest.{Fits, Located, located, refused, elements-step, read_fits, member-fits}

-- what is read between commas, and up to which byte
pub record Shape (P A B : Type 0) : Type 0 where
  pub rd : P → Bytes → Got A
  pub next : P → A → P
  pub nil : B
  pub cons : A → B → B
  pub close : ℕ
  pub fits : (p : P) (t : Bytes) → Fits t (rd p t)

abbrev pub elements_of : {P A B : Type 0} → Shape P A B → P → Bytes → Got B
elements_of l p t = elements l.rd l.next l.nil l.cons l.close p t

abbrev pub body_of : {P A B : Type 0} → Shape P A B → P → Bytes → Got B
body_of l p t = body l.rd l.next l.nil l.cons l.close p t

-- an array's elements, and an object's members, which may go d deep
abbrev pub arrays : ℕ → Shape (Unit {0}) Json Items
arrays d = record { rd = item (read d); next = same; nil = inil; cons = icons; close = 93; fits = λ _. read_fits d }

abbrev pub objects : ℕ → Shape (Option (Bytes)) Member Members
objects d = record { rd = member (read d); next = named; nil = mnil; cons = mcons'; close = 125; fits = member-fits (read d) (read_fits d) }

module _ {P A B : Type 0} (l : Shape P A B) (s : Bytes) (p : P) where
  step : (p : P) (t : Bytes) → elements_of l p t ≡
      then (l.rd p t) (λ a r. front r (λ c q.
      choose (eqb c l.close) (λ _. got (l.cons a l.nil) q)
      (λ _. choose (eqb c 44) (λ _. also (λ b. l.cons a b) (elements_of l (l.next p a) q)) (λ _. bad))))
  step = elements-step l.rd l.next l.nil l.cons l.close l.fits

  -- ## The opening bracket is passed, at `i`: equations between readings
  pub over' : (i : ℕ) → length s ≤ i → body_of l p (drop i s) ≡ bad
  unfolding body
  over' i h = rw (at-end s i h)

  pub empty' : (i : ℕ) → i < length s → get_or s i 0 ≡ l.close → body_of l p (drop i s) ≡ got l.nil (drop (i + 1) s)
  unfolding body
  empty' i h e = rw (at-cons s i h, eq-eqb _ _ e)

  pub begun' : (i : ℕ) → i < length s → (get_or s i 0 ≡ l.close → ⊥) → body_of l p (drop i s) ≡ elements_of l p (drop i s)
  unfolding body
  begun' i h f = rw (at-cons s i h, ne_eqb _ _ f)

  -- ## An element is to begin at `i`
  pub spent' : (i : ℕ) → length s ≤ i → elements_of l p (drop i s) ≡ bad
  unfolding loop
  spent' i h = rw (at-end s i h)

  pub no_element' : (i : ℕ) → end_of (length s) (l.rd p (drop i s)) ≡ None → elements_of l p (drop i s) ≡ bad
  no_element' i h = rw (step p (drop i s), refused (length s) (l.rd p (drop i s)) h)

  -- what follows the element at `i`, which ends at `e`
  module _ (i e : ℕ) (h : end_of (length s) (l.rd p (drop i s)) ≡ Some e) where
    pub element : Located s i (l.rd p (drop i s)) e
    element = located s i e (l.fits p (drop i s)) h

    pub cut' : length s ≤ e → elements_of l p (drop i s) ≡ bad
    cut' o = rw (step p (drop i s), element.is, at-end s e o)

    pub last' : e < length s → get_or s e 0 ≡ l.close → elements_of l p (drop i s) ≡ got (l.cons element.value l.nil) (drop (e + 1) s)
    last' o f = rw (step p (drop i s), element.is, at-cons s e o, eq-eqb _ _ f)

    pub stray' : e < length s → (get_or s e 0 ≡ l.close → ⊥) → (get_or s e 0 ≡ 44 → ⊥) → elements_of l p (drop i s) ≡ bad
    stray' o f g = rw (step p (drop i s), element.is, at-cons s e o, ne_eqb _ _ f, ne_eqb _ _ g)

    pub onward' : e < length s → (get_or s e 0 ≡ l.close → ⊥) → get_or s e 0 ≡ 44
        → elements_of l p (drop i s) ≡ also (λ (b : B). l.cons element.value b) (elements_of l (l.next p element.value) (drop (e + 1) s))
    onward' o f g = rw (step p (drop i s), element.is, at-cons s e o, ne_eqb _ _ f, eq-eqb _ _ g)

  -- ## The same, of where a reading ends
  pub over : (i : ℕ) → length s ≤ i → end_of (length s) (body_of l p (drop i s)) ≡ None
  over i h = rw (over' i h)

  pub empty : (i : ℕ) → i < length s → get_or s i 0 ≡ l.close → end_of (length s) (body_of l p (drop i s)) ≡ Some (i + 1)
  empty i h e = rw (empty' i h e) (ends_at s (i + 1) l.nil (omega arith))

  pub begun : (i : ℕ) → i < length s → (get_or s i 0 ≡ l.close → ⊥) → end_of (length s) (body_of l p (drop i s)) ≡ end_of (length s) (elements_of l p (drop i s))
  begun i h f = rw (begun' i h f)

  pub spent : (i : ℕ) → length s ≤ i → end_of (length s) (elements_of l p (drop i s)) ≡ None
  spent i h = rw (spent' i h)

  pub no-element : (i : ℕ) → end_of (length s) (l.rd p (drop i s)) ≡ None → end_of (length s) (elements_of l p (drop i s)) ≡ None
  no-element i h = rw (no_element' i h)

  module _ (i e : ℕ) (h : end_of (length s) (l.rd p (drop i s)) ≡ Some e) where
    pub cut : length s ≤ e → end_of (length s) (elements_of l p (drop i s)) ≡ None
    cut o = rw (cut' i e h o)

    pub last : e < length s → get_or s e 0 ≡ l.close → end_of (length s) (elements_of l p (drop i s)) ≡ Some (e + 1)
    last o f = rw (last' i e h o f) (ends_at s (e + 1) (l.cons (element i e h).value l.nil) (omega arith))

    pub stray : e < length s → (get_or s e 0 ≡ l.close → ⊥) → (get_or s e 0 ≡ 44 → ⊥) → end_of (length s) (elements_of l p (drop i s)) ≡ None
    stray o f g = rw (stray' i e h o f g)

    pub onward : e < length s → (get_or s e 0 ≡ l.close → ⊥) → get_or s e 0 ≡ 44
        → end_of (length s) (elements_of l p (drop i s)) ≡ end_of (length s) (elements_of l (l.next p (element i e h).value) (drop (e + 1) s))
    onward o f g =
        rw (onward' i e h o f g)
        (ends-also (length s) (λ (b : B). l.cons (element i e h).value b) (elements_of l (l.next p (element i e h).value) (drop (e + 1) s)))

-- ## The same, of an array

module _ (d : ℕ) (s : Bytes) (i : ℕ) where
  pub array_over : length s ≤ i → end_of (length s) (array (read d) (drop i s)) ≡ None
  array_over = over (arrays d) s tt i

  pub array_empty : i < length s → get_or s i 0 ≡ 93 → end_of (length s) (array (read d) (drop i s)) ≡ Some (i + 1)
  array_empty = empty (arrays d) s tt i

  pub array_begun : i < length s → (get_or s i 0 ≡ 93 → ⊥) → end_of (length s) (array (read d) (drop i s)) ≡ end_of (length s) (elements_of (arrays d) tt (drop i s))
  array_begun = begun (arrays d) s tt i

  pub array_none : end_of (length s) (read d (drop i s)) ≡ None → end_of (length s) (elements_of (arrays d) tt (drop i s)) ≡ None
  array_none = no-element (arrays d) s tt i

  module _ (e : ℕ) (h : end_of (length s) (read d (drop i s)) ≡ Some e) where
    pub array_after : i < e
    array_after = (element (arrays d) s tt i e h).after

    pub array_cut : length s ≤ e → end_of (length s) (elements_of (arrays d) tt (drop i s)) ≡ None
    array_cut = cut (arrays d) s tt i e h

    pub array_last : e < length s → get_or s e 0 ≡ 93 → end_of (length s) (elements_of (arrays d) tt (drop i s)) ≡ Some (e + 1)
    array_last = last (arrays d) s tt i e h

    pub array_stray : e < length s → (get_or s e 0 ≡ 93 → ⊥) → (get_or s e 0 ≡ 44 → ⊥) → end_of (length s) (elements_of (arrays d) tt (drop i s)) ≡ None
    array_stray = stray (arrays d) s tt i e h

    pub array_onward : e < length s → (get_or s e 0 ≡ 93 → ⊥) → get_or s e 0 ≡ 44 → end_of (length s) (elements_of (arrays d) tt (drop i s)) ≡ end_of (length s) (elements_of (arrays d) tt (drop (e + 1) s))
    array_onward = onward (arrays d) s tt i e h

-- what the check of `array` may use
pub ruleset array_rules = (array_over, array_empty, array_begun, array_none, array_after, array_cut, array_last, array_stray, array_onward)
