-- The reading of a member, at places of the text.
use mathlib.Core.Path.{◌≡◌, refl, sym, ap, ◌∙◌}
use mathlib.Core.List.{[], ◌∷◌}
use Rattle.std.specs.declared.option.Option.{Option}
use Rattle.std.specs.declared.option.Option.TheVariants.{Some}
use mathlib.Core.Bool.{true, false}
use Prim.Native.Nat.{ℕ, ◌≤◌, ◌<◌, ◌+◌}
use lib.ListN.{length, drop, get_or}
use lib.Seq.{drop-drop}
use lib.Dec.{eqb}
use borrow.Author.Tests.{ne_eqb}
use Rattle.base.specs.Bytes.{Bytes}
use Rattle.base.proofs.PlaceLaws.{at-cons, at-end}
use Rattle.canonical_json.specs.Json.{Json}
use Rattle.canonical_json.specs.Read.{Got, bad, got, end_of, also, read_str, Member, member, rises, raw, read, object}
use Rattle.std.specs.declared.option.Option.TheVariants.{None, Some}
use Rattle.canonical_json.proofs.Place.{ends-also}
use Rattle.canonical_json.proofs.Cases.{choose-elim, then-elim, front-elim}
use Rattle.canonical_json.proofs.Rest.{Located, located, refused, chars-fits}
use Rattle.canonical_json.proofs.Loops as loops
use Rattle.canonical_json.proofs.Loops.{objects, elements_of}
use Rattle.canonical_json.proofs.NameLaws.{chars-raw}
use Rattle.canonical_json.proofs.Says.{Says, says-bad, says-got, says_of}

module _ (rd : Bytes → Got Json) (p : Option (Bytes)) where
  -- the name of a member that was read is the one in the text
  pub member-name : (t : Bytes) → Says (λ (m : Member) (r : Bytes). raw (drop 1 t) ≡ m.0) (member rd p t)
  unfolding member
  member-name [] = says-bad
  member-name (b ∷ u) =
      choose-elim (Says (λ (m : Member) (r : Bytes). raw u ≡ m.0)) (eqb b 34) _ _
      (λ _. then-elim (Says (λ (m : Member) (r : Bytes). raw u ≡ m.0)) (read_str u) _ says-bad
      (λ n v e. choose-elim (Says (λ (m : Member) (r : Bytes). raw u ≡ m.0)) (rises p n) _ _
      (λ _. front-elim (Says (λ (m : Member) (r : Bytes). raw u ≡ m.0)) v _ says-bad
      (λ c w f. choose-elim (Says (λ (m : Member) (r : Bytes). raw u ≡ m.0)) (eqb c 58) _ _
      (λ _. named n (says_of (rw e at (chars-raw u 0 0 0 (λ z. absurd (z refl))))) (rd w))
      (λ _. says-bad)))
      (λ _. says-bad)))
      (λ _. says-bad)
    where
      named : (n : Bytes) → raw u ≡ n → (g : Got Json) → Says (λ (m : Member) (r : Bytes). raw u ≡ m.0) (also (λ (x : Json). (n, x)) g)
      named n e bad = says-bad
      named n e (got v r) = says-got e

  module _ (s : Bytes) (i : ℕ) where
    pub name-at : {e : ℕ} (l : Located s i (member rd p (drop i s)) e) → raw (drop (i + 1) s) ≡ l.value.0
    name-at l = ap raw (sym (drop-drop 1 i s)) ∙ says_of (rw l.is at (member-name (drop i s)))

    pub over : length s ≤ i → end_of (length s) (member rd p (drop i s)) ≡ None
    unfolding member
    over h = rw (at-end s i h)

    pub no-quote : i < length s → (get_or s i 0 ≡ 34 → ⊥) → end_of (length s) (member rd p (drop i s)) ≡ None
    unfolding member
    no-quote h e = rw (at-cons s i h, ne_eqb (get_or s i 0) 34 e)

    module _ (h : i < length s) (q : get_or s i 0 ≡ 34) where
      pub no_name : end_of (length s) (read_str (drop (i + 1) s)) ≡ None → end_of (length s) (member rd p (drop i s)) ≡ None
      unfolding member
      no_name e = rw (at-cons s i h, q, refused (length s) (read_str (drop (i + 1) s)) e)

      module _ (e : ℕ) (n : end_of (length s) (read_str (drop (i + 1) s)) ≡ Some e) where
        name : Located s (i + 1) (read_str (drop (i + 1) s)) e
        name = located s (i + 1) e (chars-fits (drop (i + 1) s) 0 0 0) n

        is-raw : raw (drop (i + 1) s) ≡ name.value
        is-raw = says_of (rw name.is at (chars-raw (drop (i + 1) s) 0 0 0 (λ z. absurd (z refl))))

        pub disorder : rises p (raw (drop (i + 1) s)) ≡ false → end_of (length s) (member rd p (drop i s)) ≡ None
        unfolding member
        disorder f = let g : rises p name.value ≡ false = rw is-raw at f in rw (at-cons s i h, q, name.is, g)

        pub cut : length s ≤ e → rises p (raw (drop (i + 1) s)) ≡ true → end_of (length s) (member rd p (drop i s)) ≡ None
        unfolding member
        cut o f = let g : rises p name.value ≡ true = rw is-raw at f in rw (at-cons s i h, q, name.is, g, at-end s e o)

        pub no-colon : e < length s → (get_or s e 0 ≡ 58 → ⊥) → rises p (raw (drop (i + 1) s)) ≡ true → end_of (length s) (member rd p (drop i s)) ≡ None
        unfolding member
        no-colon o k f = let g : rises p name.value ≡ true = rw is-raw at f in rw (at-cons s i h, q, name.is, g, at-cons s e o, ne_eqb (get_or s e 0) 58 k)

        pub then-value : e < length s → get_or s e 0 ≡ 58 → rises p (raw (drop (i + 1) s)) ≡ true → end_of (length s) (member rd p (drop i s)) ≡ end_of (length s) (rd (drop (e + 1) s))
        unfolding member
        then-value o k f =
            let g : rises p name.value ≡ true = rw is-raw at f in
            rw (at-cons s i h, q, name.is, g, at-cons s e o, k) (ends-also (length s) (λ (x : Json). (name.value, x)) (rd (drop (e + 1) s)))

-- the member at i is passed, and its name is the one that the next must follow
pub onward : (d : ℕ) (p : Option (Bytes)) (s : Bytes) (i e : ℕ) → end_of (length s) (member (read d) p (drop i s)) ≡ Some e → e < length s → (get_or s e 0 ≡ 125 → ⊥) → get_or s e 0 ≡ 44
    → end_of (length s) (elements_of (objects d) p (drop i s)) ≡ end_of (length s) (elements_of (objects d) (Some (raw (drop (i + 1) s))) (drop (e + 1) s))
onward d p s i e h o f g =
    let n = name-at (read d) p s i (loops.element (objects d) s p i e h) in
    loops.onward (objects d) s p i e h o f g ∙ ap (λ (x : Bytes). end_of (length s) (elements_of (objects d) (Some x) (drop (e + 1) s))) (sym n)

-- ## The same, of an object

module _ (d : ℕ) (s : Bytes) (i : ℕ) where
  pub object_over : length s ≤ i → end_of (length s) (object (read d) (drop i s)) ≡ None
  object_over = loops.over (objects d) s None i

  pub object_empty : i < length s → get_or s i 0 ≡ 125 → end_of (length s) (object (read d) (drop i s)) ≡ Some (i + 1)
  object_empty = loops.empty (objects d) s None i

  pub object_begun : i < length s → (get_or s i 0 ≡ 125 → ⊥) → end_of (length s) (object (read d) (drop i s)) ≡ end_of (length s) (elements_of (objects d) None (drop i s))
  object_begun = loops.begun (objects d) s None i

  module _ (p : Option (Bytes)) where
    pub object_none : end_of (length s) (member (read d) p (drop i s)) ≡ None → end_of (length s) (elements_of (objects d) p (drop i s)) ≡ None
    object_none = loops.no-element (objects d) s p i

    module _ (e : ℕ) (h : end_of (length s) (member (read d) p (drop i s)) ≡ Some e) where
      pub object_after : i < e
      object_after = (loops.element (objects d) s p i e h).after

      pub object_cut : length s ≤ e → end_of (length s) (elements_of (objects d) p (drop i s)) ≡ None
      object_cut = loops.cut (objects d) s p i e h

      pub object_last : e < length s → get_or s e 0 ≡ 125 → end_of (length s) (elements_of (objects d) p (drop i s)) ≡ Some (e + 1)
      object_last = loops.last (objects d) s p i e h

      pub object_stray : e < length s → (get_or s e 0 ≡ 125 → ⊥) → (get_or s e 0 ≡ 44 → ⊥) → end_of (length s) (elements_of (objects d) p (drop i s)) ≡ None
      object_stray = loops.stray (objects d) s p i e h

      pub object_onward : e < length s → (get_or s e 0 ≡ 125 → ⊥) → get_or s e 0 ≡ 44 → end_of (length s) (elements_of (objects d) p (drop i s)) ≡ end_of (length s) (elements_of (objects d) (Some (raw (drop (i + 1) s))) (drop (e + 1) s))
      object_onward = onward d p s i e h

-- ## What the check of `pair` may use, and that of `object`

pub ruleset pair_rules = (over, no-quote, no_name, disorder, cut, no-colon, then-value)

pub ruleset object_rules = (object_over, object_empty, object_begun, object_none, object_after, object_cut, object_last, object_stray, object_onward)
