-- One law for each turn of a loop and each way out, at a place of the text.
use mathlib.Core.Path.{◌≡◌, refl, sym, ap, ◌∙◌}
use mathlib.Core.List.{[], ◌∷◌}
use mathlib.Core.Bool.{Bool, true, false, not, ◌&&◌, ◌||◌}
use mathlib.Core.Logic.{◌⊎◌, inl, inr}
use Prim.Native.Nat.{ℕ, zero, suc, ◌≤◌, ◌<◌, ◌+◌, ◌-◌}
use native.Mathlib.Omega.{arith}
use native.Mathlib.Numerals.{add-one, one-add}
use lib.Dec.{eqb}
use lib.ListN.{length, take, drop, get_or, length-take}
use Rattle.std.specs.List.{prefix_len}
use Rattle.std.proofs.lemmas.List.{take_rest, get_or-take, get_or-drop}
use Rattle.std.specs.declared.option.Option.TheVariants.{Some}
use lib.Seq.{drop-drop}
use borrow.Author.Tests.{ne_eqb, eqb-false, not-true}
use Rattle.base.specs.Bytes.{Bytes, is_digit}
use Rattle.base.proofs.PlaceLaws.{at-cons, at-end}
use Rattle.base.proofs.TestLaws.{both}
use Rattle.canonical_json.specs.Read.{raw, end_of, digits}
use Rattle.canonical_json.proofs.Numbers.{run, within}
use Rattle.canonical_json.proofs.NameLaws.{raw-plain}
use Rattle.skip.specs.Skim.{skim, quoted, past_digits, Plain, Bare, DigitsEnd}
use Rattle.skip.proofs.SkimLaws.{skim-nil, skim-zero, skim-quote, skim_bracket, skim_brace, skim-bracket_end, skim_brace_end, skim-other, quoted-nil, quoted-close, quoted-cut, quoted_escape, quoted-plain}

-- ## Digits and strings

past-run : (t : Bytes) → past_digits t ≡ drop (prefix_len is_digit t) t
unfolding past_digits
past-run [] = refl
past-run (b ∷ t) = go (is_digit b) refl (past-run t)
  where
    go : (x : Bool) → is_digit b ≡ x → past_digits t ≡ drop (prefix_len is_digit t) t → past_digits (b ∷ t) ≡ drop (prefix_len is_digit (b ∷ t)) (b ∷ t)
    go true e k = simp (e, k, one-add)
    go false e k = simp e

-- the digits end where the reader of a number ends them
pub digits-stand : (s : Bytes) (i e : ℕ) → i ≤ length s → end_of (length s) (digits (drop i s)) ≡ Some e → DigitsEnd s i e
digits-stand s i e h k =
    let n = prefix_len is_digit (drop i s) in
    let r : end_of (length s) (digits (drop i s)) ≡ Some (i + n) = rw take_rest at (run s i h) in
    let w : i + n ≤ length s = rw take_rest at (within s i h) in
    let q : e ≡ i + n = cc in
    record { means = rw q (past-run (drop i s) ∙ drop-drop n i s); onward = omega arith; within = omega arith }

module _ (s : Bytes) (i : ℕ) where
  -- inside a string
  pub string-spent : length s ≤ i → (n : ℕ) → quoted (drop i s) n ≡ skim (drop i s) n
  string-spent h n = rw (at-end s i h) (quoted-nil n ∙ sym (skim-nil n))

  module _ (h : i < length s) where
    pub string-plain : (get_or s i 0 ≡ 34 → ⊥) → (get_or s i 0 ≡ 92 → ⊥) → Plain s i (i + 1)
    string-plain e f n = rw (at-cons s i h) (quoted-plain _ _ n (ne_eqb _ _ e) (ne_eqb _ _ f))

    pub string-close : get_or s i 0 ≡ 34 → (n : ℕ) → quoted (drop i s) n ≡ skim (drop (i + 1) s) n
    string-close e n = rw (at-cons s i h, e) (quoted-close _ n)

    pub string-cut : get_or s i 0 ≡ 92 → length s ≤ i + 1 → (n : ℕ) → quoted (drop i s) n ≡ skim (drop (length s) s) n
    string-cut e o n = rw (at-cons s i h, e, at-end s (i + 1) o, at-end s (length s) (omega arith)) (quoted-cut n ∙ sym (skim-nil n))

    pub string_escape : get_or s i 0 ≡ 92 → i + 1 < length s → Plain s i (i + 2)
    string_escape e o n =
        let k : i + 1 + 1 ≡ i + 2 = omega arith in
        rw (at-cons s i h, e, at-cons s (i + 1) o) (quoted_escape _ _ n ∙ ap (λ (j : ℕ). quoted (drop j s) n) k)

-- ## A block of a string, byte by byte

pub plain_then : (s : Bytes) (i j k : ℕ) → Plain s i j → Plain s j k → Plain s i k
plain_then s i j k p q n = p n ∙ q n

pub bare_none : (s : Bytes) (i : ℕ) → Bare s i i
bare_none s i = record { plain = λ n. refl; counts = refl }

bare_to : (s : Bytes) (i j k : ℕ) → Bare s i j → j ≡ k → Bare s i k
bare_to s i j k p e = rw e at p

pub bare_then : (s : Bytes) (i j k : ℕ) → Bare s i j → Bare s j k → Bare s i k
bare_then s i j k p q = record { plain = plain_then s i j k p.plain q.plain; counts = p.counts ∙ q.counts }

bare_one : (s : Bytes) (i : ℕ) → i < length s → (get_or s i 0 ≡ 34 → ⊥) → (get_or s i 0 ≡ 92 → ⊥) → Bare s i (i + 1)
bare_one s i h e f =
    let r : raw (drop i s) ≡ get_or s i 0 ∷ raw (drop (i + 1) s) = ap raw (at-cons s i h) ∙ raw-plain _ _ (ne_eqb _ _ e) (ne_eqb _ _ f) in
    let l = ap length r in
    record { plain = string-plain s i h e f; counts = omega (arith, l) }

module _ (s : Bytes) (i : ℕ) where
  pub block_start : Bare s i (i + 0)
  block_start = bare_to s i i (i + 0) (bare_none s i) (omega arith)

  pub block_next : (k : ℕ) (plain : Bool) → (plain ≡ true → Bare s i (i + k)) → i + k < length s
      → plain && (not (eqb (get_or s (i + k) 0) 34) && not (eqb (get_or s (i + k) 0) 92)) ≡ true → Bare s i (i + (k + 1))
  block_next k plain p h e =
      let b = get_or s (i + k) 0 in
      let x = both plain (not (eqb b 34) && not (eqb b 92)) e in
      let y = both (not (eqb b 34)) (not (eqb b 92)) x.1 in
      bare_to s i (i + k + 1) (i + (k + 1))
      (bare_then s i (i + k) (i + k + 1) (p x.0) (bare_one s (i + k) h (eqb-false b 34 (not-true (eqb b 34) y.0)) (eqb-false b 92 (not-true (eqb b 92) y.1))))
      (omega arith)

  -- the same, of the k-th byte of the block's slice
  pub block_turn : (k : ℕ) (plain : Bool) → i + 16 ≤ length s → k < length (take (i + 16 - i) (drop i s)) → (plain ≡ true → Bare s i (i + k))
      → plain && (not (eqb (get_or (take (i + 16 - i) (drop i s)) k 0) 34) && not (eqb (get_or (take (i + 16 - i) (drop i s)) k 0) 92)) ≡ true → Bare s i (i + (k + 1))
  block_turn k plain r h p e =
      let z : i + 16 - i ≡ 16 = omega arith in
      let l : k < 16 = omega (arith, h, length-take (i + 16 - i) (drop i s)) in
      let g : get_or (take (i + 16 - i) (drop i s)) k 0 ≡ get_or s (i + k) 0 = rw z (get_or-take 16 (drop i s) k 0 l ∙ get_or-drop i s k 0) in
      block_next k plain p (omega arith) (rw g at e)

-- ## Brackets, n of them open

abbrev pub OneOf : ℕ → ℕ → ℕ → Type 0
OneOf x y b = (b ≡ x) ⊎ (b ≡ y)

pub none_of : (x y b : ℕ) → (OneOf x y b → ⊥) → eqb b x || eqb b y ≡ false
none_of x y b f = rw (ne_eqb b x (λ e. f (inl e)), ne_eqb b y (λ e. f (inr e)))

module _ (s : Bytes) (i : ℕ) where
  pub skim-spent : length s ≤ i → (n : ℕ) → skim (drop i s) n ≡ drop i s
  skim-spent h n = rw (at-end s i h) (skim-nil n)

  module _ (h : i < length s) where
    pub skim-string : get_or s i 0 ≡ 34 → (n : ℕ) → 0 < n → skim (drop i s) n ≡ quoted (drop (i + 1) s) n
    skim-string e zero o = absurd (omega arith)
    skim-string e (suc n) o = rw (at-cons s i h, e) (skim-quote _ n)

    pub skim-opening : OneOf 91 123 (get_or s i 0) → (n : ℕ) → 0 < n → skim (drop i s) n ≡ skim (drop (i + 1) s) (n + 1)
    skim-opening e zero o = absurd (omega arith)
    skim-opening (inl e) (suc n) o = rw (at-cons s i h, e, add-one (suc n)) (skim_bracket _ n)
    skim-opening (inr e) (suc n) o = rw (at-cons s i h, e, add-one (suc n)) (skim_brace _ n)

    pub skim-closing : OneOf 93 125 (get_or s i 0) → (n : ℕ) → 0 < n → skim (drop i s) n ≡ skim (drop (i + 1) s) (n - 1)
    skim-closing e zero o = absurd (omega arith)
    skim-closing (inl e) (suc n) o = let k : suc n - 1 ≡ n = omega arith in rw (at-cons s i h, e, k) (skim-bracket_end _ n)
    skim-closing (inr e) (suc n) o = let k : suc n - 1 ≡ n = omega arith in rw (at-cons s i h, e, k) (skim_brace_end _ n)

    pub skim-closed : OneOf 93 125 (get_or s i 0) → (n : ℕ) → 0 < n → n - 1 ≡ 0 → skim (drop i s) n ≡ drop (i + 1) s
    skim-closed e n o z = skim-closing e n o ∙ ap (λ (m : ℕ). skim (drop (i + 1) s) m) z ∙ skim-zero (drop (i + 1) s)

    pub skim-on : (get_or s i 0 ≡ 34 → ⊥) → (OneOf 91 123 (get_or s i 0) → ⊥) → (OneOf 93 125 (get_or s i 0) → ⊥) → (n : ℕ) → 0 < n → skim (drop i s) n ≡ skim (drop (i + 1) s) n
    skim-on q o x zero l = absurd (omega arith)
    skim-on q o x (suc n) l = rw (at-cons s i h) (skim-other _ n _ (ne_eqb _ _ q) (none_of 91 123 _ o) (none_of 93 125 _ x))

-- ## Words: n bytes on

module _ (s : Bytes) (i n : ℕ) where
  pub word_on : drop n (drop i s) ≡ drop (i + n) s
  word_on = drop-drop n i s

  pub word_cut : length s ≤ i + n → drop n (drop i s) ≡ drop (length s) s
  word_cut h = word_on ∙ at-end s (i + n) h ∙ sym (at-end s (length s) (omega arith))

-- ## What the check of a function may use

pub ruleset run_rules = (bare_none, bare_then)

pub ruleset string_rules = (string-spent, string-plain, string-close, string-cut, string_escape)

pub ruleset bracket_rules = (skim-spent, skim-string, skim-opening, skim-closing, skim-closed, skim-on)

pub ruleset word_rules = (word_on, word_cut)
