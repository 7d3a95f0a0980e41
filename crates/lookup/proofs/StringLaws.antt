-- Strings in a text: where one begins, its bytes, and copying them.
use mathlib.Core.Path.{◌≡◌, refl, sym, ap, ◌∙◌}
use mathlib.Core.List.{[], ◌∷◌, ◌++◌}
use Rattle.std.specs.declared.option.Option.{Option}
use Rattle.std.specs.declared.option.Option.TheVariants.{None, Some}
use mathlib.Core.Bool.{Bool, true, false, cond}
use Prim.Native.Nat.{ℕ, ◌≤◌, ◌<◌, ◌+◌}
use native.Mathlib.Omega.{arith}
use native.Mathlib.Numerals.{add-one}
use lib.Dec.{eqb, leb}
use lib.ListN.{length, drop, take, get_or, set, length-append, length-drop, length-set}
use lib.Seq.{sets, sets-eq, take_at}
use borrow.Author.Tests.{eq-eqb, ne_eqb, le-leb, lt-leb, leb-true, leb-false}
use Rattle.base.specs.Bytes.{Bytes, same, less}
use Rattle.base.proofs.PlaceLaws.{at-cons, at-end}
use Rattle.base.proofs.OrderLaws.{less-differs}
use Rattle.canonical_json.specs.Json.{Json, jnull, jtrue, jfalse, num, str, arr, obj, put_bytes, is_escaped}
use Rattle.canonical_json.specs.Read.{raw}
use Rattle.canonical_json.specs.Names.{CharAt}
use Rattle.canonical_json.specs.Fields.{text}
use Rattle.canonical_json.proofs.Puts.{put-str}
use Rattle.canonical_json.proofs.CharsLaws.{neither}
use Rattle.lookup.specs.Place.{Stands}
use Rattle.lookup.specs.Leaves.{string_in, order_of, copied, Copies}
use Rattle.std.specs.Ordering.{is_lt, is_eq, nat_cmp}
use Rattle.std.specs.declared.cmp.Ordering.TheVariants.{Less, Equal, Greater}
use Rattle.lookup.proofs.FirstByte.{begins_with}
use Rattle.lookup.proofs.StandsLaws.{there, front}

-- ## Where a string begins

module _ (s : Bytes) (p : ℕ) where
  pub string-cut : length s ≤ p → string_in p (drop p s) ≡ None
  unfolding string_in
  string-cut h = rw (at-end s p h)

  pub string-not : p < length s → (get_or s p 0 ≡ 34 → ⊥) → string_in p (drop p s) ≡ None
  unfolding string_in
  string-not h e = rw (at-cons s p h, ne_eqb _ _ e)

  pub string-here : p < length s → get_or s p 0 ≡ 34 → string_in p (drop p s) ≡ Some (p + 1)
  unfolding string_in
  string-here h e = rw (at-cons s p h, e)

-- what the check of `string_at` may use
pub ruleset string_rules = (string-cut, string-not, string-here)

-- ## The bytes of a string

raw-close : (r : Bytes) → raw (34 ∷ r) ≡ []
unfolding raw
raw-close r = refl

raw-escaped : (b : ℕ) (t : Bytes) → raw (92 ∷ b ∷ t) ≡ b ∷ raw t
unfolding raw
raw-escaped b t = refl

raw-plain : (b : ℕ) (t : Bytes) → eqb b 34 ≡ false → eqb b 92 ≡ false → raw (b ∷ t) ≡ b ∷ raw t
unfolding raw
raw-plain b t e f = rw (e, f)

pub raw-bytes : (b r : Bytes) → raw (put_bytes b (34 ∷ r)) ≡ b
unfolding put_bytes
raw-bytes [] r = raw-close r
raw-bytes (b ∷ bs) r = go (is_escaped b) refl (raw-bytes bs r)
  where
    go : (x : Bool) → is_escaped b ≡ x → raw (put_bytes bs (34 ∷ r)) ≡ bs → raw (cond x (92 ∷ b ∷ put_bytes bs (34 ∷ r)) (b ∷ put_bytes bs (34 ∷ r))) ≡ b ∷ bs
    go true e h = raw-escaped b _ ∙ ap (λ (x : Bytes). b ∷ x) h
    go false e h = let n = neither b e in raw-plain b _ n.0 n.1 ∙ ap (λ (x : Bytes). b ∷ x) h

-- one byte of it, as the code reads it
module _ (s : Bytes) (i : ℕ) (r : Option (ℕ × ℕ)) (w : CharAt s i r) where
  pub char_close : r ≡ None → raw (drop i s) ≡ []
  char_close q = rw q at w

  pub char_byte : (b j : ℕ) → r ≡ Some (b, j) → (raw (drop i s) ≡ b ∷ raw (drop j s)) × (i < j) × (j ≤ length s)
  char_byte b j q = rw q at w

-- the string that is found is the value's text, and where the value is none nothing is found
abbrev pub TextOf : Bytes → Option ℕ → Option Bytes → Type 0
TextOf s None o = o ≡ None
TextOf s (Some i) o = o ≡ Some (raw (drop i s))

string-first : (s : Bytes) (p : ℕ) (v : Json) → Stands s p v → string_in p (drop p s) ≡ cond (begins_with 34 v) (Some (p + 1)) None
unfolding string_in
string-first s p v h = let b = front s p v h in rw (b.is, b.with 34 refl)

pub text_of : (s : Bytes) (p : ℕ) (v : Json) → Stands s p v → TextOf s (string_in p (drop p s)) (text v)
unfolding text
text_of s p jnull h = rw (string-first s p jnull h) refl
text_of s p jtrue h = rw (string-first s p jtrue h) refl
text_of s p jfalse h = rw (string-first s p jfalse h) refl
text_of s p (num true ds) h = rw (string-first s p (num true ds) h) refl
text_of s p (num false ds) h = rw (string-first s p (num false ds) h) refl
text_of s p (str b) h = rw (string-first s p (str b) h) (ap Some (sym (ap raw (there s p 34 _ (h.text ∙ put-str b h.rest)).2 ∙ raw-bytes b h.rest)))
text_of s p (arr xs) h = rw (string-first s p (arr xs) h) refl
text_of s p (obj ms) h = rw (string-first s p (obj ms) h) refl

-- the string's own text: its bytes as they are written, and the closing quote
string_standing : (s : Bytes) (p i : ℕ) (v : Json) (h : Stands s p v) → string_in p (drop p s) ≡ Some i → drop i s ≡ put_bytes (raw (drop i s)) (34 ∷ h.rest)
string_standing s p i v h e = go v h
  where
    other : None ≡ Some i → {A : Type 0} → A
    other k = let z : ◌≡◌ {A = ℕ} 0 1 = cc in absurd (omega arith)

    go : (v : Json) (h : Stands s p v) → drop i s ≡ put_bytes (raw (drop i s)) (34 ∷ h.rest)
    go jnull h = other (sym (string-first s p jnull h) ∙ e)
    go jtrue h = other (sym (string-first s p jtrue h) ∙ e)
    go jfalse h = other (sym (string-first s p jfalse h) ∙ e)
    go (num true ds) h = other (sym (string-first s p (num true ds) h) ∙ e)
    go (num false ds) h = other (sym (string-first s p (num false ds) h) ∙ e)
    go (str b) h =
        let k : Some (p + 1) ≡ Some i = sym (string-first s p (str b) h) ∙ e in
        let n : p + 1 ≡ i = cc in
        let t : drop i s ≡ put_bytes b (34 ∷ h.rest) = ap (λ (x : ℕ). drop x s) (sym n) ∙ (there s p 34 _ (h.text ∙ put-str b h.rest)).2 in
        t ∙ ap (λ (x : Bytes). put_bytes x (34 ∷ h.rest)) (sym (ap raw t ∙ raw-bytes b h.rest))
    go (arr xs) h = other (sym (string-first s p (arr xs) h) ∙ e)
    go (obj ms) h = other (sym (string-first s p (obj ms) h) ∙ e)

module _ (s : Bytes) (p : ℕ) (v : Json) (h : Stands s p v) (r : Option ℕ) (q : r ≡ string_in p (drop p s)) where
  pub no_text : r ≡ None → text v ≡ None
  no_text e = let k : string_in p (drop p s) ≡ None = sym q ∙ e in rw k at (text_of s p v h)

  pub text-there : (i : ℕ) → r ≡ Some i → text v ≡ Some (raw (drop i s))
  text-there i e = let k : string_in p (drop p s) ≡ Some i = sym q ∙ e in rw k at (text_of s p v h)

  pub string-text : (i : ℕ) → r ≡ Some i → drop i s ≡ put_bytes (raw (drop i s)) (34 ∷ h.rest)
  string-text i e = string_standing s p i v h (sym q ∙ e)

-- ## The order of strings, one byte at a time: the one goes on at a, the other at j

module _ (a k : Bytes) (j : ℕ) where
  pub order_ended : a ≡ [] → length k ≤ j → order_of a (drop j k) ≡ Equal
  unfolding order_of less same
  order_ended e h = rw (e, at-end k j h) refl

  pub order_prefix : a ≡ [] → j < length k → order_of a (drop j k) ≡ Less
  unfolding order_of less
  order_prefix e h = rw (e, at-cons k j h) refl

  module _ (b : ℕ) (t : Bytes) (e : a ≡ b ∷ t) where
    pub order_longer : length k ≤ j → order_of a (drop j k) ≡ Greater
    unfolding order_of less same
    order_longer h = rw (e, at-end k j h) refl

    module _ (h : j < length k) where
      pub order_differ : (b ≡ get_or k j 0 → ⊥) → order_of a (drop j k) ≡ nat_cmp b (get_or k j 0)
      unfolding order_of less same
      order_differ n = rw (e, at-cons k j h, ne_eqb b (get_or k j 0) n) refl

      pub order_next : b ≡ get_or k j 0 → order_of a (drop j k) ≡ order_of t (drop (j + 1) k)
      unfolding order_of less same
      order_next q = rw (e, at-cons k j h, eq-eqb b (get_or k j 0) q) refl

-- what the check of `text_order` may use
pub ruleset order_rules = (order_ended, order_prefix, order_longer, order_differ, order_next)

-- what an order says
module _ (a b : Bytes) where
  pub order_less : is_lt (order_of a b) ≡ less a b
  unfolding order_of
  order_less = go (less a b) (same a b)
    where
      go : (l t : Bool) → is_lt (cond l Less (cond t Equal Greater)) ≡ l
      go true t = refl
      go false true = refl
      go false false = refl

  pub order_same : is_eq (order_of a b) ≡ same a b
  unfolding order_of
  order_same = go (less a b) refl (same a b) refl
    where
      go : (l : Bool) → less a b ≡ l → (t : Bool) → same a b ≡ t → is_eq (cond l Less (cond t Equal Greater)) ≡ same a b
      go true p t q = sym (less-differs a b p)
      go false p true q = sym q
      go false p false q = sym q

-- ## Copying to the front of a buffer

module _ (t buffer : Bytes) where
  pub copied-not : length buffer < length t → copied t buffer ≡ buffer
  unfolding copied
  copied-not h = rw (lt-leb (length t) (length buffer) h)

  module _ (h : length t ≤ length buffer) where
    copied-fits : copied t buffer ≡ t ++ drop (length t) buffer
    unfolding copied
    copied-fits = rw (le-leb (length t) (length buffer) h)

    pub copied-front : take (length t) (copied t buffer) ≡ t
    copied-front = ap (λ (x : Bytes). take (length t) x) copied-fits ∙ take_at t (drop (length t) buffer) (length t) refl

    -- byte by byte
    pub copied_sets : copied t buffer ≡ sets buffer 0 t
    copied_sets =
        let z : 0 + length t ≡ length t = omega arith in
        copied-fits ∙ sym (sets-eq t buffer 0 (omega arith) ∙ ap (λ (n : ℕ). t ++ drop n buffer) z)

  pub copied-length : length (copied t buffer) ≡ length buffer
  copied-length = go (leb (length t) (length buffer)) refl
    where
      go : (x : Bool) → leb (length t) (length buffer) ≡ x → length (copied t buffer) ≡ length buffer
      go true e =
          let h = leb-true (length t) (length buffer) e in
          let d = length-drop (length t) buffer in
          let l = ap length (copied-fits h) ∙ length-append t (drop (length t) buffer) in
          omega arith
      go false e = ap length (copied-not (leb-false (length t) (length buffer) e))

pub set_next : (out : Bytes) (n b : ℕ) (left t : Bytes) → left ≡ b ∷ t → sets out n left ≡ sets (set out n b) (n + 1) t
set_next out n b left t e = rw (e, add-one)

module _ (t buffer : Bytes) where
  pub copy_refused : length buffer < length t → Copies t buffer false buffer
  copy_refused h = record { fits = sym (lt-leb (length t) (length buffer) h); is = sym (copied-not t buffer h) }

  pub copy_done : length t ≤ length buffer → (out : Bytes) (n : ℕ) (left : Bytes) → copied t buffer ≡ sets out n left → left ≡ [] → Copies t buffer true out
  copy_done h out n left e f = record { fits = sym (le-leb (length t) (length buffer) h); is = sym (e ∙ ap (λ (x : Bytes). sets out n x) f) }

-- what the check of `copy_text` may use
pub ruleset copy_rules = (copied_sets, set_next, copy_refused, copy_done, length-set)
