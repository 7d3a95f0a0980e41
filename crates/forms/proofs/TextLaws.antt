-- Strings of a known length: a buffer that is filled, hex that is undone, a date.
use mathlib.Core.Path.{◌≡◌, refl, sym, ap, ◌∙◌}
use mathlib.Core.List.{[], ◌∷◌, ◌++◌, append-nil}
use Rattle.std.specs.declared.option.Option.TheVariants.{None, Some}
use mathlib.Core.Bool.{Bool, true, false, cond, and-true, and-false}
use Prim.Native.Nat.{ℕ, zero, suc, ◌+◌, ◌*◌, ◌<◌}
use native.Mathlib.Omega.{arith}
use lib.Dec.{eqb, ltb}
use lib.ListN.{length, take, drop, take-append-drop}
use lib.Seq.{take_all, take_at, drop-drop, drop_at}
use borrow.Author.Tests.{eq-eqb, ne_eqb, eqb-true, eqb-false, le-leb, ltb-true, ltb-false}
use Rattle.base.specs.Bytes.{Bytes}
use Rattle.base.specs.Window.{window, byte_at}
use Rattle.base.specs.Hex.{digit_of, all_hex, is_hex, undo, undone}
use Rattle.base.proofs.TestLaws.{both, same_test}
use Rattle.base.proofs.PlaceLaws.{at-cons, at-end}
use Rattle.base.proofs.HexLaws.{hex_range, not-long, hex-parts}
use Rattle.base.proofs.WindowLaws.{window-part, byte_past}
use Rattle.canonical_json.specs.Lead.{wf}
use Rattle.canonical_json.specs.Json.{ValidStr, put_bytes, is_escaped}
use Rattle.canonical_json.specs.Read.{raw}
use Rattle.canonical_json.specs.Fields.{keep}
use Rattle.canonical_json.proofs.Rows.{found}
use Rattle.canonical_json.proofs.Rfc.{to_rfc}
use Rattle.lookup.specs.Leaves.{copied, Copies}
use Rattle.std.specs.declared.option.Option.{Option}
use Rattle.lookup.proofs.StandsLaws.{there}
use Rattle.lookup.proofs.StringLaws.{raw-bytes}
use Rattle.date.specs.Calendar.{form, date_of}
use Rattle.date.proofs.FormLaws.{form_lengths}
use Rattle.rules.specs.Take.{unhex}
use Rattle.rules.proofs.OptionLaws.{kept-is}
use Rattle.forms.specs.View.{Fills, digits_at, HexAt}

-- ## A buffer that is filled

module _ (t b : Bytes) where
  copied-whole : length t ≡ length b → copied t b ≡ t
  unfolding copied
  copied-whole e = rw (le-leb (length t) (length b) (omega arith), at-end b (length t) (omega arith)) (append-nil t)

  pub fills : length t ≡ length b → (done : Bool) (after : Bytes) → Copies t b done after → Fills t b done after
  fills e done after w =
      let d : done ≡ true = w.fits ∙ le-leb (length t) (length b) (omega arith) in
      record { fits = d ∙ sym (eq-eqb (length t) (length b) e); is = w.is ∙ copied-whole e ∙ rw d }

-- ## Hex

-- n bytes are their own window
whole-window : (b : Bytes) (n : ℕ) → length b ≡ n → window b 0 n ≡ b
whole-window b n e = window-part b 0 n (omega arith) ∙ take_all n b (omega arith)

undo-length : (n : ℕ) (t : Bytes) → length t ≡ n * 2 → length (undo t) ≡ n
unfolding undo
undo-length zero [] e = refl
undo-length zero (a ∷ t) e = absurd (omega arith)
undo-length (suc n) [] e = absurd (omega arith)
undo-length (suc n) (a ∷ []) e = absurd (omega arith)
undo-length (suc n) (a ∷ (b ∷ t)) e = ap suc (undo-length n t (omega arith))

module _ (n : ℕ) (t : Bytes) where
  -- n bytes undone are what the form says
  pub unhex-undone : undone n t ≡ unhex n t
  unfolding undone unhex keep
  unhex-undone = go (is_hex n t)
    where
      go : (b : Bool) → cond b (Some (undo t)) None ≡ keep b (undo t)
      go true = refl
      go false = refl

  pub unhex-some : (a : Bytes) → Some a ≡ unhex n t → (is_hex n t ≡ true) × (undo t ≡ a)
  unfolding unhex
  unhex-some a e = kept-is (is_hex n t) (undo t) (sym e)

  -- they are n, so that they are their own window
  pub unhex-window : (a : Bytes) → Some a ≡ unhex n t → Some (window a 0 n) ≡ unhex n t
  unhex-window a e =
      let k = unhex-some a e in
      let l : length a ≡ n = ap length (sym k.1) ∙ undo-length n t (hex-parts n t k.0).0 in
      ap Some (whole-window a n l) ∙ e

module _ (n : ℕ) (t b after : Bytes) (done : Bool) (long : length b ≡ n * 2) (w : Fills t b done after) where
  pub unhex-not : done ≡ false → None ≡ unhex n t
  unfolding unhex keep
  unhex-not d =
      let x : (length t ≡ n * 2 → ⊥) = λ (e : length t ≡ n * 2). eqb-false (length t) (length b) (sym w.fits ∙ d) (e ∙ sym long) in
      rw (not-long n t x)

  pub unhex-is : done ≡ true → undone n after ≡ unhex n t
  unhex-is d = unhex-undone n after ∙ ap (unhex n) (w.is ∙ rw d)

-- ## Hex that is undone where it stands

-- a digit is no quote and no backslash
plain-digit : (b : ℕ) → digit_of b < 16 → is_escaped b ≡ false
unfolding digit_of
plain-digit b h = rw (ne_eqb b 34 quote, ne_eqb b 92 back)
  where
    quote : b ≡ 34 → ⊥
    quote e = let k : digit_of 34 < 16 = rw e at h in omega arith

    back : b ≡ 92 → ⊥
    back e = let k : digit_of 92 < 16 = rw e at h in omega arith

-- digits are written as they are
pub put-hex : (t r : Bytes) → all_hex t ≡ true → put_bytes t r ≡ t ++ r
unfolding put_bytes all_hex
put-hex [] r e = refl
put-hex (b ∷ t) r e =
    let w = both (ltb (digit_of b) 16) (all_hex t) e in
    rw (plain-digit b (ltb-true (digit_of b) 16 w.0), put-hex t r w.1)

-- digits are ASCII
hex-wf : (t : Bytes) → all_hex t ≡ true → wf t 0 0 0 ≡ true
unfolding wf all_hex
hex-wf [] e = refl
hex-wf (b ∷ t) e =
    let w = both (ltb (digit_of b) 16) (all_hex t) e in
    let r = hex_range b (ltb-true (digit_of b) 16 w.0) in
    rw (← found 1 32 b (omega arith) refl (omega arith)) (hex-wf t w.1)

-- so a string of digits is well formed
pub hex-valid : (t : Bytes) → all_hex t ≡ true → ValidStr t
hex-valid t e = to_rfc t (hex-wf t e)

module _ (s : Bytes) (i m : ℕ) (q : byte_at s (i + m) ≡ 34) where
  pub quote-inside : i + m < length s
  quote-inside = go (ltb (i + m) (length s)) refl
    where
      go : (x : Bool) → ltb (i + m) (length s) ≡ x → i + m < length s
      go true e = ltb-true (i + m) (length s) e
      go false e =
          let z = byte_past s (i + m) (ltb-false (i + m) (length s) e) in
          absurd (omega arith)

  -- up to the quote that stands m bytes after i there are digits: they are the string
  raw-hex : all_hex (take m (drop i s)) ≡ true → raw (drop i s) ≡ take m (drop i s)
  unfolding byte_at
  raw-hex e =
      let t = take m (drop i s) in
      let r = drop (i + m + 1) s in
      let cut : drop i s ≡ t ++ (34 ∷ r) = sym (take-append-drop m (drop i s)) ∙ ap (λ (x : Bytes). t ++ x) (drop-drop m i s ∙ at-cons s (i + m) quote-inside ∙ ap (λ (b : ℕ). b ∷ r) q) in
      ap raw (cut ∙ sym (put-hex t (34 ∷ r) e)) ∙ raw-bytes t r

-- so they are undone there
pub unhex-plain : (n m : ℕ) (s : Bytes) (i : ℕ) (a : Bytes) → m ≡ n * 2 → byte_at s (i + n * 2) ≡ 34 → Some a ≡ undone n (take m (drop i s)) → Some a ≡ unhex n (raw (drop i s))
unhex-plain n m s i a l q u =
    let t = take m (drop i s) in
    let e : Some a ≡ unhex n t = u ∙ unhex-undone n t in
    let h : all_hex t ≡ true = (hex-parts n t (unhex-some n t a e).0).1 in
    let p : raw (drop i s) ≡ t = raw-hex s i m (rw l q) h in
    e ∙ ap (unhex n) (sym p)

-- ## Digits that are tested where they stand

module _ (n : ℕ) (s : Bytes) (i : ℕ) where
  pub no-digits : (byte_at s (i + n * 2) ≡ 34 → ⊥) → digits_at n s i ≡ false
  unfolding digits_at
  no-digits h = rw (ne_eqb (byte_at s (i + n * 2)) 34 h) (and-false (is_hex n (take (n * 2) (drop i s))))

  pub digits-past : length s < n * 2 → digits_at n s i ≡ false
  digits-past h = no-digits (λ e. let z = byte_past s (i + n * 2) (omega arith) in omega arith)

  pub some-digits : byte_at s (i + n * 2) ≡ 34 → digits_at n s i ≡ is_hex n (take (n * 2) (drop i s))
  unfolding digits_at
  some-digits h = rw (eq-eqb (byte_at s (i + n * 2)) 34 h) (and-true (is_hex n (take (n * 2) (drop i s))))

  module _ (d : digits_at n s i ≡ true) where
    parts : (is_hex n (take (n * 2) (drop i s)) ≡ true) × (byte_at s (i + n * 2) ≡ 34)
    unfolding digits_at
    parts = let w = both (is_hex n (take (n * 2) (drop i s))) (eqb (byte_at s (i + n * 2)) 34) d in (w.0, eqb-true (byte_at s (i + n * 2)) 34 w.1)

    pub digits-within : i + n * 2 < length s
    digits-within = quote-inside s i (n * 2) parts.1

    pub digits-hex : all_hex (take (n * 2) (drop i s)) ≡ true
    digits-hex = (hex-parts n (take (n * 2) (drop i s)) parts.0).1

    pub digits-text : drop i s ≡ take (n * 2) (drop i s) ++ drop (i + n * 2) s
    digits-text = sym (take-append-drop (n * 2) (drop i s)) ∙ ap (λ (x : Bytes). take (n * 2) (drop i s) ++ x) (drop-drop (n * 2) i s)

    -- they are the string
    pub digits-raw : raw (drop i s) ≡ take (n * 2) (drop i s)
    digits-raw = raw-hex s i (n * 2) parts.1 digits-hex

    pub digits-is : is_hex n (raw (drop i s)) ≡ true
    digits-is = ap (is_hex n) digits-raw ∙ parts.0

  -- a string of digits is written as it is
  module _ (q : Bytes) (t : drop i s ≡ put_bytes (raw (drop i s)) (34 ∷ q)) (h : is_hex n (raw (drop i s)) ≡ true) where
    written : drop i s ≡ raw (drop i s) ++ (34 ∷ q)
    written = t ∙ put-hex (raw (drop i s)) (34 ∷ q) (hex-parts n (raw (drop i s)) h).1

    long : length (raw (drop i s)) ≡ n * 2
    long = (hex-parts n (raw (drop i s)) h).0

    closing : byte_at s (i + n * 2) ≡ 34
    unfolding byte_at
    closing =
        let e : drop (i + n * 2) s ≡ 34 ∷ q = sym (drop-drop (n * 2) i s) ∙ ap (λ (x : Bytes). drop (n * 2) x) written ∙ drop_at (raw (drop i s)) (34 ∷ q) (n * 2) long in
        (there s (i + n * 2) 34 q e).1

    stand_digits : digits_at n s i ≡ true
    stand_digits = some-digits closing ∙ ap (λ (x : Bytes). is_hex n (take (n * 2) x)) written ∙ ap (is_hex n) (take_at (raw (drop i s)) (34 ∷ q) (n * 2) long) ∙ h

  -- so the test says of a string what the form says
  pub digits_standing : (q : Bytes) → drop i s ≡ put_bytes (raw (drop i s)) (34 ∷ q) → digits_at n s i ≡ is_hex n (raw (drop i s))
  digits_standing q t = same_test (digits_at n s i) (is_hex n (raw (drop i s))) digits-is (stand_digits q t)

module _ (n : ℕ) (t : Bytes) where
  pub unhex-no : is_hex n t ≡ false → None ≡ unhex n t
  unfolding unhex keep
  unhex-no h = rw h

  pub unhex_yes : is_hex n t ≡ true → Some (undo t) ≡ unhex n t
  unfolding unhex keep
  unhex_yes h = rw h

  -- digits of their form, undone
  pub unhex-held : (ok : Bool) (a : Bytes) → keep ok a ≡ unhex n t → is_hex n t ≡ true → a ≡ undo t
  unhex-held ok a e h = (kept-is ok a (e ∙ sym (unhex_yes h))).1

-- a place that was found
pub hex-at : (n : ℕ) (s : Bytes) (r : Option ℕ) (i : ℕ) → r ≡ Some i → HexAt n s r → is_hex n (raw (drop i s)) ≡ true
hex-at n s r i q h = rw q at h

pub hex_at-none : (n : ℕ) (s : Bytes) (r : Option ℕ) → r ≡ None → HexAt n s r
hex_at-none n s r q = rw q tt

-- ## A date

module _ (t b after : Bytes) (done : Bool) (long : length b ≡ 20) (w : Fills t b done after) where
  pub date-not : done ≡ false → None ≡ date_of t
  unfolding date_of
  date-not d =
      let x : (length form ≡ length t → ⊥) = λ (e : length form ≡ length t). eqb-false (length t) (length b) (sym w.fits ∙ d) (sym e ∙ sym long) in
      rw (form_lengths form t x)
