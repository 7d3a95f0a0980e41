-- Verdict rows and the keyids that a role names, as the loops over slices meet them.
use Rattle.std.proofs.Common.{◌≡◌, refl, ap, ◌∙◌, Bool, true, false, cond, not, ◌&&◌, ◌||◌, ℕ, ◌+◌, ◌<◌, ◌≤◌, eqb, ltb, List, [], ◌∷◌, map, length, get_or, drop, add-one, drop-cons, arith}
use Rattle.std.specs.List.{zip, find}
use Rattle.std.specs.Option.{option_map}
use Rattle.std.proofs.Math.ListN.{drop_of_length-le}
use borrow.Author.Tests.{eq-eqb, ne_eqb, ltb-true, ltb-false}
use mathlib.Core.Bool.{and_comm, or-false, or-true}
use Rattle.std.proofs.Common.{below_more, bit_or, ◌*◌, ◌^◌, ◌%◌}
use Rattle.std.proofs.Common.{Option, Some, None, min, take, get_or-take}
use Rattle.std.proofs.lemmas.List.{length-map}
use Rattle.base.specs.Bytes.{Bytes, same}
use Rattle.rules.specs.Records as rules
use Rattle.records.specs.declared.KeyTable.{KeyTable}
use Rattle.rules.specs.State.{Row}
use Rattle.rules.specs.Conditions.{any, bad_row, signed, within, key_of}
use Rattle.rules.specs.Forms.{is_in}
use Rattle.keys.specs.Signers.{Marks, Marked, Asked}
use Rattle.keys.proofs.BitLaws.{has-zero, has-or, has_shifted}
use Rattle.records.specs.declared.Id.{Id}
use Rattle.records.specs.declared.Key.{Key}
use Rattle.records.specs.View.{view_id, view_key, no_key, key_at, has, pick, firsts, view_table}
use Rattle.base.proofs.WindowLaws.{run_length}

-- ## Verdict rows

-- a row against n entries
pub bad-row : (es : List Bytes) (row : Row) (n : ℕ) → n ≡ length es → bad_row es row ≡ not (eqb (length row) n) || any (λ v. ltb 1 v) row
unfolding bad_row
bad-row es row n e = rw e

pub signed-zip : (k : Bytes) (ids : List Id) (row : Row) → signed k (map view_id ids) row ≡ any (λ p. eqb p.1 1 && same k (view_id p.0)) (zip ids row)
unfolding signed
signed-zip k [] row = refl
signed-zip k (i ∷ ids) [] = refl
signed-zip k (i ∷ ids) (v ∷ row) = rw (and_comm (same k (view_id i)) (eqb v 1), signed-zip k ids row)

-- ## The keyids that a role names, from place i on

module _ (bits i : ℕ) (ks : List Key) where
  pub named_here : i < length ks → has bits i ≡ true → pick bits i (map view_key (drop i ks)) ≡ view_id (get_or ks i no_key).keyid ∷ pick bits (i + 1) (map view_key (drop (i + 1) ks))
  unfolding pick view_key
  named_here h e = rw (add-one, drop-cons ks i no_key, e)

  pub named_not : i < length ks → has bits i ≡ false → pick bits i (map view_key (drop i ks)) ≡ pick bits (i + 1) (map view_key (drop (i + 1) ks))
  unfolding pick view_key
  named_not h e = rw (add-one, drop-cons ks i no_key, e)

  pub named_end : length ks ≤ i → pick bits i (map view_key (drop i ks)) ≡ []
  unfolding pick
  named_end h = rw (drop_of_length-le ks h)

pub named_any : (k : Bytes) (xs : List Bytes) → any (same k) xs ≡ is_in k xs
unfolding is_in
named_any k [] = refl
named_any k (x ∷ xs) = ap (λ b. same k x || b) (named_any k xs)

pub within-any : (xs ys : List Bytes) → not (any (λ k. not (is_in k ys)) xs) ≡ within xs ys
unfolding within
within-any [] ys = refl
within-any (x ∷ xs) ys = at (is_in x ys) _ _ (within-any xs ys)
  where
    at : (b c d : Bool) → not c ≡ d → not (not b || c) ≡ b && d
    at true c d e = e
    at false c d e = refl

-- ## Places that were asked

module _ (gave : ℕ → Bool → Type 0) where
  pub asked_none : Marked gave 0 0
  asked_none = record { asked = λ k h. absurd (omega arith); others = λ k h l. has-zero k }

  module _ (j bits : ℕ) (m : Marked gave j bits) (h : j < 16) where
    pub asked_set : gave j true → Marked gave (j + 1) (bit_or bits (1 * 2 ^ j % 65536))
    asked_set g =
        record {
          asked = below_more (λ k. gave k (has (bit_or bits (1 * 2 ^ j % 65536)) k)) j
              (λ k l. rw (with-bit k, ne_eqb j k (λ e. omega arith), or-false) (m.asked k l)) (rw (with-bit j, eq-eqb j j refl, or-true) g);
          others = λ k l n. rw (with-bit k, m.others k l (omega arith), ne_eqb j k (λ e. omega arith));
        }
      where
        with-bit : (k : ℕ) → has (bit_or bits (1 * 2 ^ j % 65536)) k ≡ has bits k || eqb j k
        with-bit k = has-or bits (1 * 2 ^ j % 65536) k ∙ ap (λ b. has bits k || b) (has_shifted j k h)

    pub asked_not : gave j false → Marked gave (j + 1) bits
    asked_not g = record {
      asked = below_more (λ k. gave k (has bits k)) j m.asked (rw (m.others j h (omega arith)) g);
      others = λ k l n. m.others k l (omega arith);
    }

  -- the places that pass, where each call tells whether its place does
  pub asked_marks : (test : ℕ → Bool) (n bits : ℕ) → Marked gave n bits → ((k : ℕ) (r : Bool) → gave k r → r ≡ test k) → Marks n test bits
  asked_marks test n bits m f k h = at (ltb k n) refl
    where
      at : (b : Bool) → ltb k n ≡ b → has bits k ≡ b && test k
      at true e = f k (has bits k) (m.asked k (ltb-true k n e))
      at false e = m.others k h (ltb-false k n e)

-- ## A key asked for

pub asked-find : (k : Bytes) (ks : List Key) → Asked (key_of k (map view_key ks)) (option_map (λ (x : Key). x.public) (find (λ (x : Key). same k (view_id x.keyid)) ks))
unfolding key_of view_key
asked-find k [] = refl
asked-find k (x ∷ ks) = at (key_of k (map view_key ks)) (find (λ (y : Key). same k (view_id y.keyid)) ks) (same k (view_id x.keyid)) (asked-find k ks)
  where
    at : (o : Option rules.Key) (found : Option Key) (b : Bool) → Asked o (option_map (λ (y : Key). y.public) found)
        → Asked (cond b (Some (view_key x)) o) (option_map (λ (y : Key). y.public) (cond b (Some x) found))
    at o found true h = refl
    at o found false h = h

-- the keys that are meant: how many, and each by its place
pub meant-count : (t : KeyTable) (ks : List Key) → map view_key ks ≡ view_table t → length ks ≡ min t.count 16
unfolding view_table firsts
meant-count t ks e = simp length-map at (ap length e) ∙ run_length _ _ _

pub meant_at : (t : KeyTable) (ks : List Key) (n k : ℕ) → ks ≡ take n t.keys → k < n → key_at t k ≡ get_or ks k no_key
unfolding key_at
meant_at t ks n k e h = rw (e, get_or-take n t.keys k no_key h)
