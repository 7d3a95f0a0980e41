-- The ones of the signers' bits within a role are as many as the role's keyids that signed.
use Prim.Native.Nat.{ℕ, zero, suc, ◌+◌, ◌-◌, ◌/◌, ◌^◌, ◌<◌, ◌≤◌, min}
use mathlib.Core.Path.{◌≡◌, sym, ap, ◌∙◌}
use mathlib.Core.Bool.{Bool, true, false, cond, ◌&&◌}
use mathlib.Core.List.{List, ◌∷◌}
use native.Mathlib.Omega.{arith}
use native.Mathlib.Nat.{pow-suc, zero-add, add-zero}
use native.Mathlib.Numerals.{add-one}
use lib.Bits.{bit_and, and_le_r}
use lib.Count.{ones, ones_in}
use lib.Dec.{ltb, leb-suc-suc, leb-suc-zero}
use lib.ListN.{length}
use borrow.Author.Tests.{lt-ltb}
use Rattle.base.specs.Bytes.{Bytes}
use Rattle.base.specs.Window.{run}
use Rattle.rules.specs.Records.{Key}
use Rattle.rules.specs.State.{Row, filter}
use Rattle.rules.specs.Conditions.{count, signed}
use Rattle.records.specs.declared.KeyTable.{KeyTable}
use Rattle.records.specs.declared.Role.{Role}
use Rattle.records.specs.View.{firsts, view_key, view_table, view_role, key_at, has, pick}
use Rattle.keys.specs.Signers.{signs_at, Marks}
use Rattle.keys.proofs.BitLaws.{has-next, has-and, ones_low}

below_next : (j n : ℕ) → ltb (suc j) n ≡ ltb j (n - 1)
below_next j zero = leb-suc-zero (suc j) ∙ sym (leb-suc-zero j)
below_next j (suc n) = let e : suc n - 1 ≡ n = omega arith in rw e (leb-suc-suc (suc j) n)

filter_if : (p : Bytes → Bool) (k : Bytes) (ks : List Bytes) (b : Bool) → length (filter p (cond b (k ∷ ks) ks)) ≡ cond (p k && b) 1 0 + length (filter p ks)
unfolding filter
filter_if p k ks true = at (p k)
  where
    at : (q : Bool) → length (cond q (k ∷ filter p ks) (filter p ks)) ≡ cond (q && true) 1 0 + length (filter p ks)
    at true = omega arith
    at false = omega arith
filter_if p k ks false = at (p k)
  where
    at : (q : Bool) → length (filter p ks) ≡ cond (q && false) 1 0 + length (filter p ks)
    at true = omega arith
    at false = omega arith

module _ (f : ℕ → Key) (p : Bytes → Bool) (mask : ℕ) where
  -- bit j of x says whether place i + j is one of the next n, its keyid passes and its bit is set in the mask
  Bits : ℕ → ℕ → ℕ → ℕ → Type 0
  Bits m n i x = (j : ℕ) → j < m → has x j ≡ (ltb j n && p (f (i + j)).keyid) && has mask (i + j)

  -- as many of the next n keyids pass
  passing : ℕ → ℕ → ℕ
  passing n i = length (filter p (pick mask i (run f i n)))

  passing-next : (n i : ℕ) → passing (suc n) i ≡ cond (p (f i).keyid && has mask i) 1 0 + passing n (i + 1)
  unfolding passing pick run
  passing-next n i = rw (← add-one i) (filter_if p (f i).keyid (pick mask (i + 1) (run f (i + 1) n)) (has mask i))

  bits-next : (m n i x : ℕ) → Bits (suc m) n i x → Bits m (n - 1) (i + 1) (x / 2)
  unfolding Bits
  bits-next m n i x q j h =
      let e : i + suc j ≡ i + 1 + j = omega arith in
      sym (has-next x j) ∙ q (suc j) (omega arith) ∙ rw (below_next j n, e)

  ones-passing : (m n i x : ℕ) → n ≤ m → x < 2 ^ m → Bits m n i x → ones x ≡ passing n i
  unfolding Bits passing pick run filter ones ones_in
  ones-passing zero zero i x h l q = let e : x ≡ 0 = omega arith in ap ones e
  ones-passing zero (suc n) i x h l q = absurd (omega arith)
  ones-passing (suc m) zero i x h l q =
      rw (ones_low x, q 0 (omega arith), zero-add) (ones-passing m zero (i + 1) (x / 2) (omega arith) (omega (arith, pow-suc 2 m)) (bits-next m zero i x q))
  ones-passing (suc m) (suc n) i x h l q =
      let e : suc n - 1 ≡ n = omega arith in
      let rest = ones-passing m n (i + 1) (x / 2) (omega arith) (omega (arith, pow-suc 2 m)) (rw e at (bits-next m (suc n) i x q)) in
      rw (ones_low x, q 0 (omega arith), passing-next, add-zero i, lt-ltb 0 (suc n) (omega arith), rest)

-- the role's keys that signed, counted
pub count_ones : (t : KeyTable) (role : Role) (entries : List Bytes) (row : Row) (bits : ℕ) → role.keys < 2 ^ 16
    → Marks (min t.count 16) (signs_at t entries row) bits → ones (bit_and bits role.keys) ≡ count (view_role t role) entries row
unfolding count view_role view_table firsts signs_at view_key passing Bits
count_ones t role entries row bits h m =
    ones-passing (λ i. view_key (key_at t i)) (λ k. signed k entries row) role.keys 16 (min t.count 16) 0 (bit_and bits role.keys) (omega arith)
    (omega (arith, and_le_r bits role.keys))
    (λ j l. rw (has-and bits role.keys j, m j l, zero-add j))
