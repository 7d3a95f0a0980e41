-- A role's keyids against the key table: the places of each are marked as bits, and the marked keyids in the table's order are the
-- table's keyids that the role names. No place is asked to have a keyid of its own.
use mathlib.Core.Path.{◌≡◌, refl, sym, ap, ◌∙◌}
use mathlib.Core.Bool.{Bool, true, false, not, ◌&&◌, ◌||◌, and-true, and-false, or-false}
use mathlib.Core.List.{List, [], ◌∷◌, ◌++◌}
use Prim.Native.Nat.{ℕ, zero, suc, ◌+◌, ◌/◌, ◌%◌, ◌^◌, ◌<◌, min}
use native.Mathlib.Omega.{arith}
use native.Mathlib.Nat.{pow-suc, zero-add}
use native.Mathlib.Numerals.{add-one}
use lib.Bits.{bit_and, bit_or, and_le_r}
use lib.Dec.{eqb, ltb}
use borrow.Author.Tests.{lt-ltb, ltb-true, eqb-false}
use Rattle.base.specs.Bytes.{Bytes, same}
use Rattle.base.specs.Window.{run}
use Rattle.base.proofs.ByteLaws.{same_true, same-sym}
use Rattle.base.proofs.TestLaws.{never, both, neither}
use Rattle.rules.specs.Limits.{max_keys}
use Rattle.rules.specs.Records.{Key}
use Rattle.rules.specs.Forms.{is_in, different, all_of}
use Rattle.rules.specs.State.{filter}
use Rattle.records.specs.declared.KeyTable.{KeyTable}
use Rattle.records.specs.View.{firsts, view_id, view_key, view_table, key_at, has, pick}
use Rattle.keys.specs.Signers.{Marks, has_id}
use Rattle.keys.proofs.BitLaws.{has-low, has-next, has-zero, has-or, has-and}
use Rattle.root_file.specs.Body.{keyids_in, is_naming}
use Rattle.root_file.proofs.TableLaws.{map-run}

-- ## Lists, and one byte string more

is_in-last : (x y : Bytes) (a : List Bytes) → is_in x (a ++ (y ∷ [])) ≡ is_in x a || same y x
unfolding is_in
is_in-last x y [] = rw (or-false, same-sym x y)
is_in-last x y (z ∷ a) = rw (is_in-last x y a) (go (same x z))
  where
    go : (p : Bool) → p || (is_in x a || same y x) ≡ (p || is_in x a) || same y x
    go true = refl
    go false = refl

different-last : (x : Bytes) (a : List Bytes) → different (a ++ (x ∷ [])) ≡ different a && not (is_in x a)
unfolding different is_in
different-last x [] = refl
different-last x (y ∷ a) = rw (is_in-last y x a, different-last x a) (go (is_in y a) (same x y) (different a) (is_in x a))
  where
    go : (p q r u : Bool) → not (p || q) && (r && not u) ≡ (not p && r) && not (q || u)
    go true q r u = refl
    go false true true u = refl
    go false true false u = refl
    go false false true u = refl
    go false false false u = refl

all-last : (p : Bytes → Bool) (x : Bytes) (a : List Bytes) → all_of p (a ++ (x ∷ [])) ≡ all_of p a && p x
all-last p x [] = rw and-true
all-last p x (y ∷ a) = rw (all-last p x a) (go (p y))
  where
    go : (q : Bool) → q && (all_of p a && p x) ≡ (q && all_of p a) && p x
    go true = refl
    go false = refl

module _ (keys : List Key) where
  pub naming-last : (x : Bytes) (a : List Bytes) → is_naming keys a ≡ true → is_naming keys (a ++ (x ∷ [])) ≡ not (is_in x a) && is_in x (keyids_in keys)
  unfolding is_naming
  naming-last x a e =
      let w = both (different a) (all_of (λ k. is_in k (keyids_in keys)) a) e in
      rw (different-last x a, all-last (λ k. is_in k (keyids_in keys)) x a, w.0, w.1)

-- what holds of a whole list holds of its front
apart-front : (x : Bytes) (a b : List Bytes) → is_in x (a ++ b) ≡ false → is_in x a ≡ false
unfolding is_in
apart-front x [] b e = refl
apart-front x (y ∷ a) b e = let w = neither (same x y) (is_in x (a ++ b)) e in rw (w.0, apart-front x a b w.1)

different-front : (a b : List Bytes) → different (a ++ b) ≡ true → different a ≡ true
unfolding different
different-front [] b e = refl
different-front (x ∷ a) b e =
    let w = both (not (is_in x (a ++ b))) (different (a ++ b)) e in
    rw (apart-front x a b (absent (is_in x (a ++ b)) w.0), different-front a b w.1)
  where
    absent : (p : Bool) → not p ≡ true → p ≡ false
    absent true q = never (sym q)
    absent false q = refl

all-front : (p : Bytes → Bool) (a b : List Bytes) → all_of p (a ++ b) ≡ true → all_of p a ≡ true
all-front p [] b e = refl
all-front p (x ∷ a) b e = let w = both (p x) (all_of p (a ++ b)) e in rw (w.0, all-front p a b w.1)

pub naming-front : (keys : List Key) (a b : List Bytes) → is_naming keys a ≡ false → is_naming keys (a ++ b) ≡ false
unfolding is_naming
naming-front keys a b e = go (is_naming keys (a ++ b)) refl
  where
    go : (p : Bool) → is_naming keys (a ++ b) ≡ p → is_naming keys (a ++ b) ≡ false
    go true q =
        let w = both (different (a ++ b)) (all_of (λ k. is_in k (keyids_in keys)) (a ++ b)) q in
        never (sym (rw (different-front a b w.0, all-front (λ k. is_in k (keyids_in keys)) a b w.1) refl) ∙ e)
    go false q = q

-- ## Runs

in_none : (x : Bytes) (f : ℕ → Bytes) (i n : ℕ) → ((k : ℕ) → k < n → same x (f (i + k)) ≡ false) → is_in x (run f i n) ≡ false
unfolding is_in run
in_none x f i zero h = refl
in_none x f i (suc n) h =
    let z : i + 0 ≡ i = omega arith in
    let first : same x (f i) ≡ false = rw z at (h 0 (omega arith)) in
    rw first (in_none x f (i + 1) n (λ k l. let e : i + 1 + k ≡ i + suc k = omega arith in rw e (h (suc k) (omega arith))))

in_none-at : (x : Bytes) (f : ℕ → Bytes) (i n : ℕ) → is_in x (run f i n) ≡ false → (k : ℕ) → k < n → same x (f (i + k)) ≡ false
unfolding is_in run
in_none-at x f i zero e k l = absurd (omega arith)
in_none-at x f i (suc n) e zero l = let z : i + 0 ≡ i = omega arith in rw z (neither (same x (f i)) (is_in x (run f (i + 1) n)) e).0
in_none-at x f i (suc n) e (suc k) l =
    let z : i + suc k ≡ i + 1 + k = omega arith in
    rw z (in_none-at x f (i + 1) n (neither (same x (f i)) (is_in x (run f (i + 1) n)) e).1 k (omega arith))

pick-filter : (f : ℕ → Key) (p : Bytes → Bool) (bits i n : ℕ) → ((k : ℕ) → k < n → has bits (i + k) ≡ p (f (i + k)).keyid)
    → pick bits i (run f i n) ≡ filter p (keyids_in (run f i n))
unfolding pick filter run keyids_in
pick-filter f p bits i zero h = refl
pick-filter f p bits i (suc n) h =
    let z : i + 0 ≡ i = omega arith in
    let first : has bits i ≡ p (f i).keyid = rw z at (h 0 (omega arith)) in
    let rest = pick-filter f p bits (i + 1) n (λ k l. let e : i + 1 + k ≡ i + suc k = omega arith in rw e (h (suc k) (omega arith))) in
    rw (first, ← add-one i, rest)

-- ## Bits

-- a number of which no bit is set
no_bits : (m x : ℕ) → x < 2 ^ m → ((k : ℕ) → k < m → has x k ≡ false) → x ≡ 0
no_bits zero x l h = omega arith
no_bits (suc m) x l h =
    let low : x % 2 ≡ 0 = even (sym (has-low x) ∙ h 0 (omega arith)) in
    let rest = no_bits m (x / 2) (omega (arith, pow-suc 2 m)) (λ k j. sym (has-next x k) ∙ h (suc k) (omega arith)) in
    omega arith
  where
    even : eqb (x % 2) 1 ≡ false → x % 2 ≡ 0
    even e = omega (arith, eqb-false (x % 2) 1 e)

module _ (t : KeyTable) where
  abbrev last : ℕ
  last = min t.count max_keys

  abbrev keyid : ℕ → Bytes
  keyid j = view_id (key_at t j).keyid

  keyids-run : keyids_in (view_table t) ≡ run keyid 0 last
  unfolding keyids_in view_table firsts view_key
  keyids-run = map-run (λ (k : Key). k.keyid) (λ i. view_key (key_at t i)) 0 last

  -- bits of the places whose keyids are among acc
  abbrev pub Names : List Bytes → ℕ → Type 0
  Names acc bits = Marks last (λ j. is_in (keyid j) acc) bits

  pub names-none : Names [] 0
  unfolding is_in
  names-none k l = rw (has-zero k, and-false)

  pub picked : (acc : List Bytes) (bits : ℕ) → Names acc bits → pick bits 0 (view_table t) ≡ filter (λ k. is_in k acc) (keyids_in (view_table t))
  unfolding view_table firsts view_key
  picked acc bits m =
      pick-filter (λ i. view_key (key_at t i)) (λ k. is_in k acc) bits 0 last
      (λ (k : ℕ) (l : k < last). rw (zero-add k) (m k (omega arith) ∙ rw (lt-ltb k last l)))

  module _ (id : Bytes) (places : ℕ) (m : Marks last (has_id t id) places) where
    in_table : ((k : ℕ) → k < last → same id (keyid k) ≡ false) → is_in id (keyids_in (view_table t)) ≡ false
    in_table h = rw keyids-run (in_none id keyid 0 last (λ (k : ℕ) (l : k < last). rw (zero-add k) (h k l)))

    not_at : is_in id (keyids_in (view_table t)) ≡ false → (k : ℕ) → k < last → same id (keyid k) ≡ false
    not_at e k l = rw zero-add at (in_none-at id keyid 0 last (sym (ap (is_in id) keyids-run) ∙ e) k l)

    place_at : (k : ℕ) → k < last → has places k ≡ same id (keyid k)
    unfolding has_id
    place_at k l = m k (omega arith) ∙ rw (lt-ltb k last l)

    -- no place has the keyid
    pub unknown : places ≡ 0 → is_in id (keyids_in (view_table t)) ≡ false
    unknown e = in_table (λ k l. sym (place_at k l) ∙ rw e (has-zero k))

    pub known : places < 2 ^ 16 → (places ≡ 0 → ⊥) → is_in id (keyids_in (view_table t)) ≡ true
    unfolding has_id
    known small f = go (is_in id (keyids_in (view_table t))) refl
      where
        off : is_in id (keyids_in (view_table t)) ≡ false → (k : ℕ) → k < 16 → (b : Bool) → ltb k last ≡ b → has places k ≡ false
        off e k l true q = m k l ∙ rw (not_at e k (ltb-true k last q), and-false)
        off e k l false q = m k l ∙ rw q

        go : (b : Bool) → is_in id (keyids_in (view_table t)) ≡ b → is_in id (keyids_in (view_table t)) ≡ true
        go true e = e
        go false e = absurd (f (no_bits 16 places small (λ k l. off e k l (ltb k last) refl)))

    module _ (acc : List Bytes) (bits : ℕ) (names : Names acc bits) where
      both_at : (k : ℕ) → k < 16 → has (bit_and bits places) k ≡ ltb k last && (same id (keyid k) && is_in id acc)
      unfolding has_id
      both_at k l = has-and bits places k ∙ rw (names k l, m k l) (go (ltb k last) (same id (keyid k)) refl)
        where
          go : (b p : Bool) → same id (keyid k) ≡ p → (b && is_in (keyid k) acc) && (b && p) ≡ b && (p && is_in id acc)
          go false p e = refl
          go true true e = rw (same_true id (keyid k) e, and-true)
          go true false e = rw and-false

      -- the keyid was not there before
      pub fresh : is_in id (keyids_in (view_table t)) ≡ true → bit_and bits places ≡ 0 → is_in id acc ≡ false
      fresh e f = go (is_in id acc) refl
        where
          off : is_in id acc ≡ true → (k : ℕ) → k < last → same id (keyid k) ≡ false
          off q k l =
              let w : ltb k last && (same id (keyid k) && is_in id acc) ≡ false = sym (both_at k (omega arith)) ∙ rw f (has-zero k) in
              rw (lt-ltb k last l, q, and-true) at w

          go : (b : Bool) → is_in id acc ≡ b → is_in id acc ≡ false
          go true q = never (sym e ∙ in_table (off q))
          go false q = q

      pub again : places < 2 ^ 16 → (bit_and bits places ≡ 0 → ⊥) → is_in id acc ≡ true
      again small f = go (is_in id acc) refl
        where
          go : (b : Bool) → is_in id acc ≡ b → is_in id acc ≡ true
          go true q = q
          go false q =
              absurd (f (no_bits 16 (bit_and bits places) (omega (arith, and_le_r bits places)) (λ k l. both_at k l ∙ rw (q, and-false, and-false))))

      pub names_more : Names (acc ++ (id ∷ [])) (bit_or bits places)
      unfolding has_id
      names_more k l = has-or bits places k ∙ rw (names k l, m k l, is_in-last (keyid k) id acc) (go (ltb k last))
        where
          go : (b : Bool) → (b && is_in (keyid k) acc) || (b && same id (keyid k)) ≡ b && (is_in (keyid k) acc || same id (keyid k))
          go true = refl
          go false = refl
