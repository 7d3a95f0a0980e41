-- Reading a string undoes writing it, and what is read was written.
use mathlib.Core.Path.{◌≡◌, refl, sym, ap}
use mathlib.Core.List.{List, [], ◌∷◌}
use mathlib.Core.Bool.{Bool, true, false, cond, ◌&&◌, ◌||◌}
use Prim.Native.Nat.{ℕ, zero, suc, ◌≤◌}
use native.Mathlib.Omega.{arith}
use lib.Dec.{eqb, leb}
use borrow.Author.Tests.{ne_eqb, eqb-true, leb-true}
use Rattle.base.specs.Bytes.{Bytes}
use Rattle.base.proofs.TestLaws.{never, both, neither as neither-of}
use Rattle.canonical_json.specs.Lead.{seq, lead_of, look, table, Row, within, wf}
use Rattle.canonical_json.specs.Json.{put_bytes, is_escaped}
use Rattle.canonical_json.specs.Read.{got, chars, esc}
use Rattle.std.specs.declared.option.Option.{Option}
use Rattle.canonical_json.specs.declared.Sequence.{Sequence}
use Rattle.std.specs.declared.option.Option.TheVariants.{None, Some}
use Rattle.canonical_json.proofs.Cases.{choose-elim, led-elim}
use Rattle.canonical_json.proofs.Chars.{chars-nil, chars-start, chars-more, esc-nil, esc-cons}
use Rattle.canonical_json.proofs.Says.{Says, says-bad, says-got, says-also}

-- ## Bytes that follow a lead byte are above 127

abbrev pub Ready : ℕ → ℕ → Type 0
Ready m lo = (m ≡ 0 → ⊥) → 128 ≤ lo

abbrev ready_b : Option Sequence → Bool
ready_b None = true
ready_b (Some l) = eqb l.more 0 || leb 128 l.lo

abbrev all_ready : List Row → Bool
all_ready [] = true
all_ready (r ∷ rs) = ready_b r.start && all_ready rs

look_ready : (rs : List Row) (b : ℕ) → all_ready rs ≡ true → ready_b (look rs b) ≡ true
look_ready [] b e = refl
look_ready (r ∷ rs) b e = go (leb b r.upto) (ready_b r.start) (look_ready rs b) refl e
  where
    go : (x y : Bool) → (all_ready rs ≡ true → ready_b (look rs b) ≡ true) → ready_b r.start ≡ y → y && all_ready rs ≡ true → ready_b (cond x r.start (look rs b)) ≡ true
    go true true k f e = f
    go false true k f e = k e
    go x false k f e = never (sym e)

pub lead_ready : (b m l h : ℕ) → lead_of b ≡ seq m l h → Ready m l
unfolding lead_of
lead_ready b m l h e n =
    let z : ready_b (seq m l h) ≡ true = rw e at (look_ready table b refl) in
    leb-true 128 l (rw (ne_eqb m 0 n) at z)

-- the bytes that are escaped begin and end a character
pub special_lead : (b : ℕ) → is_escaped b ≡ true → lead_of b ≡ seq 0 0 0
unfolding lead_of
special_lead b e = go (eqb b 34) refl e
  where
    go : (x : Bool) → eqb b 34 ≡ x → x || eqb b 92 ≡ true → lead_of b ≡ seq 0 0 0
    go true f e = rw (eqb-true b 34 f)
    go false f e = rw (eqb-true b 92 e)

pub plain : (b : ℕ) → 128 ≤ b → is_escaped b ≡ false
plain b h = rw (ne_eqb b 34 (λ (e : b ≡ 34). omega arith), ne_eqb b 92 (λ (e : b ≡ 92). omega arith))

pub above : (b m lo hi : ℕ) → Ready (suc m) lo → within lo hi b ≡ true → 128 ≤ b
above b m lo hi k e =
    let h : lo ≤ b = leb-true lo b (both (leb lo b) (leb b hi) e).0 in
    let l : 128 ≤ lo = k (λ z. omega arith) in
    omega arith

-- ## What is read was written

abbrev Wrote : Bytes → ℕ → ℕ → ℕ → Bytes → Bytes → Type 0
Wrote t m lo hi bs r = (t ≡ put_bytes bs (34 ∷ r)) × (wf bs m lo hi ≡ true)

mutual
  unfolding put_bytes wf

  pub chars_sound : (t : Bytes) (m lo hi : ℕ) → Ready m lo → Says (Wrote t m lo hi) (chars t m lo hi)
  chars_sound [] m lo hi k = rw chars-nil says-bad
  chars_sound (b ∷ t) zero lo hi k =
      rw chars-start
      (choose-elim (Says (Wrote (b ∷ t) 0 lo hi)) (eqb b 34) _ _
      (λ (e : eqb b 34 ≡ true). says-got (ap (λ (x : ℕ). x ∷ t) (eqb-true b 34 e), refl))
      (λ (e : eqb b 34 ≡ false). choose-elim (Says (Wrote (b ∷ t) 0 lo hi)) (eqb b 92) _ _
      (λ (f : eqb b 92 ≡ true). rw (eqb-true b 92 f) (esc_sound t lo hi))
      (λ (f : eqb b 92 ≡ false). led-elim (Says (Wrote (b ∷ t) 0 lo hi)) (lead_of b) _ says-bad
      (λ m l h g. says-also (λ (x : Bytes). b ∷ x) (chars_sound t m l h (lead_ready b m l h g)) (λ bs r q. (rw (e, f) (ap (λ (x : Bytes). b ∷ x) q.0), rw g q.1))))))
  chars_sound (b ∷ t) (suc m) lo hi k =
      rw chars-more
      (choose-elim (Says (Wrote (b ∷ t) (suc m) lo hi)) (within lo hi b) _ _
      (λ (e : within lo hi b ≡ true). says-also (λ (x : Bytes). b ∷ x) (chars_sound t m 128 191 (λ _. omega arith)) (λ bs r q. (rw (plain b (above b m lo hi k e)) (ap (λ (x : Bytes). b ∷ x) q.0), rw e q.1)))
      (λ _. says-bad))

  pub esc_sound : (t : Bytes) (lo hi : ℕ) → Says (Wrote (92 ∷ t) 0 lo hi) (esc t)
  esc_sound [] lo hi = rw esc-nil says-bad
  esc_sound (c ∷ t) lo hi =
      rw esc-cons
      (choose-elim (Says (Wrote (92 ∷ c ∷ t) 0 lo hi)) (is_escaped c) _ _
      (λ (e : is_escaped c ≡ true). says-also (λ (x : Bytes). c ∷ x) (chars_sound t 0 0 0 (λ n. absurd (n refl))) (λ bs r q. (rw e (ap (λ (x : Bytes). 92 ∷ c ∷ x) q.0), rw (special_lead c e) q.1)))
      (λ _. says-bad))

-- ## What is written is read

pub neither : (b : ℕ) → is_escaped b ≡ false → (eqb b 34 ≡ false) × (eqb b 92 ≡ false)
neither b e = neither-of (eqb b 34) (eqb b 92) e

pub chars-complete : (bs : Bytes) (m lo hi : ℕ) (r : Bytes) → Ready m lo → wf bs m lo hi ≡ true → chars (put_bytes bs (34 ∷ r)) m lo hi ≡ got bs r
unfolding put_bytes wf
chars-complete [] zero lo hi r k w = rw chars-start
chars-complete [] (suc m) lo hi r k w = never (sym w)
chars-complete (b ∷ bs) zero lo hi r k w = go (is_escaped b) refl (lead_of b) refl (λ m l h. chars-complete bs m l h r)
  where
    go : (x : Bool) → is_escaped b ≡ x → (y : Option Sequence) → lead_of b ≡ y
        → ((m l h : ℕ) → Ready m l → wf bs m l h ≡ true → chars (put_bytes bs (34 ∷ r)) m l h ≡ got bs r)
        → chars (cond (is_escaped b) (92 ∷ b ∷ put_bytes bs (34 ∷ r)) (b ∷ put_bytes bs (34 ∷ r))) 0 lo hi ≡ got (b ∷ bs) r
    go true f y g ih =
        let v : wf bs 0 0 0 ≡ true = rw (special_lead b f) at w in
        rw (f, chars-start, esc-cons, f, ih 0 0 0 (λ n. absurd (n refl)) v)
    go false f None g ih = let v : false ≡ true = rw g at w in never (sym v)
    go false f (Some x) g ih =
        let v : wf bs x.more x.lo x.hi ≡ true = rw g at w in
        let n = neither b f in
        rw (f, chars-start, n.0, n.1, g, ih x.more x.lo x.hi (lead_ready b x.more x.lo x.hi g) v)
chars-complete (b ∷ bs) (suc m) lo hi r k w =
    let e = both (within lo hi b) (wf bs m 128 191) w in
    rw (plain b (above b m lo hi k e.0), chars-more, e.0, chars-complete bs m 128 191 r (λ _. omega arith) e.1)
