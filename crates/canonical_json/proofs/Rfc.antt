-- The reader's automaton accepts just the strings of RFC 3629's grammar that have no byte below 32.
use mathlib.Core.Path.{◌≡◌, refl, sym, ap}
use mathlib.Core.List.{[], ◌∷◌}
use mathlib.Core.Bool.{true}
use Prim.Native.Nat.{ℕ, zero, suc, ◌≤◌}
use native.Mathlib.Omega.{arith}
use lib.ListN.{length}
use lib.Dec.{leb}
use borrow.Author.Tests.{leb-true, leb-false, le-leb}
use Rattle.base.specs.Bytes.{Bytes}
use Rattle.base.proofs.TestLaws.{never, both, cond-elim}
use Rattle.canonical_json.specs.Lead.{seq, lead_of, within, wf, well_led}
use Rattle.canonical_json.specs.Rfc3629.{Lead3, e0, e1_ec, ed, ee_ef, Lead4, f0, f1_f3, f4, Utf8, nothing, one, two, three, four, From32}
use Rattle.std.specs.declared.option.Option.{Option}
use Rattle.canonical_json.specs.declared.Sequence.{Sequence}
use Rattle.canonical_json.proofs.Rows.{found}

in_it : (lo hi b : ℕ) → lo ≤ b → b ≤ hi → within lo hi b ≡ true
in_it lo hi b h k = rw (le-leb lo b h, le-leb b hi k)

-- ## The grammar's strings are accepted

tail-on : (b m lo hi : ℕ) (t : Bytes) → lo ≤ b → b ≤ hi → wf t m 128 191 ≡ true → wf (b ∷ t) (suc m) lo hi ≡ true
unfolding wf
tail-on b m lo hi t h k w = rw (in_it lo hi b h k) w

lead-on : (a m l h lo hi : ℕ) (t : Bytes) → seq m l h ≡ lead_of a → wf t m l h ≡ true → wf (a ∷ t) 0 lo hi ≡ true
unfolding wf
lead-on a m l h lo hi t e w = rw (← e) w

wf-nil : (lo hi : ℕ) → wf [] 0 lo hi ≡ true
unfolding wf
wf-nil lo hi = refl

pub of_rfc : (s : Bytes) → Utf8 s → From32 s → (lo hi : ℕ) → wf s 0 lo hi ≡ true
of_rfc s nothing p lo hi = wf-nil lo hi
of_rfc s (one {a} {t} h u) p lo hi = lead-on a 0 0 0 lo hi t (found 1 32 a p.0 refl h) (of_rfc t u p.1 0 0)
of_rfc s (two {a} {b} {t} h k x u) p lo hi = lead-on a 1 128 191 lo hi (b ∷ t) (found 3 194 a h refl k) (tail-on b 0 128 191 t x.0 x.1 (of_rfc t u p.1.1 128 191))
of_rfc s (three {a} {b} {c} {t} l x u) p lo hi = lead3 a b l (tail-on c 0 128 191 t x.0 x.1 (of_rfc t u p.1.1.1 128 191))
  where
    lead3 : (a b : ℕ) → Lead3 a b → wf (c ∷ t) 1 128 191 ≡ true → wf (a ∷ b ∷ c ∷ t) 0 lo hi ≡ true
    lead3 a b (e0 h k) w = lead-on 224 2 160 191 lo hi (b ∷ c ∷ t) (found 4 224 224 (omega arith) refl (omega arith)) (tail-on b 1 160 191 (c ∷ t) h k w)
    lead3 a b (e1_ec h k y) w = lead-on a 2 128 191 lo hi (b ∷ c ∷ t) (found 5 225 a h refl k) (tail-on b 1 128 191 (c ∷ t) y.0 y.1 w)
    lead3 a b (ed h k) w = lead-on 237 2 128 159 lo hi (b ∷ c ∷ t) (found 6 237 237 (omega arith) refl (omega arith)) (tail-on b 1 128 159 (c ∷ t) h k w)
    lead3 a b (ee_ef h k y) w = lead-on a 2 128 191 lo hi (b ∷ c ∷ t) (found 7 238 a h refl k) (tail-on b 1 128 191 (c ∷ t) y.0 y.1 w)
of_rfc s (four {a} {b} {c} {d} {t} l x z u) p lo hi = lead4 a b l (tail-on c 1 128 191 (d ∷ t) x.0 x.1 (tail-on d 0 128 191 t z.0 z.1 (of_rfc t u p.1.1.1.1 128 191)))
  where
    lead4 : (a b : ℕ) → Lead4 a b → wf (c ∷ d ∷ t) 2 128 191 ≡ true → wf (a ∷ b ∷ c ∷ d ∷ t) 0 lo hi ≡ true
    lead4 a b (f0 h k) w = lead-on 240 3 144 191 lo hi (b ∷ c ∷ d ∷ t) (found 8 240 240 (omega arith) refl (omega arith)) (tail-on b 2 144 191 (c ∷ d ∷ t) h k w)
    lead4 a b (f1_f3 h k y) w = lead-on a 3 128 191 lo hi (b ∷ c ∷ d ∷ t) (found 9 241 a h refl k) (tail-on b 2 128 191 (c ∷ d ∷ t) y.0 y.1 w)
    lead4 a b (f4 h k) w = lead-on 244 3 128 143 lo hi (b ∷ c ∷ d ∷ t) (found 10 244 244 (omega arith) refl (omega arith)) (tail-on b 2 128 143 (c ∷ d ∷ t) h k w)

-- ## What is accepted is a string of the grammar

-- a byte that goes on with a character
record More (t : Bytes) (m lo hi : ℕ) : Type 0 where
  byte : ℕ
  rest : Bytes
  is : t ≡ byte ∷ rest
  low : lo ≤ byte
  high : byte ≤ hi
  on : wf rest m 128 191 ≡ true

more : (t : Bytes) (m lo hi : ℕ) → wf t (suc m) lo hi ≡ true → More t m lo hi
unfolding wf
more [] m lo hi w = never (sym w)
more (b ∷ t) m lo hi w =
    let e = both (within lo hi b) (wf t m 128 191) w in
    let k = both (leb lo b) (leb b hi) e.0 in
    record { byte = b; rest = t; is = refl; low = leb-true lo b k.0; high = leb-true b hi k.1; on = e.1 }

-- the range that stands beside 0 is idle
idle : (t : Bytes) (lo hi : ℕ) → wf t 0 lo hi ≡ true → wf t 0 0 0 ≡ true
unfolding wf
idle [] lo hi w = w
idle (b ∷ t) lo hi w = w

abbrev Is : Bytes → Type 0
Is s = Utf8 s × From32 s

module _ (n : ℕ) (ih : (s : Bytes) → length s ≤ n → wf s 0 0 0 ≡ true → Is s) (a : ℕ) (t : Bytes) (len : length t ≤ n) where
  two' : 194 ≤ a → a ≤ 223 → wf t 1 128 191 ≡ true → Is (a ∷ t)
  two' h k w =
      let x = more t 0 128 191 w in
      let e = ap length x.is in
      let r = ih x.rest (omega arith) (idle x.rest 128 191 x.on) in
      let l = x.low in
      rw x.is (two h k (x.low, x.high) r.0, (omega arith, (omega arith, r.1)))

  three' : (lo hi : ℕ) → 128 ≤ lo → 32 ≤ a → ((b : ℕ) → lo ≤ b → b ≤ hi → Lead3 a b) → wf t 2 lo hi ≡ true → Is (a ∷ t)
  three' lo hi g q f w =
      let x = more t 1 lo hi w in
      let y = more x.rest 0 128 191 x.on in
      let e = ap length x.is in
      let e' = ap length y.is in
      let r = ih y.rest (omega arith) (idle y.rest 128 191 y.on) in
      let l = x.low in
      let l' = y.low in
      rw (x.is, y.is) (three (f x.byte x.low x.high) (y.low, y.high) r.0, (q, (omega arith, (omega arith, r.1))))

  four' : (lo hi : ℕ) → 128 ≤ lo → 32 ≤ a → ((b : ℕ) → lo ≤ b → b ≤ hi → Lead4 a b) → wf t 3 lo hi ≡ true → Is (a ∷ t)
  four' lo hi g q f w =
      let x = more t 2 lo hi w in
      let y = more x.rest 1 128 191 x.on in
      let z = more y.rest 0 128 191 y.on in
      let e = ap length x.is in
      let e' = ap length y.is in
      let e'' = ap length z.is in
      let r = ih z.rest (omega arith) (idle z.rest 128 191 z.on) in
      let l = x.low in
      let l' = y.low in
      let l'' = z.low in
      rw (x.is, y.is, z.is) (four (f x.byte x.low x.high) (y.low, y.high) (z.low, z.high) r.0, (q, (omega arith, (omega arith, (omega arith, r.1)))))

  abbrev Row : Option Sequence → Type 0
  Row x = well_led x (λ m l h. wf t m l h) ≡ true → Is (a ∷ t)

  by_row : Row (lead_of a)
  unfolding lead_of
  by_row =
      cond-elim Row (leb a 31) _ _ (λ _ w. never (sym w))
      (λ g31. cond-elim Row (leb a 127) _ _ (λ e w. let r = ih t len w in (one (leb-true a 127 e) r.0, (leb-false a 31 g31, r.1)))
      (λ _. cond-elim Row (leb a 193) _ _ (λ _ w. never (sym w))
      (λ g193. cond-elim Row (leb a 223) _ _ (λ e w. two' (leb-false a 193 g193) (leb-true a 223 e) w)
      (λ g223. cond-elim Row (leb a 224) _ _ (λ e w. let p = leb-false a 223 g223 in let q = leb-true a 224 e in let z : a ≡ 224 = omega arith in three' 160 191 (omega arith) (omega arith) (λ b h k. rw z (e0 h k)) w)
      (λ g224. cond-elim Row (leb a 236) _ _ (λ e w. let p = leb-false a 224 g224 in three' 128 191 (omega arith) (omega arith) (λ b h k. e1_ec (leb-false a 224 g224) (leb-true a 236 e) (h, k)) w)
      (λ g236. cond-elim Row (leb a 237) _ _ (λ e w. let p = leb-false a 236 g236 in let q = leb-true a 237 e in let z : a ≡ 237 = omega arith in three' 128 159 (omega arith) (omega arith) (λ b h k. rw z (ed h k)) w)
      (λ g237. cond-elim Row (leb a 239) _ _ (λ e w. let p = leb-false a 237 g237 in three' 128 191 (omega arith) (omega arith) (λ b h k. ee_ef (leb-false a 237 g237) (leb-true a 239 e) (h, k)) w)
      (λ g239. cond-elim Row (leb a 240) _ _ (λ e w. let p = leb-false a 239 g239 in let q = leb-true a 240 e in let z : a ≡ 240 = omega arith in four' 144 191 (omega arith) (omega arith) (λ b h k. rw z (f0 h k)) w)
      (λ g240. cond-elim Row (leb a 243) _ _ (λ e w. let p = leb-false a 240 g240 in four' 128 191 (omega arith) (omega arith) (λ b h k. f1_f3 (leb-false a 240 g240) (leb-true a 243 e) (h, k)) w)
      (λ g243. cond-elim Row (leb a 244) _ _ (λ e w. let p = leb-false a 243 g243 in let q = leb-true a 244 e in let z : a ≡ 244 = omega arith in four' 128 143 (omega arith) (omega arith) (λ b h k. rw z (f4 h k)) w)
      (λ _ w. never (sym w))))))))))))

to_rfc_in : (n : ℕ) (s : Bytes) → length s ≤ n → wf s 0 0 0 ≡ true → Is s
unfolding wf
to_rfc_in zero [] h w = (nothing, tt)
to_rfc_in zero (b ∷ t) h w = absurd (omega arith)
to_rfc_in (suc n) [] h w = (nothing, tt)
to_rfc_in (suc n) (b ∷ t) h w = by_row n (λ s k v. to_rfc_in n s k v) b t (omega arith) w

pub to_rfc : (s : Bytes) → wf s 0 0 0 ≡ true → Utf8 s × From32 s
to_rfc s w = to_rfc_in (length s) s (omega arith) w
