-- What is left of a run of n values, at i: every loop over an array goes by these.
use mathlib.Core.Path.{◌≡◌, refl, ap}
use mathlib.Core.List.{[], ◌∷◌}
use Prim.Native.Nat.{ℕ, zero, suc, ◌+◌, ◌-◌, ◌≤◌, ◌<◌}
use native.Mathlib.Omega.{arith}
use lib.ListN.{length, take, drop, get_or, get_or-eq_default}
use Rattle.base.specs.Bytes.{Bytes, same}
use Rattle.base.specs.Window.{run, window, byte_at}
use Rattle.base.proofs.PlaceLaws.{at-cons}
use Rattle.std.specs.List.{list_all, range_with_len}
use lib.Dec.{eqb}

module _ {A : Type 0} (f : ℕ → A) where
  pub run_length : (i n : ℕ) → length (run f i n) ≡ n
  unfolding run
  run_length i zero = refl
  run_length i (suc n) = ap suc (run_length (i + 1) n)

  -- what is left of a run up to place n, at i
  pub run-next : (i n : ℕ) → i < n → run f i (n - i) ≡ f i ∷ run f (i + 1) (n - (i + 1))
  unfolding run
  run-next i n h = let e : n - i ≡ suc (n - (i + 1)) = omega arith in ap (run f i) e

  pub run_end : (i n : ℕ) → n ≤ i → run f i (n - i) ≡ []
  unfolding run
  run_end i n h = let e : n - i ≡ 0 = omega arith in ap (run f i) e

-- a window that lies in the array is a part of it
pub window-part : (a : Bytes) (i n : ℕ) → i + n ≤ length a → window a i n ≡ take n (drop i a)
unfolding run window byte_at
window-part a i zero h = refl
window-part a i (suc n) h = rw (at-cons a i (omega arith)) (ap (λ (t : Bytes). get_or a i 0 ∷ t) (window-part a (i + 1) n (omega arith)))

pub byte_past : (a : Bytes) (i : ℕ) → length a ≤ i → byte_at a i ≡ 0
unfolding byte_at
byte_past a i h = get_or-eq_default a 0 h

-- ## Two windows of n bytes, compared byte by byte from k bytes after i and j on

pub windows-compared : (a b : Bytes) (i j k n : ℕ) → list_all (λ m. eqb (byte_at a (i + m)) (byte_at b (j + m))) (range_with_len k n) ≡ same (window a (i + k) n) (window b (j + k) n)
unfolding run window same
windows-compared a b i j k zero = refl
windows-compared a b i j k (suc n) =
    let e : i + k + 1 ≡ i + (k + 1) = omega arith in
    let f : j + k + 1 ≡ j + (k + 1) = omega arith in
    rw (e, f, windows-compared a b i j (k + 1) n)
