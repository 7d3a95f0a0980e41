-- FIPS 180-4, 6.2.2: the hash computation of one block.
use Rattle.std.specs.Prelude.{ℕ, zero, suc, ◌+◌, ◌-◌, List, [], ◌∷◌, ◌++◌, slice_index}
use Rattle.sha256.specs.Words.{add, ch, maj, Σ₀, Σ₁, σ₀, σ₁}
use Rattle.sha256.specs.Constants.{constants}
use Rattle.sha256.specs.declared.Hash.{Hash}

-- 6.2.2, 1: the word t of the schedule, by those before it
unfoldable pub next_word : List ℕ → ℕ → ℕ
next_word w t = add (add (add (σ₁ (slice_index w (t - 2))) (slice_index w (t - 7))) (σ₀ (slice_index w (t - 15)))) (slice_index w (t - 16))

-- 6.2.2, 1: the schedule, the block's 16 words m and k more
unfoldable pub schedule : List ℕ → ℕ → List ℕ
schedule m zero = m
schedule m (suc k) = schedule m k ++ (next_word (schedule m k) (k + 16) ∷ [])

-- 6.2.2, 3: one round, with its constant k and its word w
unfoldable pub round : Hash → ℕ → ℕ → Hash
round v k w =
    let t1 = add (add (add (add v.h (Σ₁ v.e)) (ch v.e v.f v.g)) k) w in
    let t2 = add (Σ₀ v.a) (maj v.a v.b v.c) in
    record { a = add t1 t2; b = v.a; c = v.b; d = v.c; e = add v.d t1; f = v.e; g = v.f; h = v.g }

-- 6.2.2, 3: a round for each constant and word
unfoldable pub rounds : Hash → List ℕ → List ℕ → Hash
rounds v [] ws = v
rounds v (k ∷ ks) [] = v
rounds v (k ∷ ks) (w ∷ ws) = rounds (round v k w) ks ws

-- 6.2.2, 4: the working variables v added to the hash value before, u
unfoldable pub sum : Hash → Hash → Hash
sum v u =
    record { a = add v.a u.a; b = add v.b u.b; c = add v.c u.c; d = add v.d u.d; e = add v.e u.e; f = add v.f u.f; g = add v.g u.g; h = add v.h u.h }

-- 6.2.2, 1 to 4: the hash value after the block of the 16 words m, where it was v
unfoldable pub compress : Hash → List ℕ → Hash
compress v m = sum (rounds v constants (schedule m 48)) v
