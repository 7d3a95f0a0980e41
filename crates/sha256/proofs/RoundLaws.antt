-- One turn of the loops over the schedule and the rounds.
use Rattle.std.proofs.Common.{◌≡◌, ℕ, suc, ◌+◌, ◌-◌, ◌<◌, ◌≤◌, List, [], ◌∷◌, length, refl, get_or, take, set, arith, get_or-take, take-suc-set}
use mathlib.Core.Logic.{◌⊎◌, inl, inr}
use Rattle.sha256.specs.Words.{add, σ₀, σ₁}
use Rattle.sha256.specs.Compress.{next_word, schedule, round, rounds}
use Rattle.sha256.specs.declared.Hash.{Hash}

-- a word of the schedule depends on those before it alone
next-take : (w : List ℕ) (t : ℕ) → 16 ≤ t → next_word (take t w) t ≡ next_word w t
unfolding next_word
next-take w t h =
    rw (get_or-take t w (t - 2) 0 (omega arith), get_or-take t w (t - 7) 0 (omega arith), get_or-take t w (t - 15) 0 (omega arith), get_or-take t w (t - 16) 0 (omega arith))

pub schedule-next : (m w : List ℕ) (t v : ℕ) → 16 ≤ t → t < length w → take t w ≡ schedule m (t - 16)
    → v ≡ add (add (add (σ₁ (get_or w (t - 2) 0)) (get_or w (t - 7) 0)) (σ₀ (get_or w (t - 15) 0))) (get_or w (t - 16) 0)
    → take (t + 1) (set w t v) ≡ schedule m (t + 1 - 16)
unfolding schedule next_word
schedule-next m w t v h k e f =
    let a : t + 1 ≡ suc t = omega arith in
    let b : suc t - 16 ≡ suc (t - 16) = omega arith in
    let c : t - 16 + 16 ≡ t = omega arith in
    rw (a, take-suc-set w t v k, b, ← e, c, next-take w t h, f)

-- the next round of those that are left
pub rounds-next : (v r : Hash) (k w : ℕ) (kl ks wl ws : List ℕ) → kl ≡ k ∷ ks → wl ≡ w ∷ ws → r ≡ round v k w → rounds v kl wl ≡ rounds r ks ws
unfolding rounds
rounds-next v r k w kl ks wl ws e f g = rw (e, f, g)

-- none is left where the constants or the words are used up
pub rounds-end : (v : Hash) (ks ws : List ℕ) → (length ks ≡ 0) ⊎ (length ws ≡ 0) → rounds v ks ws ≡ v
unfolding rounds
rounds-end v [] ws h = refl
rounds-end v (k ∷ ks) [] h = refl
rounds-end v (k ∷ ks) (w ∷ ws) (inl e) = absurd (omega arith)
rounds-end v (k ∷ ks) (w ∷ ws) (inr e) = absurd (omega arith)
