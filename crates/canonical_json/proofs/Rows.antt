-- A row of a table of ranges is found.
use mathlib.Core.Path.{◌≡◌, refl, sym}
use mathlib.Core.List.{List, [], ◌∷◌}
use mathlib.Core.Bool.{Bool, true, ◌&&◌}
use Prim.Native.Nat.{ℕ, zero, suc, ◌≤◌, ◌<◌}
use native.Mathlib.Omega.{arith}
use lib.Dec.{ltb}
use borrow.Author.Tests.{lt-leb, le-leb, ltb-true}
use Rattle.base.proofs.TestLaws.{both}
use Rattle.canonical_json.specs.Lead.{Row, look, table, lead_of}
use Rattle.std.specs.declared.option.Option.TheVariants.{None}

abbrev pub nth : ℕ → List Row → Row
nth n [] = record { upto = 255; start = None }
nth zero (r ∷ rs) = r
nth (suc n) (r ∷ rs) = nth n rs

-- the first n rows end below lo
abbrev pub below : ℕ → List Row → ℕ → Bool
below zero rs lo = true
below (suc n) [] lo = true
below (suc n) (r ∷ rs) lo = ltb r.upto lo && below n rs lo

find : (n : ℕ) (rs : List Row) (lo b : ℕ) → lo ≤ b → below n rs lo ≡ true → b ≤ (nth n rs).upto → look rs b ≡ (nth n rs).start
find n [] lo b h t k = refl
find zero (r ∷ rs) lo b h t k = simp (le-leb b r.upto k)
find (suc n) (r ∷ rs) lo b h t k =
    let e = both (ltb r.upto lo) (below n rs lo) t in
    let lt : r.upto < lo = ltb-true r.upto lo e.0 in
    simp (lt-leb b r.upto (omega arith)) (find n rs lo b h e.1 k)

pub found : (n lo b : ℕ) → lo ≤ b → below n table lo ≡ true → b ≤ (nth n table).upto → (nth n table).start ≡ lead_of b
unfolding lead_of
found n lo b h t k = sym (find n table lo b h t k)
