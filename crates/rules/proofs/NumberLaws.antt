-- Each call uses the numbers that 01 names ("Steps"), in rising order. Reading uses 1 to 4 and, of a root, 16. A find is given no
-- verdicts, and since A1 no digest: 5 cannot hold of it.
use mathlib.Core.Path.{◌≡◌, refl}
use mathlib.Core.List.{List, [], ◌∷◌}
use mathlib.Core.Bool.{cond}
use Prim.Native.Nat.{ℕ}
use lib.Dec.{eqb}
use lib.IntN.{ℤ}
use Rattle.base.specs.Bytes.{Bytes}
use Rattle.rules.specs.Records.{Image, File}
use Rattle.rules.specs.State.{Root, Timestamp, Snapshot, State, Install, RootOffer, FileOffer, Query}
use Rattle.rules.specs.Table.{Refusal, ◌when◌}
use Rattle.rules.specs.Steps.{install_table, cycle_table, root_table, timestamp_table, snapshot_table, targets_table, find_table, key_table}
use Rattle.rules.specs.Asked.{Found, image_table}

-- the numbers of a table in their order, once where a number has several lines
abbrev pub ahead : ℕ → List ℕ → List ℕ
ahead n [] = n ∷ []
ahead n (m ∷ ms) = cond (eqb n m) (m ∷ ms) (n ∷ m ∷ ms)

abbrev pub numbers : List Refusal → List ℕ
numbers [] = []
numbers (n when b ∷ rest) = ahead n (numbers rest)

pub record Uses : Type 0 where
  -- "Install (1 to 5, 10)"
  pub install : (o : Install) (r : Root) (es : List Bytes) → numbers (install_table o r es) ≡ 5 ∷ 10 ∷ []
  -- A8: "refused with the new number 17"
  pub cycle : (s : State) (t : ℤ) → numbers (cycle_table s t) ≡ 17 ∷ []
  -- "Root (1 to 6, 9, 10, 11)"
  pub root : (s : State) (o : RootOffer) (r : Root) (es : List Bytes) → numbers (root_table s o r es) ≡ 5 ∷ 6 ∷ 9 ∷ 10 ∷ 11 ∷ []
  -- "Timestamp (1 to 7, 9, 11 to 14)"
  pub timestamp : (s : State) (o : FileOffer) (t : Timestamp) (es : List Bytes)
      → numbers (timestamp_table s o t es) ≡ 5 ∷ 6 ∷ 7 ∷ 9 ∷ 11 ∷ 12 ∷ 13 ∷ 14 ∷ []
  -- "Snapshot (1 to 9, 11, 13, 14)"
  pub snapshot : (s : State) (o : FileOffer) (n : Snapshot) (es : List Bytes)
      → numbers (snapshot_table s o n es) ≡ 5 ∷ 6 ∷ 7 ∷ 8 ∷ 9 ∷ 11 ∷ 13 ∷ 14 ∷ []
  -- "Targets (1 to 9, 11, 14)"
  pub targets : (s : State) (o : FileOffer) (g : File (List Image)) (es : List Bytes)
      → numbers (targets_table s o g es) ≡ 5 ∷ 6 ∷ 7 ∷ 8 ∷ 9 ∷ 11 ∷ 14 ∷ []
  -- "Find (1 to 8, 15)"
  pub find : (s : State) (q : Query) (g : File (List Image)) (es : List Bytes) → numbers (find_table s q g es) ≡ 6 ∷ 7 ∷ 8 ∷ 15 ∷ []
  -- "a key uses 6 and 15"
  pub key : (s : State) (k : Bytes) → numbers (key_table s k) ≡ 6 ∷ 15 ∷ []
  -- "Image (5, 8)"
  pub image : (listed fetched : Found) → numbers (image_table listed fetched) ≡ 5 ∷ 8 ∷ []

pub uses : Uses
unfolding install_table cycle_table root_table timestamp_table snapshot_table targets_table find_table key_table image_table
uses =
    record {
      install = λ o r es. refl;
      cycle = λ s t. refl;
      root = λ s o r es. refl;
      timestamp = λ s o t es. refl;
      snapshot = λ s o n es. refl;
      targets = λ s o g es. refl;
      find = λ s q g es. refl;
      key = λ s k. refl;
      image = λ listed fetched. refl;
    }
