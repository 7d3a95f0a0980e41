-- The search of a targets list (02, A2): "names rise, so the search can stop at the first that is not smaller than the path". The law `early-stop`
-- says that on rising names it answers as the whole search, and `targets-rise` that the names of a targets file rise.
use Rattle.std.specs.Prelude.{◌≡◌, true, cond, List, [], ◌∷◌, map, ℕ, ◌+◌, ltb, length}
use Rattle.std.specs.declared.option.Option.{Option}
use Rattle.std.specs.declared.option.Option.TheVariants.{None}
use Rattle.base.specs.Bytes.{Bytes, same, less}
use Rattle.canonical_json.specs.Fields.{keep}
use Rattle.rules.specs.Records.{Image}
use Rattle.rules.specs.State.{filter}
use Rattle.rules.specs.Conditions.{image_of}

-- the names of a list, in file order
unfoldable pub paths : List Image → List Bytes
paths is = map (λ (i : Image). i.path) is

-- how many names are smaller than the path
unfoldable pub smaller : Bytes → List Bytes → ℕ
smaller path names = length (filter (λ n. less n path) names)

-- "how many names it compared: exactly the smaller ones, and one more where one is left"
unfoldable pub compared : Bytes → List Bytes → ℕ
compared path names = smaller path names + cond (ltb (smaller path names) (length names)) 1 0

-- ## The search that stops

-- the image that a search found, and how many names it compared
pub record Search : Type 0 where
  pub image : Option Image
  pub compared : ℕ

-- one name more was compared, before these
unfoldable pub after : Search → Search
after r = record { image = r.image; compared = 1 + r.compared }

-- it goes on past a smaller name, and ends with the first other one
unfoldable pub stopping : Bytes → List Image → Search
stopping path [] = record { image = None; compared = 0 }
stopping path (i ∷ is) =
    cond (less i.path path) (after (stopping path is)) (record { image = keep (same path i.path) i; compared = 1 })

-- what it must answer: the image, if any name of the whole list is the path, and the number by its definition
unfoldable pub searched : Bytes → List Image → Search
searched path is = record { image = image_of path is; compared = compared path (paths is) }

-- "Member names rise strictly": names after one that is p
unfoldable pub Above : Bytes → List Bytes → Type 0
Above p [] = Unit {0}
Above p (n ∷ ns) = (less p n ≡ true) × Above n ns

unfoldable pub Rising : List Bytes → Type 0
Rising [] = Unit {0}
Rising (n ∷ ns) = Above n ns
