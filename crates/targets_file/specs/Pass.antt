-- The search in the pass over the images of a targets file.
use Rattle.std.specs.Prelude.{◌≡◌, false, cond, not, List, [], ◌∷◌, ℕ, ◌+◌, drop}
use Rattle.std.specs.declared.option.Option.TheVariants.{None}
use Rattle.base.specs.Bytes.{Bytes, same, less}
use Rattle.canonical_json.specs.Read.{raw}
use Rattle.canonical_json.specs.Fields.{keep}
use Rattle.rules.specs.Records.{Image}
use Rattle.targets_file.specs.View.{image_as, HexImage, Sought, view_search}
use Rattle.targets_file.specs.declared.ImageAt.{ImageAt}
use Rattle.targets_file.specs.declared.Search.{Search}

-- n names were compared, all of them smaller than the path
unfoldable pub going : ℕ → Sought
going n = record { over = false; compared = n; image = None }

-- the name of one image more is compared
unfoldable pub comparing : Bytes → Sought → Image → Sought
comparing path r i =
    record {
      over = not (less i.path path);
      compared = r.compared + 1;
      image = keep (same path i.path) (record { length = i.length; digest = i.digest });
    }

-- where the search is not over
unfoldable pub with_image : Bytes → Sought → Image → Sought
with_image path r i = cond r.over r (comparing path r i)

-- and one after another
unfoldable pub seek : Bytes → Sought → List Image → Sought
seek path r [] = r
seek path r (i ∷ is) = seek path (with_image path r i) is

-- r says the same of the images before and one more, the n-th, whose name is read at i and whose digits are a digest's
abbrev pub OneMore : Bytes → Bytes → Search → ℕ → ℕ → ImageAt → Search → Type 0
OneMore s path before n i image r =
    (before.over ≡ false → n ≡ before.compared + 1) → HexImage s image
    → view_search r ≡ with_image path (view_search before) (image_as s (raw (drop i s)) image)
