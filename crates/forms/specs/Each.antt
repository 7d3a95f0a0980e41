-- Lists with limits: lo to hi elements of an array, or members of an object, each of a form.
use Rattle.std.specs.declared.option.Option.{Option}
use Rattle.std.specs.Prelude.{List, ◌&&◌, ℕ, leb}
use Rattle.base.specs.Bytes.{Bytes}
use Rattle.canonical_json.specs.Json.{Json}
use Rattle.canonical_json.specs.Fields.{items, members, size, count, keep}
use Rattle.rules.specs.Take.{◌>>=◌, each, each_named}

unfoldable pub each_item : {A : Type 0} → ℕ → ℕ → (Json → Option A) → Json → Option (List A)
each_item lo hi f v = items v >>= λ xs. keep (leb lo (size xs) && leb (size xs) hi) xs >>= each f

unfoldable pub each_member : {A : Type 0} → ℕ → ℕ → (Bytes → Json → Option A) → Json → Option (List A)
each_member lo hi f v = members v >>= λ ms. keep (leb lo (count ms) && leb (count ms) hi) ms >>= each_named f
