-- The elements of an array by their place, counted from 0.
use Rattle.std.specs.declared.option.Option.{Option}
use Rattle.std.specs.declared.option.Option.TheVariants.{Some}
use Rattle.std.specs.Prelude.{List, [], ◌∷◌, ℕ}
use Rattle.canonical_json.specs.Json.{Json, Items, inil, icons}
use Rattle.canonical_json.specs.Fields.{items}
use Rattle.rules.specs.Take.{◌>>=◌}
use Rattle.rules.specs.Forms.{entry}
use Rattle.rules.specs.Asked.{EntryAsked, nth, the_entry}

unfoldable pub elements : Items → List Json
elements inil = []
elements (icons v vs) = v ∷ elements vs

-- none where there is no array, or it has fewer elements
unfoldable pub element_at : ℕ → Json → Option Json
element_at i v = items v >>= λ xs. nth i (elements xs)

-- what is given of an element that is an entry
unfoldable pub asked_entry : Json → Option EntryAsked
asked_entry v = entry v >>= λ e. Some (the_entry (Some e))
