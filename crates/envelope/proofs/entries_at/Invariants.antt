-- `entries_at` meets its contract. The invariant: n keyids are read, the elements left decide the whole, and the walk ends where the array does.
use mathlib.Core.Path.{◌≡◌}
use Prim.Native.Nat.{◌≤◌}
use lib.ListN.{length}
use Rattle.canonical_json.specs.Json.{Json}
use Rattle.lookup.specs.Place.{Stands}
use Rattle.lookup.proofs.ItemLaws.{ahead}
use Rattle.lookup.proofs.EndLaws as end
use Rattle.rules.specs.Limits.{max_entries}
use Rattle.records.specs.View.{view_id, no_id}
use Rattle.forms.specs.Each.{each_item}
use Rattle.forms.proofs.EachLaws.{ItemsWalk}
use Rattle.forms.proofs.ArrayLaws.{front}
use Rattle.envelope.specs.Header.{keyid_of}
use Rattle.envelope.proofs.entries_at.Given as goal

abbrev pub invariant-loop-e : goal.invariant-loop-e
invariant-loop-e l =
    (l.n ≤ max_entries) × (length l.ids ≡ max_entries) × end.WalksItems l.s l.at l.e
    × ((v : Json) → Stands l.s l.at v → ItemsWalk keyid_of 0 max_entries l.s l.e l.n (front view_id no_id l.ids l.n) (each_item 0 max_entries keyid_of v))

abbrev pub decreases-loop-e : goal.decreases-loop-e
decreases-loop-e l = ahead l.s l.e
