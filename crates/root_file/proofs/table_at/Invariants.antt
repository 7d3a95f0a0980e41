-- `table_at` meets its contract. The invariant: n keys are read, the members left decide the whole, and the walk ends where the object does.
use mathlib.Core.Path.{◌≡◌}
use Prim.Native.Nat.{◌≤◌}
use lib.ListN.{length}
use Rattle.canonical_json.specs.Json.{Json}
use Rattle.lookup.specs.Place.{Stands}
use Rattle.lookup.proofs.MemberLaws.{ahead}
use Rattle.lookup.proofs.EndLaws.{Walks}
use Rattle.rules.specs.Limits.{max_keys}
use Rattle.rules.specs.Forms.{key}
use Rattle.records.specs.View.{view_key, no_key}
use Rattle.forms.specs.Each.{each_member}
use Rattle.forms.proofs.ArrayLaws.{front}
use Rattle.forms.proofs.EachLaws.{MembersWalk}
use Rattle.root_file.proofs.table_at.Given as goal

abbrev pub invariant-loop-m : goal.invariant-loop-m
invariant-loop-m l =
    (l.n ≤ max_keys) × (length l.keys ≡ max_keys) × Walks l.s l.at l.m
    × ((v : Json) → Stands l.s l.at v → MembersWalk key 1 max_keys l.s l.m l.n (front view_key no_key l.keys l.n) (each_member 1 max_keys key v))

abbrev pub decreases-loop-m : goal.decreases-loop-m
decreases-loop-m l = ahead l.s l.m
