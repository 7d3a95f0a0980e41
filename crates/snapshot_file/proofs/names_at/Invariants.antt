-- `names_at` meets its contract. The invariant: n names are read, the members left decide the whole and whether `targets.json` is there, and the walk ends where the object does.
use mathlib.Core.Path.{◌≡◌}
use Prim.Native.Nat.{◌≤◌}
use lib.ListN.{length}
use Rattle.base.specs.Bytes.{bytes}
use Rattle.canonical_json.specs.Json.{Json}
use Rattle.lookup.specs.Place.{Stands}
use Rattle.lookup.proofs.MemberLaws.{ahead}
use Rattle.lookup.proofs.EndLaws.{Walks}
use Rattle.lookup.proofs.SeveralLaws.{Seeks}
use Rattle.rules.specs.Limits.{max_names}
use Rattle.rules.specs.Forms.{named}
use Rattle.records.specs.View.{view_named, no_named}
use Rattle.forms.specs.Each.{each_member}
use Rattle.forms.proofs.EachLaws.{MembersWalk}
use Rattle.forms.proofs.ArrayLaws.{front}
use Rattle.snapshot_file.proofs.names_at.Given as goal

abbrev pub invariant-loop-m : goal.invariant-loop-m
invariant-loop-m l =
    (l.n ≤ max_names) × (length l.named ≡ max_names) × Walks l.s l.at l.m × Seeks l.s l.at (bytes "targets.json") l.m l.targets
    × ((v : Json) → Stands l.s l.at v → MembersWalk named 1 max_names l.s l.m l.n (front view_named no_named l.named l.n) (each_member 1 max_names named v))

abbrev pub decreases-loop-m : goal.decreases-loop-m
decreases-loop-m l = ahead l.s l.m
