-- `naming_at` meets its contract. The invariant: the bits are the keyids read, the elements left decide the whole, and the walk ends where the array does.
use Prim.Native.Nat.{◌≤◌}
use Rattle.canonical_json.specs.Json.{Json}
use Rattle.lookup.specs.Place.{Stands}
use Rattle.lookup.proofs.ItemLaws.{ahead}
use Rattle.lookup.proofs.EndLaws.{WalksItems}
use Rattle.rules.specs.Limits.{max_keyids}
use Rattle.root_file.proofs.RoleLaws.{Gathered}
use Rattle.root_file.proofs.naming_at.Given as goal

abbrev pub invariant-loop-e : goal.invariant-loop-e
invariant-loop-e l = (l.n ≤ max_keyids) × WalksItems l.s l.at l.e × ((v : Json) → Stands l.s l.at v → Gathered l.table l.s v l.keys l.n l.e)

abbrev pub decreases-loop-e : goal.decreases-loop-e
decreases-loop-e l = ahead l.s l.e
