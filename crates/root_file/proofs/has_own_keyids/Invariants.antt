-- `has_own_keyids` meets its contract. The invariant: the members left decide the whole.
use Rattle.canonical_json.specs.Json.{Json}
use Rattle.canonical_json.specs.Fields.{members}
use Rattle.lookup.specs.Place.{Stands}
use Rattle.lookup.proofs.MemberLaws.{ahead}
use Rattle.rules.specs.Forms.{own_table}
use Rattle.root_file.proofs.OwnLaws.{OwnLeft}
use Rattle.root_file.proofs.has_own_keyids.Given as goal

abbrev pub invariant-loop-m : goal.invariant-loop-m
invariant-loop-m l = (v : Json) → Stands l.s l.at v → OwnLeft l.s (own_table (members v)) l.m

abbrev pub decreases-loop-m : goal.decreases-loop-m
decreases-loop-m l = ahead l.s l.m
