-- `find_members_by` meets its contract. The invariant: of each name something was found or the members left decide, and the walk ends where the object does.
use Rattle.lookup.specs.Place.{KnownEnd}
use Rattle.lookup.proofs.MemberLaws.{ahead}
use Rattle.lookup.proofs.EndLaws.{Walks}
use Rattle.lookup.proofs.SeveralLaws.{Seeks}
use Rattle.lookup.proofs.find_members_by.Given as goal

abbrev pub invariant-loop-m : goal.invariant-loop-m
invariant-loop-m l =
    KnownEnd l.s l.known.at l.known.end → Walks l.s l.at l.m × Seeks l.s l.at l.a l.m l.first × Seeks l.s l.at l.b l.m l.second × Seeks l.s l.at l.c l.m l.third × Seeks l.s l.at l.d l.m l.fourth

abbrev pub decreases-loop-m : goal.decreases-loop-m
decreases-loop-m l = ahead l.s l.m
