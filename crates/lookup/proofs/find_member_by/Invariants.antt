-- `find_member_by` meets its contract. The invariant: the members left decide.
use Rattle.lookup.specs.Place.{KnownEnd}
use Rattle.std.specs.declared.option.Option.TheVariants.{None}
use Rattle.lookup.proofs.MemberLaws.{ahead}
use Rattle.lookup.proofs.SeveralLaws.{Seeks}
use Rattle.lookup.proofs.find_member_by.Given as goal

abbrev pub invariant-loop-m : goal.invariant-loop-m
invariant-loop-m l = KnownEnd l.s l.known.at l.known.end → Seeks l.s l.at l.name l.m None

abbrev pub decreases-loop-m : goal.decreases-loop-m
decreases-loop-m l = ahead l.s l.m
