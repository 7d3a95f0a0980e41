-- `each_image` meets its contract. The invariant is the record `Pass`: n images are read, and the members left decide the whole; and the walk ends where the object does.
use Rattle.lookup.proofs.MemberLaws.{ahead}
use Rattle.lookup.proofs.EndLaws.{Walks}
use Rattle.targets_file.proofs.ImageLaws.{Pass}
use Rattle.targets_file.proofs.each_image.Given as goal

abbrev pub invariant-loop-m : goal.invariant-loop-m
invariant-loop-m l = Pass l.s l.path l.at l.search l.n l.m × Walks l.s l.at l.m

abbrev pub decreases-loop-m : goal.decreases-loop-m
decreases-loop-m l = ahead l.s l.m
