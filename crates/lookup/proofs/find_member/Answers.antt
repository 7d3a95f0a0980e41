-- `find_member` meets its contract: nothing is known.
use Rattle.lookup.proofs.StandsLaws.{known-none}
use Rattle.lookup.proofs.find_member.Goals as goal

pub returns : goal.returns
returns c = c.find_member_by.ensures (known-none _ _ _ c.no_extent.ensures)
