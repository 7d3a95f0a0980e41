-- `find_members` meets its contract: nothing is known.
use Rattle.lookup.proofs.StandsLaws.{known-none}
use Rattle.lookup.proofs.find_members.Goals as goal

pub returns : goal.returns
returns c = c.find_members_by.ensures (known-none _ _ _ c.no_extent.ensures)
