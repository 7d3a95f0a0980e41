-- `next_element` meets its contract.
use Rattle.lookup.proofs.ItemLaws as items
use Rattle.lookup.proofs.next_element.Goals as goal

pub returns : goal.returns
returns c = items.next_of _ _ _ _ c.following.ensures tt
