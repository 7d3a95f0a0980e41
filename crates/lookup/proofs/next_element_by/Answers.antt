-- `next_element_by` meets its contract.
use Rattle.lookup.proofs.ItemLaws as items
use Rattle.lookup.proofs.next_element_by.Goals as goal

pub returns : goal.returns
returns c = record { means = items.next_of _ _ _ _ c.following.ensures; onward = c.following.ensures.onward }
