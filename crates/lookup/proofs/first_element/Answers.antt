-- `first_element` meets its contract.
use Rattle.lookup.proofs.ItemLaws as items
use Rattle.lookup.proofs.first_element.Goals as goal

pub returns : goal.returns
returns c = record { means = items.first-items _ _ c.opened.ensures; onward = c.opened.ensures.onward; place = items.opens-place _ _ _ _ c.opened.ensures }
