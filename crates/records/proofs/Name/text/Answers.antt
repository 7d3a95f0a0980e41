-- The window over the name's bytes is its part.
use Rattle.std.proofs.Common.{arith, sym}
use Rattle.base.proofs.WindowLaws.{window-part}
use Rattle.records.specs.View.{view_name}
use Rattle.records.proofs.Name.text.Goals as goal

pub returns : goal.returns
unfolding view_name
returns c = rw c.at_most.ensures (sym (window-part _ _ _ (omega arith)))
