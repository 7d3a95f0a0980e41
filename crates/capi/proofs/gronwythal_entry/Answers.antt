-- `gronwythal_entry` meets its contract: that of the call.
use Rattle.capi.specs.View.{view_entry_read}
use Rattle.capi.proofs.NumberedLaws.{entry-number}
use Rattle.capi.proofs.gronwythal_entry.Goals as goal

pub returns : goal.returns
unfolding view_entry_read
returns c = entry-number _ _ c.number.ensures _ c.entry-read.ensures
