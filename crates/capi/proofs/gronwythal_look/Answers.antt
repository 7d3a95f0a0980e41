-- `gronwythal_look` meets its contract: that of the call.
use Rattle.capi.specs.View.{view_look}
use Rattle.capi.proofs.NumberedLaws.{look-number}
use Rattle.capi.proofs.gronwythal_look.Goals as goal

pub returns : goal.returns
unfolding view_look
returns c = look-number _ _ c.number.ensures _ c.look-looked.ensures
