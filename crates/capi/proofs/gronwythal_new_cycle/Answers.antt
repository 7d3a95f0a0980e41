-- `gronwythal_new_cycle` meets its contract: that of the call.
use mir.Facts.{to_z-of_z}
use mir.Syntax.{w64}
use Rattle.capi.proofs.NumberedLaws.{cycles}
use Rattle.capi.proofs.gronwythal_new_cycle.Goals as goal

pub returns : goal.returns
returns c = cycles _ (to_z-of_z {w = w64} c.ranges.start) _ _ c.new_cycle.ensures c.from.ensures
