-- `gronwythal_install` meets its contract: that of the call.
use mir.Facts.{to_z-of_z}
use mir.Syntax.{w64}
use Rattle.capi.proofs.NumberedLaws.{begins}
use Rattle.capi.proofs.gronwythal_install.Goals as goal

pub returns : goal.returns
returns c = begins _ _ (to_z-of_z {w = w64} c.ranges.start) _ _ c.install.ensures c.from.ensures
