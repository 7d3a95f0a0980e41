-- `gronwythal_root` meets its contract: that of the call.
use Rattle.tuf.specs.Promises.{Steps}
use Rattle.capi.proofs.NumberedLaws.{by_number}
use Rattle.capi.proofs.gronwythal_root.Goals as goal

pub returns : goal.returns
returns c = by_number (Steps _ _) _ _ c.from.ensures c.root.ensures
