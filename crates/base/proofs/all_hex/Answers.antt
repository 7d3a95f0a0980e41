use Rattle.std.proofs.Common.{arith, ◌∙◌, sym}
use Rattle.base.proofs.HexLaws.{hex-next, hex-end}
use Rattle.base.proofs.all_hex.Goals as goal

pub loop-b-preserved : goal.loop-b-preserved
loop-b-preserved c = let l = c.loop-b in l.invariant ∙ hex-next _ l.b-index l.ok _ (omega arith) c.hex_digit.ensures

pub returns : goal.returns
returns c = let l = c.loop-b in sym (l.invariant ∙ hex-end _ l.b-index l.ok (omega arith))
