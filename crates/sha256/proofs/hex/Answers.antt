use Rattle.std.proofs.Common.{sym, refl, ◌∙◌, arith, length-set}
use Rattle.base.proofs.HexLaws.{hex_of-next, hex_of-end}
use Rattle.sha256.proofs.hex.Goals as goal

pub loop-i-init : goal.loop-i-init
loop-i-init c = (refl, refl)

pub loop-i-preserved : goal.loop-i-preserved
loop-i-preserved c =
    let l = c.loop-i in (
      simp length-set (omega arith),
      l.invariant.1 ∙ hex_of-next _ l.out l.i _ _ (omega arith) (omega arith) c.hex_char.ensures c.hex_char-in-loop-i.ensures,
    )

pub returns : goal.returns
returns c =
    let l = c.loop-i in
    sym (l.invariant.1 ∙ hex_of-end _ l.out l.i (omega arith) (omega arith))
