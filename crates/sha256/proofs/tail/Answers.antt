use Rattle.std.proofs.Common.{◌≡◌, ◌*◌, ◌/◌, length, drop, sym, refl, ◌∙◌, arith, length-set, get_or-drop}
use lib.Seq.{take-length}
use Rattle.sha256.specs.Message.{padded}
use Rattle.sha256.proofs.BlockLaws.{fill-next}
use Rattle.sha256.proofs.PaddingLaws.{length-tail}
use Rattle.sha256.proofs.tail.Goals as goal

pub loop-k-init : goal.loop-k-init
loop-k-init c = (refl, refl)

pub loop-k-preserved : goal.loop-k-preserved
loop-k-preserved c =
    let l = c.loop-k in
    let s = c.args.s.now in
    let n = length-tail s in (
      simp length-set (omega arith),
      fill-next (drop (length s / 64 * 64) (padded s)) l.t l.k _ (omega arith) (omega arith) l.invariant.1
          (c.padded_byte.ensures ∙ sym (get_or-drop (length s / 64 * 64) (padded s) l.k 0)),
    )

pub returns : goal.returns
returns c =
    let l = c.loop-k in
    let s = c.args.s.now in
    let n = length-tail s in
    let e : l.k ≡ length (drop (length s / 64 * 64) (padded s)) = omega arith in
    rw (sym n) (rw e at l.invariant.1 ∙ take-length (drop (length s / 64 * 64) (padded s)))
