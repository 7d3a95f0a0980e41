use Rattle.std.proofs.Common.{◌≡◌, take, sym, refl, ◌∙◌, arith, length-set, take_all, rules}
use Rattle.sha256.specs.Compress.{schedule}
use Rattle.sha256.proofs.RoundLaws.{schedule-next}
use Rattle.sha256.proofs.expand.Goals as goal

pub loop-t-init : goal.loop-t-init
unfolding schedule
loop-t-init c = (search rules, refl)

pub loop-t-preserved : goal.loop-t-preserved
loop-t-preserved c =
    let l = c.loop-t in (
      simp length-set (omega arith),
      schedule-next (take 16 c.args.m) l.w l.t _ (omega arith) (omega arith) l.invariant.1 c.next_word.ensures,
    )

pub returns : goal.returns
returns c =
    let l = c.loop-t in
    let e : l.t ≡ 64 = omega arith in
    sym (take_all 64 l.w (omega arith)) ∙ rw e at l.invariant.1
