use Rattle.std.proofs.Common.{arith, ◌≡◌, ◌<◌, min, sym}
use Rattle.keys.proofs.KeyLaws.{asked_none, asked_set, asked_not, meant-count, meant_at}
use Rattle.keys.proofs.places.Goals as goal
use Rattle.keys.proofs.places.Goals.{then-test, else-test}

pub loop-j-init : goal.loop-j-init
loop-j-init g c = asked_none _

pub loop-j-preserved : goal.loop-j-preserved
loop-j-preserved g c =
    let n = meant-count c.args.table.now c.all-key-items.result.now c.all-key-items.ensures.viewed in
    let h : c.loop-j.j < 16 = omega arith in
    elim c.if-test.branch [
      | then-test w ↦ rw w.bits-is (asked_set _ c.loop-j.j c.loop-j.bits c.loop-j.invariant h (rw (sym w.if-test.true) c.test.ensures))
      | else-test w ↦ rw w.bits-is (asked_not _ c.loop-j.j c.loop-j.bits c.loop-j.invariant h (rw (sym w.if-test.false) c.test.ensures))
    ]

pub returns : goal.returns
returns g c =
    let n = meant-count c.args.table.now c.all-key-items.result.now c.all-key-items.ensures.viewed in
    let e : c.loop-j.j ≡ min c.args.table.now.count 16 = omega arith in
    record {
      asked = λ k h. rw (meant_at c.args.table.now c.all-key-items.result.now (min c.args.table.now.count 16) k c.all-key-items.ensures.meant h) (c.loop-j.invariant.asked k (omega arith));
      others = λ k h l. c.loop-j.invariant.others k h (omega arith);
    }
