use Rattle.skip.proofs.StepLaws.{block_turn}
use Rattle.skip.proofs.plain_block.Goals as goal

pub loop-b-preserved : goal.loop-b-preserved
loop-b-preserved c =
    let l = c.loop-b in
    block_turn c.args.s.now c.args.at l.b-index l.plain c.requires c.loop-b-test.true l.invariant
