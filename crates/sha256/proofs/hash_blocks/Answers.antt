use Rattle.std.proofs.Common.{◌≡◌, ◌∙◌, ◌/◌, length, refl, arith}
use Rattle.sha256.specs.Message.{hashed}
use Rattle.sha256.proofs.BlockLaws.{chunk-words, hashed-next}
use Rattle.sha256.proofs.hash_blocks.Goals as goal

pub loop-block-init : goal.loop-block-init
unfolding hashed
loop-block-init c = refl

pub loop-block-preserved : goal.loop-block-preserved
loop-block-preserved c =
    let l = c.loop-block in
    let s = c.args.s.now in
    hashed-next c.args.h s l.block-index c.block_words.result l.v _ l.invariant
    ((rw c.as_chunks.ensures.front at c.block_words.ensures) ∙ chunk-words s (length s / 64) l.block-index (omega arith)) c.compress-v.ensures

pub returns : goal.returns
returns c =
    let l = c.loop-block in
    let e : l.block-index ≡ length c.args.s.now / 64 = omega arith in
    rw e at l.invariant
