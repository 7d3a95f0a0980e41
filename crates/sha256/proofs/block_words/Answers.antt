use Rattle.std.proofs.Common.{◌≡◌, ◌*◌, ◌+◌, refl, ◌∙◌, arith, length-set, take_all}
use Rattle.sha256.specs.Message.{words_at}
use Rattle.sha256.proofs.BlockLaws.{fill-next, length-words_at, words_at-at}
use Rattle.sha256.proofs.block_words.Goals as goal

pub loop-k-init : goal.loop-k-init
loop-k-init c = (refl, refl)

pub loop-k-preserved : goal.loop-k-preserved
loop-k-preserved c =
    let l = c.loop-k in
    let b = c.args.block.now in
    let n = length-words_at b 0 16 in
    let e : 0 + l.k * 4 ≡ l.k * 4 = omega arith in (
      simp length-set (omega arith),
      fill-next (words_at b 0 16) l.m l.k _ (omega arith) (omega arith) l.invariant.1
          (c.word_at.ensures ∙ rw e at (words_at-at b 0 16 l.k (omega arith))),
    )

pub returns : goal.returns
returns c =
    let l = c.loop-k in
    let b = c.args.block.now in
    let n = length-words_at b 0 16 in
    let e : l.k ≡ 16 = omega arith in
    rw e at l.invariant.1 ∙ take_all 16 (words_at b 0 16) (omega arith)
