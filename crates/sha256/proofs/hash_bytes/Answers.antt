use Rattle.std.proofs.Common.{◌≡◌, sym, refl, ◌∙◌, arith, length-set, take_all}
use Rattle.sha256.specs.Message.{hash_bytes}
use Rattle.sha256.proofs.EndianLaws.{word_byte-at}
use Rattle.sha256.proofs.BlockLaws.{fill-next}
use Rattle.sha256.proofs.DigestLaws.{length-hash_bytes}
use Rattle.sha256.proofs.hash_bytes.Goals as goal

pub loop-i-init : goal.loop-i-init
loop-i-init c = (refl, refl)

pub loop-i-preserved : goal.loop-i-preserved
unfolding hash_bytes
loop-i-preserved c =
    let l = c.loop-i in
    let v = c.args.v in
    let n = length-hash_bytes v in (
      simp length-set (omega arith),
      fill-next (hash_bytes v) l.out l.i _ (omega arith) (omega arith) l.invariant.1 (c.word_byte.ensures ∙ word_byte-at _ l.i (omega arith)),
    )

pub returns : goal.returns
unfolding hash_bytes
returns c =
    let l = c.loop-i in
    let v = c.args.v in
    let n = length-hash_bytes v in
    let e : l.i ≡ 32 = omega arith in
    sym (take_all 32 l.out (omega arith)) ∙ rw e at l.invariant.1 ∙ take_all 32 (hash_bytes v) (omega arith)
