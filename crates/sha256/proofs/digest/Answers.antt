-- `digest`: the whole blocks, then the rest of the padded message.
use Rattle.std.proofs.Common.{◌≡◌, ◌+◌, ◌%◌, length, ◌∙◌, arith}
use Rattle.sha256.specs.Message.{zeros}
use Rattle.sha256.proofs.DigestLaws.{digest-parts}
use Rattle.sha256.proofs.digest.Goals as goal

pub returns : goal.returns
returns c =
    let s = c.args.s.now in
    let n : c.tail_size-size.result ≡ length s % 64 + 9 + zeros (length s) = omega arith in
    c.hash_bytes.ensures
    ∙ digest-parts s _ _ _ c.hash_blocks-h.ensures (rw n c.tail-t.ensures) c.hash_blocks.ensures
