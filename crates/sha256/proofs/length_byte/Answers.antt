-- `length_byte`: a byte of the length by its place among the bits.
use Rattle.std.proofs.Common.{◌-◌, ◌*◌, ◌%◌, ◌^◌, ap, get_or, arith, sym, ◌∙◌}
use Rattle.base.specs.Bytes.{Bytes}
use Rattle.sha256.proofs.EndianLaws.{to_bytes, byte_at}
use Rattle.sha256.proofs.PaddingLaws.{length_byte-at}
use Rattle.sha256.proofs.length_byte.Goals as goal

pub returns : goal.returns
returns c =
    let n = c.args.n in
    let j = c.args.j in
    ap (λ (b : Bytes). get_or b j 0) (c.to_be_bytes.ensures ∙ to_bytes 8 (n % 2 ^ 61 * 8))
    ∙ sym (byte_at 8 (n % 2 ^ 61 * 8) j (56 - j * 8) (omega arith)) ∙ length_byte-at n j (56 - j * 8) (omega arith)
