use Rattle.std.proofs.Common.{ap, get_or, ◌∙◌}
use Rattle.base.specs.Bytes.{Bytes}
use Rattle.sha256.proofs.EndianLaws.{to_bytes}
use Rattle.sha256.proofs.word_byte.Goals as goal

pub returns : goal.returns
returns c = ap (λ (b : Bytes). get_or b c.args.j 0) (c.to_be_bytes.ensures ∙ to_bytes 4 c.args.w)
