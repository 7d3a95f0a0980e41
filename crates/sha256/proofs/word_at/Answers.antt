use Rattle.std.proofs.Common.{arith}
use Rattle.sha256.specs.Message.{word_at}
use Rattle.sha256.proofs.word_at.Goals as goal

pub returns : goal.returns
unfolding word_at
returns c = omega (arith, c.from_be_bytes.ensures)
