-- `tail_size`: one block where the length has room in it, or two.
use Rattle.std.proofs.Common.{arith}
use Rattle.sha256.proofs.PaddingLaws.{tail_short, tail-long}
use Rattle.sha256.proofs.tail_size.Goals as goal

pub returns-then-n-lt-ROOM : goal.returns-then-n-lt-ROOM
returns-then-n-lt-ROOM c = record { value = tail_short _ (omega arith); upper_bound = omega arith }

pub returns-else-n-lt-ROOM : goal.returns-else-n-lt-ROOM
returns-else-n-lt-ROOM c = record { value = tail-long _ (omega arith); upper_bound = omega arith }
