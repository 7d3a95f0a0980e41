-- `hex_char`: ten decimal digits, then letters.
use Rattle.std.proofs.Common.{sym, arith}
use Rattle.base.proofs.HexLaws.{digit-decimal, digit-letter}
use Rattle.sha256.proofs.hex_char.Goals as goal

pub returns-then-d-lt10 : goal.returns-then-d-lt10
returns-then-d-lt10 c = sym (digit-decimal _ (omega arith))

pub returns-else-d-lt10 : goal.returns-else-d-lt10
returns-else-d-lt10 c = let e = digit-letter c.args.d (omega arith) in omega arith
