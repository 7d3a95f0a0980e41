-- `read_time`: by its first byte.
use Rattle.std.proofs.Common.{arith}
use Rattle.std.proofs.lemmas.Grind.{common_steps}
use Rattle.script.proofs.NumberLaws as numbers
use Rattle.script.proofs.read_time.Goals as goal

pub returns-in-45 : goal.returns-in-45
returns-in-45 c = grind (arith, common_steps, numbers.time-below)

pub returns-in_default : goal.returns-in_default
returns-in_default c = grind (arith, common_steps, numbers.time-since)
