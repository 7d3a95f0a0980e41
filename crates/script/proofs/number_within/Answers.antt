use Rattle.std.proofs.Common.{arith}
use Rattle.std.proofs.lemmas.Grind.{common_steps}
use Rattle.script.proofs.NumberLaws as numbers
use Rattle.script.proofs.number_within.Goals as goal

pub returns-then-is_empty-clause-value : goal.returns-then-is_empty-clause-value
returns-then-is_empty-clause-value c = grind (arith, common_steps, numbers.number-none)

pub returns-clause-value : goal.returns-clause-value
returns-clause-value c = grind (arith, common_steps, numbers.number_digits)
