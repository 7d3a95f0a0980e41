use Rattle.std.proofs.Common.{arith}
use Rattle.std.proofs.lemmas.Grind.{common_steps}
use Rattle.script.proofs.WordLaws.{words-count}
use Rattle.script.proofs.words.Goals as goal

pub returns : goal.returns
returns c = grind (arith, common_steps, words-count)
