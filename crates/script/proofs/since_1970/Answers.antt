-- `since_1970`: the number that was read fits.
use Rattle.std.proofs.Common.{ap, ◌∙◌, Some, pos}
use Rattle.std.specs.Option.{option_map}
use Rattle.script.proofs.NumberLaws as numbers
use Rattle.script.proofs.since_1970.Goals as goal

pub returns : goal.returns
returns c = ap Some (numbers.since_is c.in_ok-n.n c.in_ok-n.ensures.bound) ∙ ap (option_map pos) c.in_ok-n.ensures.value
