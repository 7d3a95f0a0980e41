-- `before_1970`: so many seconds before.
use Rattle.std.proofs.Common.{ap, ◌∙◌, Some}
use Rattle.std.specs.Option.{option_map}
use Rattle.script.specs.Numbers.{below}
use Rattle.script.proofs.NumberLaws as numbers
use Rattle.script.proofs.before_1970.Goals as goal

pub returns : goal.returns
returns c =
    let s = c.in_ok-seconds.ensures in
    ap Some (numbers.before_is c.in_ok-n.n c.in_ok-seconds.seconds s.0 s.1) ∙ ap (option_map below) c.in_ok-n.ensures.value
