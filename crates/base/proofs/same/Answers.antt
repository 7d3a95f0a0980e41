use Rattle.std.proofs.Common.{rules}
use Rattle.base.proofs.ByteLaws.{same-compared}
use Rattle.base.proofs.same.Goals as goal

pub returns : goal.returns
returns c = search (rules, same-compared)
