-- `byte_after`: past the end the byte is 0, and no sum of places overflows.
use Rattle.std.proofs.Common.{arith, sym, get_or-drop}
use Rattle.std.proofs.lemmas.Grind.{common_steps}
use Rattle.base.specs.Window.{byte_at}
use Rattle.base.proofs.WindowLaws.{byte_past}
use Rattle.base.proofs.byte_after.Goals as goal

pub returns-in_default : goal.returns-in_default
returns-in_default c = sym (byte_past _ _ (grind (arith, common_steps)))

pub returns : goal.returns
unfolding byte_at
returns c = grind (arith, common_steps, get_or-drop c.args.i c.args.a.now c.args.k 0)
