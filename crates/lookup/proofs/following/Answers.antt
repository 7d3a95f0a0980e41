-- `following` meets its contract: the value before ends where `end_by` says.
use Rattle.std.proofs.Common.{arith}
use Rattle.std.proofs.lemmas.Grind.{common_steps}
use Rattle.lookup.proofs.ItemLaws.{following_none, following_cut, following_end, following_at}
use Rattle.lookup.proofs.following.Goals as goal

pub returns-in_default : goal.returns-in_default
returns-in_default c = following_none _ _ _ _ c.in_default.ensures

pub returns-in-None : goal.returns-in-None
returns-in-None c = following_cut _ _ _ _ _ c.in-Some.ensures (grind (arith, common_steps))

pub returns-in-Some-get : goal.returns-in-Some-get
returns-in-Some-get c = following_end _ _ _ _ _ c.in-Some.ensures (grind (arith, common_steps)) (grind (arith, common_steps))

pub returns-in-Some-2 : goal.returns-in-Some-2
returns-in-Some-2 c = following_at _ _ _ _ _ c.in-Some.ensures (grind (arith, common_steps)) (grind (arith, common_steps))
