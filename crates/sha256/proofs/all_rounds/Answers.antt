use Rattle.std.proofs.Common.{sym, ◌∙◌, arith}
use Rattle.sha256.specs.Constants.{constants}
use Rattle.std.proofs.lemmas.Grind.{common_steps}
use Rattle.sha256.proofs.RoundLaws.{rounds-next, rounds-end}
use Rattle.sha256.proofs.all_rounds.Goals as goal

pub loop-k-init : goal.loop-k-init
unfolding constants
loop-k-init c = cc

pub loop-k-preserved : goal.loop-k-preserved
loop-k-preserved c = c.loop-k.invariant ∙ rounds-next _ _ _ _ _ _ _ _ c.in-Some.ensures.steps.0 c.in-Some.ensures.steps.1 c.round-v.ensures

pub returns : goal.returns
returns c = sym (c.loop-k.invariant ∙ rounds-end _ _ _ (grind (arith, common_steps)))
