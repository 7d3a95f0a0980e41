-- What decides a new cycle: its refusal, or the state with the start time.
use mathlib.Core.Path.{refl, sym, ◌∙◌}
use Rattle.rules.specs.State.{new_cycle}
use Rattle.rules.specs.Steps.{answer, offered, started}
use Rattle.rules.proofs.NextLaws.{next-none}
use Rattle.tuf.specs.View.{view}
use Rattle.tuf.proofs.StepLaws.{cycle-refused}
use Rattle.tuf.proofs.State.after_cycle.Goals as goal

pub returns-in_err-judge_cycle : goal.returns-in_err-judge_cycle
unfolding answer view
returns-in_err-judge_cycle c = cycle-refused _ _ c.in_err-judge_cycle.field-0.0 c.in_err-judge_cycle.ensures _ c.from_residual.ensures.1

pub returns : goal.returns
unfolding answer offered started view
returns c =
    let a = sym c.in_ok-judge_cycle.ensures in
    (a, c.with_start.ensures ∙ sym (next-none _ (new_cycle _) refl a))
