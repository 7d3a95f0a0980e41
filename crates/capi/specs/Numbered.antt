-- A step with its answer as a number.
use Rattle.std.specs.Prelude.{◌≡◌}
use Rattle.answers.specs.Number.{number_of}
use Rattle.tuf.specs.declared.Step as tuf
use Rattle.capi.specs.declared.Step.{Step}

pub record Numbered (step : tuf.Step) (r : Step) : Type 0 where
  pub answer : r.answer ≡ number_of step.answer
  pub state : r.state ≡ step.state
