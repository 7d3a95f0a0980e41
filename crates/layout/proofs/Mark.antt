-- A state after a new cycle on the blank one, at a time that is written in two ways.
use mathlib.Core.Path.{◌≡◌, ap, ◌∙◌}
use lib.IntN.{ℤ}
use Rattle.rules.specs.State.{State, blank, new_cycle}
use Rattle.rules.specs.Steps.{next}

pub at : (s : State) (t u : ℤ) → s ≡ next blank (new_cycle t) → t ≡ u → s ≡ next blank (new_cycle u)
at s t u e same = e ∙ ap (λ (v : ℤ). next blank (new_cycle v)) same
