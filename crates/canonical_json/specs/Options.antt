-- What a step of a form gave, handed on to the next.
use Rattle.std.specs.declared.option.Option.{Option}
use Rattle.std.specs.Option.{option_and_then}

unfoldable pub bind : {A B : Type 0} → Option A → (A → Option B) → Option B
bind o f = option_and_then f o
