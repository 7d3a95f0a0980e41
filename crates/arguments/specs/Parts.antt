-- What an argument is, where it is of that kind; 0 of another kind, and where there is none.
use Rattle.std.specs.Prelude.{ℕ, pos}
use Rattle.std.specs.declared.option.Option.{Option}
use Rattle.std.specs.declared.option.Option.TheVariants.{None, Some}
use Rattle.date.specs.declared.Time.{Time}
use Rattle.arguments.specs.declared.Argument.{Argument}
use Rattle.arguments.specs.declared.Argument.TheVariants as argument

abbrev pub number_of : Option Argument → ℕ
number_of None = 0
number_of (Some (argument.Bytes from to)) = 0
number_of (Some (argument.Number n)) = n
number_of (Some (argument.Time t)) = 0

abbrev pub time_of : Option Argument → Time
time_of None = record { seconds = pos 0 }
time_of (Some (argument.Bytes from to)) = record { seconds = pos 0 }
time_of (Some (argument.Number n)) = record { seconds = pos 0 }
time_of (Some (argument.Time t)) = t
