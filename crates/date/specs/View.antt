-- What the code's answer says, in the terms of `Calendar`.
use Rattle.std.specs.declared.option.Option.{Option}
use Rattle.std.specs.declared.option.Option.TheVariants.{None, Some}
use Rattle.std.specs.Prelude.{ℤ}
use Rattle.date.specs.declared.Time.{Time}

abbrev pub view_date : Option Time → Option ℤ
view_date (Some time) = Some time.seconds
view_date None = None
