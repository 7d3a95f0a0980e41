-- Dates at the ends of the range, about 1970 and about leap days. (The cases of 01 itself stand in the crate rules.)
use mathlib.Core.Path.{◌≡◌, refl}
use mathlib.Core.List.{List, [], ◌∷◌, map}
use Rattle.std.specs.declared.option.Option.{Option}
use Rattle.std.specs.declared.option.Option.TheVariants.{None, Some}
use Prim.Native.String.{String}
use lib.IntN.{ℤ, pos, neg_ℤ}
use Rattle.base.specs.Bytes.{bytes}
use Rattle.date.specs.Calendar.{fits, has_form, date_of, civil_time, time_of, epoch, second_number, day_number, years_before, first_months}

pub record Example : Type 0 where
  pub text : String
  pub meaning : Option ℤ

abbrev pub table : List Example
table =
    record { text = "1970-01-01T00:00:00Z"; meaning = Some (pos 0) }
    ∷ record { text = "1969-12-31T00:00:00Z"; meaning = Some (neg_ℤ (pos 86400)) }
    ∷ record { text = "0000-01-01T00:00:00Z"; meaning = Some (neg_ℤ (pos 62167219200)) }
    ∷ record { text = "9999-12-31T23:59:59Z"; meaning = Some (pos 253402300799) }
    ∷ record { text = "2024-02-29T12:00:00Z"; meaning = Some (pos 1709208000) }
    ∷ record { text = "2100-02-29T00:00:00Z"; meaning = None }
    ∷ record { text = "2000-02-30T00:00:00Z"; meaning = None }
    ∷ []

pub examples : map (λ (e : Example). date_of (bytes e.text)) table ≡ map (λ (e : Example). e.meaning) table
unfolding fits has_form date_of civil_time time_of epoch second_number day_number years_before first_months
examples = refl
