-- The dates of 01 ("Dates"), in its order: the text's form, the calendar, the count of seconds, expiry; and A8's order of start times.
-- Days are counted by adding up the lengths of the years and months that have passed.
use Rattle.std.specs.Prelude.{ℕ, zero, suc, ◌+◌, ◌-◌, ◌*◌, ◌%◌, Bool, true, false, cond, not, ◌&&◌, ◌||◌, [], ◌∷◌, get_or, leb, eqb, ℤ, pos, ◌-ℤ◌}
use Rattle.std.specs.declared.option.Option.{Option}
use Rattle.std.specs.declared.option.Option.TheVariants.{None, Some}
use Rattle.std.specs.Int.Signed.{lt_z, le_z}
use Rattle.base.specs.Bytes.{Bytes, bytes, is_digit}

-- "`YYYY-MM-DDTHH:MM:SSZ`, exactly 20 bytes": each 0 stands for a digit, every other byte for itself
abbrev pub form : Bytes
form = bytes "0000-00-00T00:00:00Z"

-- b may stand where the form has f
unfoldable pub fits : ℕ → ℕ → Bool
fits f b = cond (eqb f 48) (is_digit b) (eqb b f)

-- as many bytes as the form has, each of which fits
unfoldable pub has_form : Bytes → Bytes → Bool
has_form [] [] = true
has_form [] (b ∷ s) = false
has_form (f ∷ fs) [] = false
has_form (f ∷ fs) (b ∷ s) = fits f b && has_form fs s

-- the number that the two digits from place i on write; four digits write "years 0000 to 9999"
abbrev pub two_digits : Bytes → ℕ → ℕ
two_digits s i = (get_or s i 0 - 48) * 10 + (get_or s (i + 1) 0 - 48)

-- "Gregorian rules throughout": every fourth year is a leap year, but of the full hundreds only every fourth
abbrev pub is_leap : ℕ → Bool
is_leap year = eqb (year % 4) 0 && not (eqb (year % 100) 0) || eqb (year % 400) 0

-- a leap year has one day more than 365
abbrev pub year_days : ℕ → ℕ
year_days year = cond (is_leap year) 366 365

-- February has 28 or 29 days; April, June, September and November 30; the others 31
abbrev pub month_days : ℕ → ℕ → ℕ
month_days year month =
    cond (eqb month 2) (cond (is_leap year) 29 28)
    (cond (eqb month 4 || eqb month 6 || eqb month 9 || eqb month 11) 30 31)

-- "hours 00 to 23, minutes and seconds 00 to 59", and a day of that month
abbrev pub is_civil : ℕ → ℕ → ℕ → ℕ → ℕ → ℕ → Bool
is_civil year month day hour minute second =
    leb 1 month && leb month 12 && leb 1 day && leb day (month_days year month)
    && leb hour 23 && leb minute 59 && leb second 59

-- the days of the years 0000 up to the one before
unfoldable pub years_before : ℕ → ℕ
years_before zero = 0
years_before (suc year) = years_before year + year_days year

-- the days of the first months of a year
unfoldable pub first_months : ℕ → ℕ → ℕ
first_months year zero = 0
first_months year (suc months) = first_months year months + month_days year (suc months)

-- the days from 0000-01-01
unfoldable pub day_number : ℕ → ℕ → ℕ → ℕ
day_number year month day = years_before year + first_months year (month - 1) + (day - 1)

-- the seconds from 0000-01-01T00:00:00Z
unfoldable pub second_number : ℕ → ℕ → ℕ → ℕ → ℕ → ℕ → ℕ
second_number year month day hour minute second =
    ((day_number year month day * 24 + hour) * 60 + minute) * 60 + second

-- 1970-01-01T00:00:00Z
unfoldable pub epoch : ℕ
epoch = second_number 1970 1 1 0 0 0

-- "the count of seconds from 1970-01-01T00:00:00Z, and a date before 1970 is a count below zero"
unfoldable pub time_of : ℕ → ℕ → ℕ → ℕ → ℕ → ℕ → ℤ
time_of year month day hour minute second =
    pos (second_number year month day hour minute second) -ℤ pos epoch

-- the count of six numbers that are a date, and nothing of any others
unfoldable pub civil_time : ℕ → ℕ → ℕ → ℕ → ℕ → ℕ → Option ℤ
civil_time year month day hour minute second =
    cond (is_civil year month day hour minute second) (Some (time_of year month day hour minute second)) None

-- what a date's text means
unfoldable pub date_of : Bytes → Option ℤ
date_of s =
    cond (has_form form s)
    (civil_time (two_digits s 0 * 100 + two_digits s 2) (two_digits s 5) (two_digits s 8)
    (two_digits s 11) (two_digits s 14) (two_digits s 17))
    None

-- "Expired means: expires is at or below the start time in force"
unfoldable pub expired : ℤ → ℤ → Bool
expired expires start = le_z expires start

-- A8: "an earlier one", of two start times; "an equal one passes"
unfoldable pub earlier : ℤ → ℤ → Bool
earlier start latest = lt_z start latest
