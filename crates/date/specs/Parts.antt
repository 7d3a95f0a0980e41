-- What parts of the code compute or ask for, beside the definitions of 01.
use Rattle.std.specs.Prelude.{ℕ, ◌+◌, ◌/◌, ◌≤◌, ◌<◌, ℤ, pos, negsuc, length, get_or}
use Rattle.base.specs.Bytes.{Bytes}

-- two digits stand at place i
pub record DigitsAt (s : Bytes) (i : ℕ) : Type 0 where
  pub within : i + 1 < length s
  pub low : 48 ≤ get_or s i 0
  pub high : get_or s i 0 ≤ 57
  pub low-next : 48 ≤ get_or s (i + 1) 0
  pub high-next : get_or s (i + 1) 0 ≤ 57

-- the numbers of a date, each within its range
pub record Civil (year month day hour minute second : ℕ) : Type 0 where
  pub years : year ≤ 9999
  pub first_month : 1 ≤ month
  pub months : month ≤ 12
  pub first_day : 1 ≤ day
  pub days : day ≤ 31
  pub hours : hour ≤ 23
  pub minutes : minute ≤ 59
  pub seconds : second ≤ 59

-- a / m rounded down: -(a + 1) divided by m is -(a / m + 1)
abbrev pub floor_div : ℤ → ℕ → ℤ
floor_div (pos a) m = pos (a / m)
floor_div (negsuc a) m = negsuc (a / m)
