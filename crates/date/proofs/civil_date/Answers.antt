-- `civil_date` refuses each number out of its range, and else gives the count of seconds.
use Rattle.std.proofs.Common.{◌≡◌, ◌∙◌, ap, ℕ, ◌≤◌, ◌<◌, arith, rules}
use Rattle.std.proofs.lemmas.Grind.{common_steps}
use Rattle.std.specs.declared.option.Option.TheVariants.{Some}
use Rattle.date.specs.Calendar.{month_days}
use Rattle.date.specs.Parts.{Civil}
use mir.Syntax.{w64}
use mir.Val.{to_z, of_z}
use mathlib.Core.Logic.{◌⊎◌}
use Rattle.date.proofs.CalendarLaws.{month-most, out-of-months, out-of-days, past-hours, past-minutes, past-seconds, civil}
use Rattle.date.proofs.civil_date.Goals as goal
use Rattle.date.proofs.civil_date.Goals.{then-not-contains-via-then-not-contains, then-not-contains-via-else-not-contains+then-not-contains-2, then-hour-gt23-via-then-hour-gt23, then-hour-gt23-via-else-hour-gt23+then-minute-gt59, then-hour-gt23-via-else-hour-gt23+else-minute-gt59+then-second-gt59}

pub returns-then-not-contains : goal.returns-then-not-contains
returns-then-not-contains c =
    elim c.then-not-contains.branch [
      | then-not-contains-via-then-not-contains w ↦
          let a = c.args in
          let h : (a.month < 1) ⊎ (12 < a.month) = grind (arith, common_steps) in
          out-of-months _ _ _ _ _ _ h
      | then-not-contains-via-else-not-contains+then-not-contains-2 w ↦
          let a = c.args in
          let h : (a.day < 1) ⊎ (month_days a.year a.month < a.day) = grind (arith, common_steps) in
          out-of-days _ _ _ _ _ _ h
    ]

pub returns-then-hour-gt23 : goal.returns-then-hour-gt23
returns-then-hour-gt23 c =
    elim c.then-hour-gt23.branch [
      | then-hour-gt23-via-then-hour-gt23 w ↦ past-hours _ _ _ _ _ _ (omega arith)
      | then-hour-gt23-via-else-hour-gt23+then-minute-gt59 w ↦ past-minutes _ _ _ _ _ _ (omega arith)
      | then-hour-gt23-via-else-hour-gt23+else-minute-gt59+then-second-gt59 w ↦ past-seconds _ _ _ _ _ _ (omega arith)
    ]

-- the numbers are in their ranges
in_range : (year month day hour minute second : ℕ) → year ≤ 9999 → 1 ≤ month → month ≤ 12 → 1 ≤ day → day ≤ month_days year month → hour ≤ 23 → minute ≤ 59
    → second ≤ 59 → Civil year month day hour minute second
in_range year month day hour minute second a b c d e f g h =
    record {
      years = a;
      first_month = b;
      months = c;
      first_day = d;
      days = omega (arith, month-most year month);
      hours = f;
      minutes = g;
      seconds = h;
    }

pub civil_seconds-requires : goal.civil_seconds-requires
civil_seconds-requires c =
    in_range _ _ _ _ _ _ c.requires (grind (arith, common_steps)) (grind (arith, common_steps)) (grind (arith, common_steps)) (grind (arith, common_steps))
    (omega arith) (omega arith) (omega arith)

pub returns : goal.returns
returns c =
    let r = c.civil_seconds.result in
    let e : to_z w64 (of_z w64 r) ≡ r = search rules in
    let d : c.args.day ≤ month_days c.args.year c.args.month = grind (arith, common_steps) in
    ap Some (e ∙ c.civil_seconds.ensures)
    ∙ civil _ _ _ _ _ _
    (in_range _ _ _ _ _ _ c.requires (grind (arith, common_steps)) (grind (arith, common_steps)) (grind (arith, common_steps)) d (omega arith) (omega arith)
    (omega arith))
    d
