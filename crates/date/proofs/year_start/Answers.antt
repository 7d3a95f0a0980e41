-- `year_start` is the sum over the years in closed form, by division that rounds down.
use Prim.Native.Nat.{ℕ, ◌≤◌, ◌<◌, ◌^◌, ◌+◌, ◌-◌, ◌*◌, ◌/◌}
use mathlib.Core.Path.{◌≡◌, refl, ◌∙◌}
use native.Mathlib.Omega.{arith}
use lib.IntN.{ℤ, pos, ◌-ℤ◌, ◌+ℤ◌, ◌*ℤ◌}
use mir.Syntax.{w64}
use mir.Val.{SFits, to_z}
use Rattle.date.specs.Calendar.{years_before}
use Rattle.date.specs.Parts.{floor_div}
use Rattle.date.proofs.CalendarLaws.{years-closed, epoch-days}
use Rattle.date.proofs.Differences.{W, Fits, fits, bits, nat, literal, plus, minus, times, floor}
use Rattle.date.proofs.year_start.Goals as goal

module _ (y : ℕ) (h : y ≤ 9999) where
  -- the years from 1970
  abbrev n : ℤ
  n = to_z w64 y -ℤ pos 1970

  n-is : Fits n y 1970
  n-is = minus (nat y (omega arith)) (literal 1970) y 1970 (omega arith) (omega arith) (omega arith)

  later : (k X Y : ℕ) → y + k + Y ≡ X + 1970 → X < 2 ^ 63 → Y < 2 ^ 63 → Fits (W n +ℤ pos k) X Y
  later k X Y e p q = plus (bits n-is) (literal k) X Y (omega arith) p q

  later-fits : (k : ℕ) → k < 1000 → SFits w64 (W n +ℤ pos k)
  later-fits k p = fits (later k (y + k) 1970 (omega arith) (omega arith) (omega arith))

  -- the three quotients: shifted by a, they are those of `years-closed`, less k
  quotient : (m k a : ℕ) {f : ℤ} → 0 < m → m < 1000 → k < 1000 → 1970 + (m - 1) ≡ a + k * m → f ≡ floor_div (W (W n +ℤ pos a)) m
      → Fits f ((y + (m - 1)) / m) k
  quotient m k a p q r e t = floor m k p (bits (later a (y + (m - 1)) (k * m) (omega arith) (omega arith) (omega arith))) t (omega arith) (omega arith)

  days : Fits (W n *ℤ pos 365) (y * 365) 719050
  days = times (bits n-is) 365 (omega arith) (omega arith)

  -- the sum, with the three quotients
  module _ {f g k : ℤ} (e : f ≡ floor_div (W (W n +ℤ pos 1)) 4) (e' : g ≡ floor_div (W (W n +ℤ pos 69)) 100)
      (e'' : k ≡ floor_div (W (W n +ℤ pos 369)) 400) where
    fours : Fits f ((y + 3) / 4) 493
    fours = quotient 4 493 1 (omega arith) (omega arith) (omega arith) refl e

    hundreds : Fits g ((y + 99) / 100) 20
    hundreds = quotient 100 20 69 (omega arith) (omega arith) (omega arith) refl e'

    four-hundreds : Fits k ((y + 399) / 400) 5
    four-hundreds = quotient 400 5 369 (omega arith) (omega arith) (omega arith) refl e''

    one : Fits (W (W n *ℤ pos 365) +ℤ W f) (y * 365 + (y + 3) / 4) 719543
    one = plus (bits days) (bits fours) _ _ (omega arith) (omega arith) (omega arith)

    two : Fits (W (W (W n *ℤ pos 365) +ℤ W f) -ℤ W g) (y * 365 + (y + 3) / 4 + 20) (719543 + (y + 99) / 100)
    two = minus (bits one) (bits hundreds) _ _ (omega arith) (omega arith) (omega arith)

    three : Fits (W (W (W (W n *ℤ pos 365) +ℤ W f) -ℤ W g) +ℤ W k) (years_before y) 719528
    three = plus (bits two) (bits four-hundreds) _ _ (omega (arith, years-closed y)) (omega (arith, years-closed y)) (omega arith)

    total : W (W (W (W (W n *ℤ pos 365) +ℤ W f) -ℤ W g) +ℤ W k) ≡ pos (years_before y) -ℤ pos (years_before 1970)
    total = (bits three).same ∙ rw epoch-days

pub overflow_sub-n : goal.overflow_sub-n
overflow_sub-n c = fits (n-is c.args.year c.requires)

pub overflow_add-n : goal.overflow_add-n
overflow_add-n c = later-fits c.args.year c.requires 1 (omega arith)

pub overflow_add-n-2 : goal.overflow_add-n-2
overflow_add-n-2 c = later-fits c.args.year c.requires 69 (omega arith)

pub overflow_add-n-3 : goal.overflow_add-n-3
overflow_add-n-3 c = later-fits c.args.year c.requires 369 (omega arith)

pub overflow_mul-result : goal.overflow_mul-result
overflow_mul-result c = fits (days c.args.year c.requires)

pub overflow_add-result : goal.overflow_add-result
overflow_add-result c =
    fits (one c.args.year c.requires c.floor_div-fours.ensures c.floor_div-hundreds.ensures c.floor_div-four_hundreds.ensures)

pub overflow_sub-result : goal.overflow_sub-result
overflow_sub-result c =
    fits (two c.args.year c.requires c.floor_div-fours.ensures c.floor_div-hundreds.ensures c.floor_div-four_hundreds.ensures)

pub overflow_add-result-2 : goal.overflow_add-result-2
overflow_add-result-2 c =
    fits (three c.args.year c.requires c.floor_div-fours.ensures c.floor_div-hundreds.ensures c.floor_div-four_hundreds.ensures)

pub returns : goal.returns
returns c =
    total c.args.year c.requires c.floor_div-fours.ensures c.floor_div-hundreds.ensures c.floor_div-four_hundreds.ensures
