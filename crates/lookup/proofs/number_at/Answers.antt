-- `number_at` meets its contract.
use mathlib.Core.Path.{sym, ap, ◌∙◌}
use native.Mathlib.Omega.{arith}
use lib.ListN.{get_or}
use Rattle.std.proofs.lemmas.List.{take_rest}
use Rattle.base.proofs.ByteLaws.{digit}
use Rattle.lookup.specs.Leaves.{leading_to}
use Rattle.lookup.proofs.NumberLaws.{number-within}
use Rattle.lookup.proofs.number_at.Goals as goal

pub returns-then-lo-n : goal.returns-then-lo-n
returns-then-lo-n c =
    let first = c.in_ok-get.ensures.lookup.3 in
    let is = first.1 0 in
    let d = c.if-not-is_ascii_digit.ensures.cases in
    let q = sym c.in_ok-n.was ∙ c.digits.ensures ∙ ap (leading_to c.args.hi) (take_rest c.args.s.now c.args.at) in
    number-within _ _ _ _ first.0 (digit (get_or c.args.s.now c.args.at 0) (omega arith) (omega arith)) _ q (omega arith)
