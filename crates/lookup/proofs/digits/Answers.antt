-- What wraps is past hi.
use mathlib.Core.Path.{refl, ◌∙◌}
use native.Mathlib.Omega.{arith}
use Rattle.base.proofs.ByteLaws.{digit}
use Rattle.lookup.proofs.NumberLaws.{digits-over}
use Rattle.lookup.proofs.digits.Goals as goal

pub returns-in_err-checked_mul : goal.returns-in_err-checked_mul
returns-in_err-checked_mul c =
    let d = c.if-not-is_ascii_digit.ensures.cases in
    let o = c.in_err-checked_mul.ensures in
    let f = c.ranges.hi.fits in
    c.from_residual.ensures ∙ digits-over _ _ _ _ _ c.loop-b-test.true (digit _ d.0 d.1) c.loop-b.invariant.1 refl (omega arith)

pub returns-in_err-n : goal.returns-in_err-n
returns-in_err-n c =
    let d = c.if-not-is_ascii_digit.ensures.cases in
    let m = c.in_ok-checked_mul.ensures.1 in
    let o = c.in_err-n.ensures in
    let f = c.ranges.hi.fits in
    c.from_residual-in_err-n.ensures ∙ digits-over _ _ _ _ _ c.loop-b-test.true (digit _ d.0 d.1) c.loop-b.invariant.1 c.from.ensures (omega arith)
