use mathlib.Core.Path.{sym, ◌∙◌}
use Rattle.lookup.proofs.StringLaws.{char_byte, order_differ}
use Rattle.lookup.proofs.text_order.Goals as goal

pub returns-then-b-x : goal.returns-then-b-x
returns-then-b-x c =
    let x = char_byte c.args.s.now c.loop-x.p _ c.char_at.ensures.means _ _ c.in-Some.is in
    c.cmp.ensures ∙ sym (c.loop-x.invariant ∙ order_differ _ _ _ _ _ x.0 c.loop-x-test.true c.if-b-x.true)
