-- `one_dot` meets its contract.
use Rattle.lookup.proofs.StringLaws.{char_close, char_byte}
use Rattle.envelope.proofs.HeaderLaws.{dot_none, dot_first, dot_short, dot_is}
use Rattle.envelope.proofs.one_dot.Goals as goal

pub returns-in_default : goal.returns-in_default
returns-in_default c = dot_none _ (char_close c.args.s.now c.args.i c.char_at.result c.char_at.ensures.means c.in_default.is)

pub returns-then-a-ne49 : goal.returns-then-a-ne49
returns-then-a-ne49 c = dot_first _ _ _ (char_byte c.args.s.now c.args.i c.char_at.result c.char_at.ensures.means _ _ c.in-Some.is).0 c.if-a-ne49.true

pub returns-in_default-char_at : goal.returns-in_default-char_at
returns-in_default-char_at c =
    dot_short _ _ _ (char_byte c.args.s.now c.args.i c.char_at.result c.char_at.ensures.means _ _ c.in-Some.is).0 c.if-a-ne49.false
    (char_close c.args.s.now c.in-Some.j c.char_at-2.result c.char_at-2.ensures.means c.in_default-char_at.is)

pub returns : goal.returns
returns c =
    dot_is _ _ _ (char_byte c.args.s.now c.args.i c.char_at.result c.char_at.ensures.means _ _ c.in-Some.is).0 c.if-a-ne49.false
    _ _ (char_byte c.args.s.now c.in-Some.j c.char_at-2.result c.char_at-2.ensures.means _ _ c.in-Some-char_at.is).0
