-- `value` meets its contract: one law for each kind of value.
use Rattle.skip.proofs.ValueLaws as laws
use Rattle.skip.proofs.value.Goals as goal

pub returns-then-s-at : goal.returns-then-s-at
returns-then-s-at c = laws.none-stands _ _ c.if-s-at.true

pub returns-in-34 : goal.returns-in-34
returns-in-34 c = laws.string-ends _ _ _ c.if-s-at.false c.in-34.is c.string_end.ensures
