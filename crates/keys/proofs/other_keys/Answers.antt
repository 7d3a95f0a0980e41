-- `other_keys`: not within one way, or not the other.
use Rattle.std.proofs.Common.{sym, ◌∙◌}
use Rattle.rules.specs.Conditions.{other_keys}
use Rattle.keys.proofs.other_keys.Goals as goal

pub returns-then-not-within : goal.returns-then-not-within
unfolding other_keys
returns-then-not-within c = simp (c.within.ensures, sym c.within.ensures ∙ c.if-not-within.true)

pub returns-else-not-within : goal.returns-else-not-within
unfolding other_keys
returns-else-not-within c = simp (sym c.within.ensures ∙ c.if-not-within.false, c.within-else-not-within.ensures)
