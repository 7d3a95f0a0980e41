-- `rotated`: another set of keyids, or another threshold.
use Rattle.std.proofs.Common.{sym, ◌∙◌}
use Rattle.rules.specs.Conditions.{rotated}
use Rattle.records.specs.View.{view_role}
use Rattle.keys.proofs.rotated.Goals as goal

pub returns-then-other_keys : goal.returns-then-other_keys
unfolding rotated
returns-then-other_keys c = simp (c.other_keys.ensures, sym c.other_keys.ensures ∙ c.if-other_keys.true)

pub returns-else-other_keys : goal.returns-else-other_keys
unfolding rotated view_role
returns-else-other_keys c = simp (sym c.other_keys.ensures ∙ c.if-other_keys.false)
