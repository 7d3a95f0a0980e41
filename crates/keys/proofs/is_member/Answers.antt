-- `is_member`: some named keyid is the same.
use Rattle.std.proofs.Common.{rules, ◌∙◌}
use Rattle.base.specs.Bytes.{same}
use Rattle.records.specs.View.{view_id}
use Rattle.keys.proofs.KeyLaws.{named_any}
use Rattle.keys.proofs.is_member.Goals as goal

pub returns : goal.returns
returns c = c.any_named.ensures (same (view_id c.args.keyid)) (λ k r h. search rules) ∙ named_any _ _
