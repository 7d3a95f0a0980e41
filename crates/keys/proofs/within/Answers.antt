-- `within`: no named keyid is missing.
use Rattle.std.proofs.Common.{rules, ◌∙◌, ap, not}
use Rattle.rules.specs.Forms.{is_in}
use Rattle.records.specs.View.{view_role}
use Rattle.keys.proofs.KeyLaws.{within-any}
use Rattle.keys.proofs.within.Goals as goal

pub returns : goal.returns
returns c =
    let ks = (view_role c.args.b.now c.args.other).keyids in
    ap not (c.any_named.ensures (λ k. not (is_in k ks)) (λ k r h. search rules)) ∙ within-any _ _
