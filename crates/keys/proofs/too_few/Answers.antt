-- `too_few`: the ones of the signers' bits within the role, against the threshold.
use Rattle.std.proofs.Common.{◌∙◌, rules, ap, arith, min, ℕ, ltb}
use Rattle.rules.specs.Conditions.{too_few}
use Rattle.records.specs.View.{view_role, view_entries}
use Rattle.keys.specs.Signers.{Marks, signs_at}
use Rattle.keys.proofs.CountLaws.{count_ones}
use Rattle.keys.proofs.KeyLaws.{asked_marks}
use Rattle.keys.proofs.too_few.Goals as goal

pub returns : goal.returns
unfolding too_few view_role signs_at
returns c =
    let a = c.args in
    let m : Marks (min a.table.count 16) (signs_at a.table (view_entries a.entries) a.row.now) c.places-signers.result = asked_marks _ _ _ _ c.places-signers.ensures (λ k r h. search rules) in
    ap (λ (n : ℕ). ltb n a.role.threshold) (c.from.ensures ∙ count_ones a.table a.role _ _ c.places-signers.result (omega arith) m)
