-- What decides a targets file: the ways out of a step that reads a file.
use mathlib.Core.Path.{refl, sym, ◌∙◌}
use Rattle.rules.specs.State.{keep_targets, new_targets}
use Rattle.rules.specs.Steps.{answer, a_targets, offered, started}
use Rattle.records.specs.View.{view_targets}
use Rattle.tuf.specs.View.{view}
use Rattle.tuf.proofs.StepLaws.{unread, held_back, let_in}
use Rattle.tuf.proofs.TargetsLaws.{targets-unread, targets-read, targets-after}
use Rattle.tuf.proofs.State.after_targets.Goals as goal

pub returns-in_err-read : goal.returns-in_err-read
unfolding answer offered started
returns-in_err-read c =
    unread c.args.self.now (new_targets (record { file = c.args.file.now; row = c.args.row.now })) _ _ (λ g. a_targets (keep_targets _ g)) refl refl refl _ (targets-unread _ _ _ c.in_err-read.ensures _) _ c.from_residual.ensures.1

pub returns-in_err-judge_targets : goal.returns-in_err-judge_targets
unfolding answer offered started view
returns-in_err-judge_targets c =
    let f = targets-read _ _ _ c.in_ok-read.ensures in
    let j = c.in_err-judge_targets in
    held_back c.args.self.now (new_targets (record { file = c.args.file.now; row = c.args.row.now })) _ _ (λ g. a_targets (keep_targets _ g)) refl refl refl _ _ f.said _
    (j.ensures _ (record { row_is = refl; size_is = sym c.wide-size.ensures; digest-is = sym c.digest-bytes.ensures }) f.targets f.dated) j.field-0.0 refl _
    c.from_residual-in_err-judge_targets.ensures.1

pub returns : goal.returns
unfolding answer offered started view view_targets
returns c =
    let f = targets-read _ _ _ c.in_ok-read.ensures in
    let j = c.in_ok-judge_targets in
    let w = c.with_targets in
    let_in _ _ _ _ (λ g. a_targets (keep_targets _ g)) refl refl refl _ _ f.said _
    (j.ensures _ (record { row_is = refl; size_is = sym c.wide-size.ensures; digest-is = sym c.digest-bytes.ensures }) f.targets f.dated) refl _
    (λ _. w.ensures ∙ targets-after _ _ _ _ _ _ f.dated c.digest-bytes.ensures)
