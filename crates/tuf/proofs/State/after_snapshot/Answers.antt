-- What decides a snapshot: the ways out of a step that reads a file.
use mathlib.Core.Path.{refl, sym}
use Rattle.rules.specs.State.{new_snapshot}
use Rattle.rules.specs.Steps.{answer, a_snapshot, trusting, offered, started}
use Rattle.envelope.proofs.ReadLaws.{read-says, read-judged}
use Rattle.records.specs.View.{view_snapshot}
use Rattle.tuf.specs.View.{view}
use Rattle.tuf.proofs.StepLaws.{unread, held_back, let_in}
use Rattle.tuf.proofs.State.after_snapshot.Goals as goal

pub returns-in_err-read : goal.returns-in_err-read
unfolding answer offered started
returns-in_err-read c =
    unread c.args.self.now (new_snapshot (record { file = c.args.file.now; row = c.args.row.now })) _ _ a_snapshot refl refl refl _ (read-judged view_snapshot _ _ c.in_err-read.ensures _) _ c.from_residual.ensures.1

pub returns-in_err-judge_snapshot : goal.returns-in_err-judge_snapshot
unfolding answer offered started view
returns-in_err-judge_snapshot c =
    let y = read-says view_snapshot _ _ c.in_ok-read.ensures in
    let j = c.in_err-judge_snapshot in
    held_back c.args.self.now (new_snapshot (record { file = c.args.file.now; row = c.args.row.now })) _ _ a_snapshot refl refl refl _ _ y _ (j.ensures _ (record { row_is = refl; size_is = sym c.wide-size.ensures; digest-is = sym c.digest-digest.ensures })) j.field-0.0 refl _ c.from_residual-in_err-judge_snapshot.ensures.1

pub returns : goal.returns
unfolding answer offered started view trusting
returns c =
    let y = read-says view_snapshot _ _ c.in_ok-read.ensures in
    let j = c.in_ok-judge_snapshot in
    let w = c.with_snapshot in
    let_in _ _ _ _ a_snapshot refl refl refl _ _ y _ (j.ensures _ (record { row_is = refl; size_is = sym c.wide-size.ensures; digest-is = sym c.digest-digest.ensures })) refl _ (λ _. w.ensures)
