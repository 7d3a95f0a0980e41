-- What decides a timestamp: the ways out of a step that reads a file.
use mathlib.Core.Path.{refl}
use Rattle.rules.specs.State.{new_timestamp}
use Rattle.rules.specs.Steps.{answer, a_timestamp, trusting, offered, started}
use Rattle.envelope.proofs.ReadLaws.{read-says, read-judged}
use Rattle.records.specs.View.{view_timestamp}
use Rattle.tuf.specs.View.{view}
use Rattle.tuf.proofs.StepLaws.{unread, held_back, let_in}
use Rattle.tuf.proofs.State.after_timestamp.Goals as goal

pub returns-in_err-read : goal.returns-in_err-read
unfolding answer offered started
returns-in_err-read c =
    unread c.args.self.now (new_timestamp (record { file = c.args.file.now; row = c.args.row.now })) _ _ a_timestamp refl refl refl _ (read-judged view_timestamp _ _ c.in_err-read.ensures _) _ c.from_residual.ensures.1

pub returns-in_err-judge_timestamp : goal.returns-in_err-judge_timestamp
unfolding answer offered started view
returns-in_err-judge_timestamp c =
    let y = read-says view_timestamp _ _ c.in_ok-read.ensures in
    let j = c.in_err-judge_timestamp in
    held_back c.args.self.now (new_timestamp (record { file = c.args.file.now; row = c.args.row.now })) _ _ a_timestamp refl refl refl _ _ y _ (j.ensures _ refl) j.field-0.0 refl _ c.from_residual-in_err-judge_timestamp.ensures.1

pub returns : goal.returns
unfolding answer offered started view trusting
returns c =
    let y = read-says view_timestamp _ _ c.in_ok-read.ensures in
    let j = c.in_ok-judge_timestamp in
    let w = c.with_timestamp in
    let_in _ _ _ _ a_timestamp refl refl refl _ _ y _ (j.ensures _ refl) refl _ (λ _. w.ensures)
