-- What decides a root: the ways out of a step that reads a file.
use mathlib.Core.Path.{refl, ◌∙◌}
use Rattle.rules.specs.State.{new_root}
use Rattle.rules.specs.Steps.{answer, a_root, offered, started}
use Rattle.envelope.proofs.ReadLaws.{read-says, read-judged}
use Rattle.records.specs.View.{view_root}
use Rattle.tuf.specs.View.{view}
use Rattle.tuf.proofs.StepLaws.{unread, held_back, let_in, root-after}
use Rattle.tuf.proofs.State.after_root.Goals as goal

pub returns-in_err-read : goal.returns-in_err-read
unfolding answer offered started
returns-in_err-read c =
    unread c.args.self.now (new_root (record { file = c.args.file.now; held_row = c.args.held.now; own_row = c.args.own.now })) _ _ a_root refl refl refl _ (read-judged view_root _ _ c.in_err-read.ensures _) _ c.from_residual.ensures.1

pub returns-in_err-judge_root : goal.returns-in_err-judge_root
unfolding answer offered started view
returns-in_err-judge_root c =
    let y = read-says view_root _ _ c.in_ok-read.ensures in
    let j = c.in_err-judge_root in
    held_back c.args.self.now (new_root (record { file = c.args.file.now; held_row = c.args.held.now; own_row = c.args.own.now })) _ _ a_root refl refl refl _ _ y _ (j.ensures _ refl refl) j.field-0.0 refl _ c.from_residual-in_err-judge_root.ensures.1

pub returns : goal.returns
unfolding answer offered started view
returns c =
    let y = read-says view_root _ _ c.in_ok-read.ensures in
    let j = c.in_ok-judge_root in
    let w = c.with_root in
    let_in _ _ _ _ a_root refl refl refl _ _ y _ (j.ensures _ refl refl) refl _ (λ z. w.ensures ∙ root-after _ _ _ _ z)
