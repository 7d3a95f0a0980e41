-- What decides an install: a refusal, or the root alone.
use mathlib.Core.Path.{refl}
use Rattle.envelope.proofs.ReadLaws.{read-says, read-judged}
use Rattle.records.specs.View.{view_root}
use Rattle.tuf.proofs.StepLaws.{not-begun, begun-refused, begun-accepted}
use Rattle.tuf.proofs.installed.Goals as goal

pub returns-in_err-read : goal.returns-in_err-read
returns-in_err-read c = not-begun _ _ (read-judged view_root _ _ c.in_err-read.ensures _) _ c.from_residual.ensures.1

pub returns-in_err-judge_install : goal.returns-in_err-judge_install
returns-in_err-judge_install c =
    let y = read-says view_root _ _ c.in_ok-read.ensures in
    let j = c.in_err-judge_install in
    begun-refused _ _ _ y _ (j.ensures _ refl) j.field-0.0 refl _ c.from_residual-in_err-judge_install.ensures.1

pub returns : goal.returns
returns c =
    let y = read-says view_root _ _ c.in_ok-read.ensures in
    begun-accepted _ _ _ y _ (c.in_ok-judge_install.ensures _ refl) refl _ c.installed.ensures
