use Rattle.std.proofs.Common.{sym, ◌∙◌, arith}
use Rattle.records.specs.View.{view_listed}
use Rattle.names.proofs.NameLaws.{listed-hit, listed-skip, listed-end, lost_gone, lost_lower, lost_not, lost-end}
use Rattle.names.proofs.lost.Goals as goal

pub loop-now-preserved : goal.loop-now-preserved
loop-now-preserved c =
    let l = c.loop-now in
    (l.invariant.0, l.invariant.1 ∙ listed-skip c.listed-now-items.result.now l.now-index _ (omega arith) (sym c.same_name.ensures ∙ c.if-same_name.false))

pub held-preserved : goal.held-preserved
unfolding view_listed
held-preserved c =
    let found = c.loop-now.invariant.1 ∙ listed-hit c.listed-now-items.result.now c.loop-now.now-index _ (omega arith) (sym c.same_name.ensures ∙ c.if-same_name.true) in
    (c.loop-now.invariant.0, c.held.invariant.1 ∙ lost_not c.listed-old-items.result.now c.held.old-index _ (omega arith) _ found (omega arith))

pub returns-after-held : goal.returns-after-held
returns-after-held c =
    c.held.invariant.0 ∙ sym (c.held.invariant.1 ∙ lost-end c.listed-old-items.result.now c.held.old-index _ (omega arith))

pub returns-then-now-old : goal.returns-then-now-old
unfolding view_listed
returns-then-now-old c =
    let found = c.loop-now.invariant.1 ∙ listed-hit c.listed-now-items.result.now c.loop-now.now-index _ (omega arith) (sym c.same_name.ensures ∙ c.if-same_name.true) in
    sym (c.held.invariant.1 ∙ lost_lower c.listed-old-items.result.now c.held.old-index _ (omega arith) _ found (omega arith))

pub returns-after-loop-now : goal.returns-after-loop-now
returns-after-loop-now c =
    let none = c.loop-now.invariant.1 ∙ listed-end c.listed-now-items.result.now c.loop-now.now-index _ (omega arith) in
    sym (c.held.invariant.1 ∙ lost_gone c.listed-old-items.result.now c.held.old-index _ (omega arith) none)
