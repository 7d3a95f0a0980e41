use Rattle.std.proofs.Common.{◌∙◌, sym, arith}
use Rattle.records.specs.View.{view_role}
use Rattle.keys.proofs.KeyLaws.{named_here, named_not, named_end}
use Rattle.keys.proofs.any_named.Goals as goal
use Rattle.keys.proofs.any_named.Goals.{else-names-via-then-names+else-test, else-names-via-else-names}

pub loop-j-init : goal.loop-j-init
unfolding view_role
loop-j-init g c p f = rw c.all-key-items.ensures.viewed

pub returns-then-test : goal.returns-then-test
returns-then-test g c p f = sym (c.loop-j.invariant p f ∙ rw (named_here _ c.loop-j.j c.all-key-items.result.now (omega arith) (sym c.if-names.ensures), ← f _ _ c.test.ensures, c.if-test.true))

pub loop-j-preserved : goal.loop-j-preserved
loop-j-preserved g c p f =
    elim c.else-names.branch [
      | else-names-via-then-names+else-test w ↦ c.loop-j.invariant p f ∙ rw (named_here _ c.loop-j.j c.all-key-items.result.now (omega arith) (sym w.if-names.ensures), ← f _ _ w.test.ensures, w.if-test.false)
      | else-names-via-else-names w ↦ c.loop-j.invariant p f ∙ rw (named_not _ c.loop-j.j c.all-key-items.result.now (omega arith) (sym c.names.ensures ∙ w.if-names.false))
    ]

pub returns : goal.returns
returns g c p f = sym (c.loop-j.invariant p f ∙ rw (named_end _ c.loop-j.j c.all-key-items.result.now (omega arith)))
