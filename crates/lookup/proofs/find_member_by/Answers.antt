use mathlib.Core.Path.{refl, sym, ◌∙◌}
use Rattle.lookup.proofs.SeveralLaws.{note-other, seeks_first, seeks_here, seeks_next}
use Rattle.lookup.proofs.find_member_by.Goals as goal

pub loop-m-init : goal.loop-m-init
loop-m-init c = λ k. seeks_first _ _ _ _ c.first_member-m.ensures

pub returns-then-text_is : goal.returns-then-text_is
returns-then-text_is c = λ k. seeks_here _ _ _ _ (c.loop-m.invariant k) _ _ c.in-At.is (sym c.if-text_is.true ∙ c.text_is.ensures)

pub loop-m-preserved : goal.loop-m-preserved
loop-m-preserved c = λ k.
    let n = c.next_member_by-m.ensures.means (c.known_end.ensures _ k) in
    seeks_next _ _ _ _ _ (c.loop-m.invariant k) _ _ c.in-At.is _ n _ (note-other _ _ _ refl (sym c.if-text_is.false ∙ c.text_is.ensures))
