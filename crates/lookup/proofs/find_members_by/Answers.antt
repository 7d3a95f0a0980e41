use Rattle.lookup.proofs.EndLaws.{walks_first, walks_next, walks_end}
use Rattle.lookup.proofs.SeveralLaws.{seeks_first, seeks_end, seeks_next}
use Rattle.lookup.proofs.find_members_by.Goals as goal

pub loop-m-init : goal.loop-m-init
loop-m-init c = λ k.
    let w = c.first_member-m.ensures in
    (walks_first _ _ _ w, seeks_first _ _ _ _ w, seeks_first _ _ _ _ w, seeks_first _ _ _ _ w, seeks_first _ _ _ _ w)

pub loop-m-preserved : goal.loop-m-preserved
loop-m-preserved c = λ k.
    let q = c.in-At.is in
    let n = c.next_member_by-m.ensures.means (c.known_end.ensures _ k) in
    let i = c.loop-m.invariant k in (
      walks_next _ _ _ i.0 _ _ q _ n,
      seeks_next _ _ _ _ _ i.1 _ _ q _ n _ c.noted-first.ensures,
      seeks_next _ _ _ _ _ i.2 _ _ q _ n _ c.noted-second.ensures,
      seeks_next _ _ _ _ _ i.3 _ _ q _ n _ c.noted-third.ensures,
      seeks_next _ _ _ _ _ i.4 _ _ q _ n _ c.noted-fourth.ensures,
    )

pub returns-in-End : goal.returns-in-End
returns-in-End c = λ k.
    let q = c.in-End.is in
    let i = c.loop-m.invariant k in
    record {
      first = seeks_end _ _ _ _ _ i.1 _ q;
      second = seeks_end _ _ _ _ _ i.2 _ q;
      third = seeks_end _ _ _ _ _ i.3 _ q;
      fourth = seeks_end _ _ _ _ _ i.4 _ q;
      end = walks_end _ _ _ i.0 _ q;
    }
