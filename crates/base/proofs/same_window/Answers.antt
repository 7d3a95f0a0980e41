use Rattle.std.proofs.Common.{rules, ◌≡◌, ◌+◌, ◌∙◌, arith, tests}
use Rattle.std.proofs.lemmas.Iterator.{YieldsList-from_range}
use Rattle.std.proofs.lemmas.Iterator.Search.{all_from_yields_List}
use lib.Dec.{eqb}
use Rattle.base.specs.Window.{byte_at}
use Rattle.base.proofs.WindowLaws.{windows-compared}
use Rattle.base.proofs.same_window.Goals as goal

pub returns : goal.returns
returns c =
    let p = c.args in
    let e : p.i + 0 ≡ p.i = omega arith in
    let f : p.j + 0 ≡ p.j = omega arith in
    all_from_yields_List (λ k. eqb (byte_at p.a.now (p.i + k)) (byte_at p.b.now (p.j + k))) _ _ _ c.all.ensures.ran
    (YieldsList-from_range 0 p.n p.n (cc) (omega arith)) (λ x b q k. search (rules, tests))
    ∙ rw (windows-compared p.a.now p.b.now p.i p.j 0 p.n, e, f)
