-- `find` meets its contract: refused with zeros, with the number of names compared where it is 15, or the image that the file lists.
use mathlib.Core.Path.{refl, sym, ◌∙◌}
use native.Mathlib.Omega.{arith}
use borrow.Author.Tests.{eqb-true, eqb-false}
use Rattle.answers.proofs.MostLaws.{is_not_listed, positive}
use Rattle.tuf.specs.View.{view, view_image}
use Rattle.tuf.proofs.TargetsLaws.{find-unread, targets-read, find-judged, find_unlisted, find-other, find-there, find-found}
use Rattle.tuf.proofs.State.find.Goals as goal

pub returns-in-Err : goal.returns-in-Err
returns-in-Err c = find-unread _ _ c.in-Err.fault c.in-Err.ensures c.from.result c.from.ensures _ c.no_image.ensures

pub returns-in-Err-judge_find : goal.returns-in-Err-judge_find
unfolding view
returns-in-Err-judge_find c =
    let f = targets-read _ _ _ c.in-Ok.ensures in
    let j = find-judged _ _ _ f _ c.digest-digest.ensures _ (λ p q g l es. c.in-Err-judge_find.ensures p q g (record { listed-is = c.is_some.ensures ∙ l.listed-is }) es) in
    let w = sym c.eq.ensures ∙ c.if-eq.true in
    find_unlisted _ _ _ _ j (eqb-true _ 15 (sym (is_not_listed c.in-Err-judge_find.why) ∙ w)) _ c.no_image-in-Err-judge_find.ensures

pub returns-in-Err-2 : goal.returns-in-Err-2
unfolding view
returns-in-Err-2 c =
    let f = targets-read _ _ _ c.in-Ok.ensures in
    let j = find-judged _ _ _ f _ c.digest-digest.ensures _ (λ p q g l es. c.in-Err-judge_find.ensures p q g (record { listed-is = c.is_some.ensures ∙ l.listed-is }) es) in
    let w = sym (is_not_listed c.in-Err-judge_find.why) ∙ sym c.eq.ensures ∙ c.if-eq.false in
    let p = positive c.in-Err-judge_find.why in
    find-other _ _ _ _ j (λ z. omega (arith, p)) (eqb-false _ 15 w) _ c.no_image-in-Err-2.ensures

pub unwrap-found-requires : goal.unwrap-found-requires
unfolding view
unwrap-found-requires c =
    let f = targets-read _ _ _ c.in-Ok.ensures in
    let j = find-judged _ _ _ f _ c.digest-digest.ensures _ (λ p q g l es. c.in-Ok-judge_find.ensures p q g (record { listed-is = c.is_some.ensures ∙ l.listed-is }) es) in
    find-there _ _ _ _ j refl

pub returns-in-Ok-judge_find : goal.returns-in-Ok-judge_find
unfolding view view_image
returns-in-Ok-judge_find c =
    let f = targets-read _ _ _ c.in-Ok.ensures in
    let j = find-judged _ _ _ f _ c.digest-digest.ensures _ (λ p q g l es. c.in-Ok-judge_find.ensures p q g (record { listed-is = c.is_some.ensures ∙ l.listed-is }) es) in
    find-found _ _ _ _ j refl c.unwrap-found.result c.unwrap-found.ensures refl
