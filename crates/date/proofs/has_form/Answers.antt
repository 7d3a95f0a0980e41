use Rattle.std.proofs.Common.{◌∙◌, ℕ, rules, tests, arith}
use Rattle.std.proofs.lemmas.Grind.{common_steps}
use Rattle.std.proofs.lemmas.Iterator.{YieldsList-from_slice, YieldsList-from_zip}
use Rattle.std.proofs.lemmas.Iterator.Search.{all_from_yields_List}
use Rattle.date.specs.Calendar.{fits}
use Rattle.date.proofs.FormLaws.{form_lengths, form-pairs}
use Rattle.date.proofs.has_form.Goals as goal

pub returns-then-form-s : goal.returns-then-form-s
returns-then-form-s c =
    let p = c.args in
    all_from_yields_List (λ (q : ℕ × ℕ). fits q.0 q.1) c.all.new.self _ _ c.all.ensures.ran
    (YieldsList-from_zip (YieldsList-from_slice p.form.now (cc)) (YieldsList-from_slice p.s.now (cc))) (λ x b q k. search (rules, tests))
    ∙ form-pairs p.form.now p.s.now c.if-form-s.true

pub returns-else-form-s : goal.returns-else-form-s
returns-else-form-s c = grind (arith, common_steps, form_lengths c.args.form.now c.args.s.now c.if-form-s.false)
