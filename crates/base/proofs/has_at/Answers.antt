-- `has_at`: past the end nothing stands but nothing.
use Rattle.std.proofs.Common.{rules, ◌≡◌, ◌<◌, ◌∙◌, arith, sym, length, drop}
use Rattle.std.proofs.lemmas.Grind.{common_steps}
use Rattle.std.proofs.lemmas.Slice.{between_to_end}
use Rattle.base.proofs.ByteLaws.{stood, stood_none}
use Rattle.base.proofs.has_at.Goals as goal

pub returns-in-Some : goal.returns-in-Some
returns-in-Some c =
    let a = c.args in
    let e : c.in-Some.rest.now ≡ drop a.at a.s.now = grind (arith, common_steps, between_to_end a.s.now a.at (length a.s.now)) in
    search (rules, stood a.s.now a.w.now c.in-Some.rest.now a.at e)

pub returns-in-None : goal.returns-in-None
returns-in-None c =
    let a = c.args in
    let h : length a.s.now < a.at = grind (arith, common_steps) in
    c.is_empty.ensures ∙ sym (stood_none a.s.now a.w.now a.at (omega arith))
