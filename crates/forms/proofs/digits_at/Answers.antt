-- `digits_at`: the test says of a string what the form says.
use mathlib.Core.Path.{sym, ap, ◌∙◌}
use Rattle.lookup.proofs.StringLaws.{string-text}
use Rattle.rules.specs.Take.{hex}
use Rattle.forms.specs.View.{undone_at}
use Rattle.forms.proofs.StepLaws.{text-none, text_at}
use Rattle.forms.proofs.TextLaws.{digits-is, digits_standing, unhex-no, unhex_yes, hex_at-none}
use Rattle.forms.proofs.digits_at.Goals as goal

pub returns-in_err-i : goal.returns-in_err-i
unfolding hex undone_at
returns-in_err-i c =
    let a = c.args in
    let e = c.from_residual.ensures in
    (text-none _ _ c.string_at.ensures _ _ c.in_err-i.was (ap (undone_at a.s.now) e), hex_at-none a.n a.s.now _ e)

pub returns-then-has_digits : goal.returns-then-has_digits
unfolding hex undone_at
returns-then-has_digits c =
    let a = c.args in
    let d = digits-is a.n a.s.now _ (sym c.has_digits.ensures ∙ c.if-has_digits.true) in
    (text_at _ _ c.string_at.ensures _ _ _ c.in_ok-i.was (unhex_yes a.n _ d), d)

pub returns-else-has_digits : goal.returns-else-has_digits
unfolding hex undone_at
returns-else-has_digits c =
    let a = c.args in
    let q = c.in_ok-i.was in (
      λ v h. text_at _ _ c.string_at.ensures _ _ _ q (unhex-no a.n _ (sym (digits_standing a.n a.s.now _ _ (string-text _ _ v h _ c.string_at.ensures _ q)) ∙ sym c.has_digits.ensures ∙ c.if-has_digits.false)) v h,
      tt,
    )
