-- `parse` tests the form, and then reads the six numbers.
use mathlib.Core.Path.{refl, sym, ◌∙◌}
use Rattle.date.proofs.FormLaws.{digits-at}
use Rattle.date.proofs.CalendarLaws.{no-form, date-form}
use Rattle.date.proofs.parse.Goals as goal

pub returns-then-not-has_form : goal.returns-then-not-has_form
returns-then-not-has_form c = no-form _ (sym c.has_form.ensures ∙ c.if-not-has_form.true)

pub two_digits-requires : goal.two_digits-requires
two_digits-requires c = digits-at _ c.has_form.ensures c.if-not-has_form.false 0 refl refl

pub two_digits-requires-2 : goal.two_digits-requires-2
two_digits-requires-2 c = digits-at _ c.has_form.ensures c.if-not-has_form.false 2 refl refl

pub two_digits-month-requires : goal.two_digits-month-requires
two_digits-month-requires c = digits-at _ c.has_form.ensures c.if-not-has_form.false 5 refl refl

pub two_digits-day-requires : goal.two_digits-day-requires
two_digits-day-requires c = digits-at _ c.has_form.ensures c.if-not-has_form.false 8 refl refl

pub two_digits-hour-requires : goal.two_digits-hour-requires
two_digits-hour-requires c = digits-at _ c.has_form.ensures c.if-not-has_form.false 11 refl refl

pub two_digits-minute-requires : goal.two_digits-minute-requires
two_digits-minute-requires c = digits-at _ c.has_form.ensures c.if-not-has_form.false 14 refl refl

pub two_digits-second-requires : goal.two_digits-second-requires
two_digits-second-requires c = digits-at _ c.has_form.ensures c.if-not-has_form.false 17 refl refl

pub returns : goal.returns
returns c =
    cc (date-form c.args.s.now (sym c.has_form.ensures ∙ c.if-not-has_form.false))
