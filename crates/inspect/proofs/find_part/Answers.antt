-- `find_part` meets its contract: refused with its file, or the part from its place to its end.
use mathlib.Core.Path.{ap, ◌∙◌}
use Rattle.std.proofs.lemmas.Result.{err_from_is_err_and}
use Rattle.envelope.proofs.ReadLaws.{was-some, was-none}
use Rattle.inspect.specs.View.{view_look, view_looked, no_look}
use Rattle.inspect.proofs.LookLaws.{look-refused, look-endless, look_is}
use Rattle.inspect.proofs.find_part.Goals as goal

pub returns-in_err-opened : goal.returns-in_err-opened
unfolding view_looked
returns-in_err-opened c =
    let p = err_from_is_err_and c.from_residual.result c.from_residual.ensures.1 in
    rw p.1 (ap no_look p.2 ∙ look-refused _ _ c.in_err-opened.ensures)

pub returns-in_err-end : goal.returns-in_err-end
returns-in_err-end c = look-endless _ _ c.in_ok-opened.ensures (rw (was-none _ _ _ c.in_err-end.ensures.value).0 at c.value_end.ensures)

pub returns : goal.returns
unfolding view_look view_looked
returns c =
    look_is _ _ c.in_ok-opened.ensures _ (rw (was-some _ _ _ c.in_ok-end.ensures.value) at c.value_end.ensures) c.all.result.now c.all.ensures.viewed
