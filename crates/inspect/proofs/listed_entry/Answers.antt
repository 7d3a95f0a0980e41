-- `listed_entry` meets its contract.
use mathlib.Core.Path.{ap, ◌∙◌}
use Rattle.std.proofs.lemmas.Result.{err_from_is_err_and}
use Rattle.rules.specs.Asked.{no_entry}
use Rattle.envelope.proofs.ReadLaws.{was-some, was-none}
use Rattle.inspect.specs.View.{view_asked}
use Rattle.inspect.proofs.AskedLaws.{asked-refused, asked-none, asked-some}
use Rattle.inspect.proofs.listed_entry.Goals as goal

pub returns-in_err-open_envelope : goal.returns-in_err-open_envelope
unfolding view_asked
returns-in_err-open_envelope c =
    let p = err_from_is_err_and c.from_residual.result c.from_residual.ensures.1 in
    rw p.1 (ap no_entry p.2 ∙ asked-refused _ _ _ c.in_err-open_envelope.ensures)

pub returns-in_err-at : goal.returns-in_err-at
unfolding view_asked
returns-in_err-at c =
    let p = err_from_is_err_and c.from_residual-in_err-at.result c.from_residual-in_err-at.ensures.1 in
    let n = was-none _ _ _ c.in_err-at.ensures.value in
    rw (p.1, p.2, n.1) (asked-none _ _ _ c.in_ok-open_envelope.ensures (rw n.0 at c.find_entry.ensures))

pub returns : goal.returns
returns c =
    rw c.ok_or-2.ensures.value
    (asked-some _ _ _ c.in_ok-open_envelope.ensures _ (rw (was-some _ _ _ c.in_ok-at.ensures.value) at c.find_entry.ensures) _ c.entry_in.ensures _)
