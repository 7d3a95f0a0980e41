-- `keys_at` meets its contract.
use mathlib.Core.Path.{sym, ap, ◌∙◌}
use Rattle.rules.specs.Forms.{different}
use Rattle.forms.proofs.StepLaws.{reads-none}
use Rattle.root_file.proofs.TableLaws.{publics-of, no-table, same-publics, table_is}
use Rattle.root_file.proofs.keys_at.Goals as goal

pub returns-in_err-table : goal.returns-in_err-table
returns-in_err-table c = reads-none _ _ _ _ _ c.from_residual.ensures (λ v h. no-table v (c.in_err-table.ensures.means v h))

pub returns-then-not-publics_differ : goal.returns-then-not-publics_differ
returns-then-not-publics_differ c =
    record { means = λ v h. same-publics v _ (c.in_ok-table.ensures.means v h) (sym c.if-not-publics_differ.true ∙ c.publics_differ.ensures ∙ ap different (sym (publics-of _ _ c.all.ensures.viewed))); end = tt }

pub returns : goal.returns
returns c =
    record {
      means = λ v h. table_is v _ (c.in_ok-table.ensures.means v h) (sym c.if-not-publics_differ.false ∙ c.publics_differ.ensures ∙ ap different (sym (publics-of _ _ c.all.ensures.viewed)));
      end = c.in_ok-table.ensures.end;
    }
