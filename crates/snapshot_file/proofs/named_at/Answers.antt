-- `named_at` meets its contract.
use Rattle.records.specs.View.{view_named}
use Rattle.snapshot_file.proofs.NameLaws.{no-name, no-listed, named-is}
use Rattle.snapshot_file.proofs.named_at.Goals as goal

pub returns-in_err-name : goal.returns-in_err-name
returns-in_err-name c = rw c.from_residual.ensures (record { means = λ v h. no-name _ v c.in_err-name.ensures; end = tt })

pub returns-in_err-said : goal.returns-in_err-said
returns-in_err-said c =
    rw c.from_residual-in_err-said.ensures (record { means = λ v h. no-listed _ v _ c.in_ok-name.ensures (c.in_err-said.ensures.means v h); end = tt })

pub returns : goal.returns
unfolding view_named
returns c =
    let said = c.in_ok-said.ensures in
    record { means = λ v h. named-is _ v _ c.in_ok-name.ensures _ (said.means v h); end = said.end }
