-- `digest_may` meets its contract.
use mathlib.Core.Path.{refl, ap}
use Rattle.std.specs.Option.{option_map}
use Rattle.canonical_json.specs.Options.{bind}
use Rattle.records.specs.View.{view_id}
use Rattle.forms.proofs.StepLaws.{may-lacks, may-holds}
use Rattle.forms.proofs.digest_may.Goals as goal

pub returns-in_default : goal.returns-in_default
returns-in_default c = may-lacks _ _ _ c.in_default.is

pub returns-in_err-digest : goal.returns-in_err-digest
unfolding bind
returns-in_err-digest c =
    may-holds _ _ _ _ c.in-Some.is _ (rw c.in_err-digest.was at c.digest_at.ensures) _ (ap (option_map (option_map view_id)) c.from_residual.ensures)

pub returns : goal.returns
unfolding bind
returns c = may-holds _ _ _ _ c.in-Some.is _ (rw c.in_ok-digest.was at c.digest_at.ensures) _ refl
