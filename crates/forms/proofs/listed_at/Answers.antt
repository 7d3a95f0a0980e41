-- `listed_at` meets its contract.
use mathlib.Core.Path.{sym, ap, ◌∙◌}
use Rattle.std.specs.declared.option.Option.TheVariants.{Some}
use Rattle.std.specs.Option.{option_map}
use Rattle.records.specs.View.{view_id}
use Rattle.rules.specs.Forms.{version}
use Rattle.forms.proofs.StepLaws.{reads-none}
use Rattle.forms.proofs.ListedLaws.{no-version, no_length, no-digest, listed-is}
use Rattle.forms.proofs.listed_at.Goals as goal

pub returns-in_err-version : goal.returns-in_err-version
unfolding version
returns-in_err-version c =
    let m = c.find_members-m.ensures in
    reads-none _ _ _ _ _ c.from_residual.ensures (λ v h. no-version v (sym c.in_err-version.was ∙ c.version_field.ensures _ _ m.first.means v h))

pub returns-in_err-length : goal.returns-in_err-length
unfolding version
returns-in_err-length c =
    let m = c.find_members-m.ensures in
    reads-none _ _ _ _ _ c.from_residual-in_err-length.ensures (
    λ v h.
    no_length v _ (sym c.in_ok-version.was ∙ c.version_field.ensures _ _ m.first.means v h)
    (sym c.in_err-length.was ∙ c.number_may.ensures _ _ m.second.means v h)
    )

pub returns-in_err-digest : goal.returns-in_err-digest
unfolding version
returns-in_err-digest c =
    let m = c.find_members-m.ensures in
    reads-none _ _ _ _ _ c.from_residual-in_err-digest.ensures (
    λ v h.
    no-digest v _ (sym c.in_ok-version.was ∙ c.version_field.ensures _ _ m.first.means v h)
    _ (sym c.in_ok-length.was ∙ c.number_may.ensures _ _ m.second.means v h)
    (ap (option_map (option_map view_id)) (sym c.in_err-digest.was) ∙ c.digest_may.ensures _ _ m.third.means v h)
    )

pub returns : goal.returns
unfolding version
returns c =
    let m = c.find_members-m.ensures in
    record {
      means = λ v h.
          ap Some c.listed.ensures
          ∙ listed-is v _ (sym c.in_ok-version.was ∙ c.version_field.ensures _ _ m.first.means v h)
          _ (sym c.in_ok-length.was ∙ c.number_may.ensures _ _ m.second.means v h)
          _ (ap (option_map (option_map view_id)) (sym c.in_ok-digest.was) ∙ c.digest_may.ensures _ _ m.third.means v h);
      end = m.end;
    }
