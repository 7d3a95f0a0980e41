-- `found_image` meets its contract.
use mathlib.Core.Path.{sym, ap, ◌∙◌}
use Rattle.std.specs.declared.option.Option.TheVariants.{Some}
use Rattle.base.specs.Bytes.{Bytes}
use Rattle.rules.specs.Limits.{digest_size}
use Rattle.rules.proofs.OptionLaws.{none-not-some, some_is}
use Rattle.forms.proofs.TextLaws.{unhex_yes}
use Rattle.targets_file.specs.View.{described, view_found}
use Rattle.targets_file.proofs.found_image.Goals as goal

pub returns-in_err-digest : goal.returns-in_err-digest
returns-in_err-digest c = λ h. none-not-some (c.in_err-digest.ensures ∙ sym (unhex_yes digest_size _ h))

pub returns : goal.returns
unfolding described view_found
returns c = λ h. ap (λ (d : Bytes). Some (record { length = c.args.image.length; digest = d })) (some_is (c.in_ok-digest.ensures ∙ sym (unhex_yes digest_size _ h)))
