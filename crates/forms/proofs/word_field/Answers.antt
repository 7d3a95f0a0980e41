-- `word_field` meets its contract.
use mathlib.Core.Path.{◌≡◌}
use mathlib.Core.Bool.{false}
use Rattle.std.proofs.Common.{rules}
use Rattle.std.specs.Prelude.{MatchOption}
use Rattle.canonical_json.specs.Fields.{keep}
use Rattle.lookup.specs.Place.{Takes}
use Rattle.rules.specs.Take.{word}
use Rattle.forms.proofs.StepLaws.{must-test}
use Rattle.forms.proofs.word_field.Goals as goal

pub returns : goal.returns
returns c =
    let a = c.args in
    let b = c.is_some_and.result in
    let m : MatchOption a.found (b ≡ false) (λ x. Takes a.s.now x (word a.k.now) (keep b tt)) = search rules in
    must-test _ _ _ _ m
