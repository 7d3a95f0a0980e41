-- `word_at` meets its contract.
use mathlib.Core.Path.{◌≡◌}
use mathlib.Core.Bool.{false}
use lib.ListN.{drop}
use Rattle.std.proofs.Common.{rules}
use Rattle.std.specs.Prelude.{MatchOption}
use Rattle.base.specs.Bytes.{Bytes, same}
use Rattle.canonical_json.specs.Read.{raw}
use Rattle.rules.specs.Take.{word}
use Rattle.forms.proofs.StepLaws.{text-test}
use Rattle.forms.proofs.word_at.Goals as goal

pub returns : goal.returns
unfolding word
returns c =
    let a = c.args in
    let b = c.is_some_and.result in
    let m : MatchOption c.string_at.result (b ≡ false) (λ i. b ≡ same (raw (drop i a.s.now)) a.k.now) = search rules in
    text-test _ _ _ c.string_at.ensures (λ (t : Bytes). same t a.k.now) _ m
