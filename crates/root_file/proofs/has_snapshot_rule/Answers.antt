-- `has_snapshot_rule` meets its contract.
use mathlib.Core.Path.{◌≡◌}
use mathlib.Core.Bool.{false}
use lib.ListN.{drop}
use Rattle.std.proofs.Common.{rules}
use Rattle.std.specs.Prelude.{MatchOption}
use Rattle.std.specs.Option.{is_some}
use Rattle.lookup.specs.Leaves.{truth_in}
use Rattle.root_file.proofs.BodyLaws.{snapshot_rule}
use Rattle.root_file.proofs.has_snapshot_rule.Goals as goal

pub returns : goal.returns
returns c =
    let m : MatchOption c.args.found (c.is_some_and.result ≡ false) (λ x. c.is_some_and.result ≡ is_some (truth_in (drop x c.args.s.now))) = search rules in
    snapshot_rule _ _ _ m
