-- `keyids_field` meets its contract.
use mathlib.Core.Path.{◌≡◌}
use mathlib.Core.Bool.{true}
use Rattle.canonical_json.specs.Fields.{members}
use Rattle.rules.specs.Forms.{own_table}
use Rattle.lookup.specs.Place.{Tests}
use Rattle.std.proofs.Common.{rules}
use Rattle.std.specs.Prelude.{MatchOption}
use Rattle.root_file.proofs.OwnLaws.{table_found}
use Rattle.root_file.proofs.keyids_field.Goals as goal

pub returns : goal.returns
returns c =
    let m : MatchOption c.args.found (c.is_none_or.result ≡ true) (λ x. Tests c.args.s.now x (λ v. own_table (members v)) c.is_none_or.result) = search rules in
    table_found _ _ _ m
