-- What `targets_entry` promises.
use Rattle.std.specs.Prelude.{◌≡◌, List}
use Rattle.rules.specs.Records.{Listed, Named}
use Rattle.rules.specs.State.{Snapshot}
use Rattle.rules.specs.Conditions.{targets_entry}

-- what a snapshot with these names says of `targets.json`, whatever else it says
abbrev pub TargetsEntry : List Named → Listed → Type 0
TargetsEntry names l = (n : Snapshot) → n.names ≡ names → l ≡ targets_entry n
