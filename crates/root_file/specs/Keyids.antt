-- What a function promises that is given the place where a key table was found, or that there is none: it tests the keyids of that table, of whatever
-- object and under whatever name.
use Rattle.std.specs.Prelude.{Bool, ℕ}
use Rattle.base.specs.Bytes.{Bytes}
use Rattle.canonical_json.specs.Fields.{members, field}
use Rattle.lookup.specs.Place.{Finds, Tests}
use Rattle.std.specs.declared.option.Option.{Option}
use Rattle.rules.specs.Take.{must}
use Rattle.rules.specs.Forms.{own_table}

abbrev pub TestsTable : Bytes → Option ℕ → Bool → Type 0
TestsTable s found r = (p : ℕ) (k : Bytes) → Finds s p (field k) found → Tests s p (λ v. own_table (must k members v)) r
