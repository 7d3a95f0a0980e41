-- `canonical_json::is_plain_block` meets its contract. The invariant: where no other byte was met, those that were looked at are plain.
use mathlib.Core.Path.{◌≡◌}
use mathlib.Core.Bool.{true}
use Rattle.canonical_json.specs.Strings.{PlainRun}
use Rattle.canonical_json.proofs.is_plain_block.Given as goal

abbrev pub invariant-loop-b : goal.invariant-loop-b
invariant-loop-b l = l.all ≡ true → PlainRun l.s l.at l.b-index
