-- `is_shared_block` meets its contract. The invariant: where no other byte was met, those that were looked at are shared.
use mathlib.Core.Path.{◌≡◌}
use mathlib.Core.Bool.{true}
use Rattle.canonical_json.specs.Strings.{SharedRun}
use Rattle.canonical_json.proofs.is_shared_block.Given as goal

abbrev pub invariant-loop-k : goal.invariant-loop-k
invariant-loop-k l = l.all ≡ true → SharedRun l.s l.a l.b l.k
