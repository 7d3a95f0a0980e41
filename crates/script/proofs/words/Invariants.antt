-- `words`: one more than the spaces so far.
use Rattle.std.proofs.Common.{◌≡◌, ◌+◌, take}
use Rattle.std.specs.List.{count_by}
use Rattle.script.proofs.WordLaws.{is_space}
use Rattle.script.proofs.words.Given as goal

abbrev pub invariant-loop-b : goal.invariant-loop-b
invariant-loop-b l = l.n ≡ count_by is_space (take l.b-index l.line) + 1
