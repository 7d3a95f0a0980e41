-- `plain_block` meets its contract. The invariant: while no other byte was seen, the string goes on past the bytes looked at.
use mathlib.Core.Path.{◌≡◌}
use mathlib.Core.Bool.{true}
use Prim.Native.Nat.{◌+◌}
use Rattle.skip.specs.Skim.{Bare}
use Rattle.skip.proofs.plain_block.Given as goal

abbrev pub invariant-loop-b : goal.invariant-loop-b
invariant-loop-b l = l.plain ≡ true → Bare l.s l.at (l.at + l.b-index)
