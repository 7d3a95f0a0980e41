-- `hash_blocks`: the first blocks are done.
use Rattle.std.proofs.Common.{◌≡◌}
use Rattle.sha256.specs.Message.{hashed}
use Rattle.sha256.proofs.hash_blocks.Given as goal

abbrev pub invariant-loop-block : goal.invariant-loop-block
invariant-loop-block l = l.v ≡ hashed l.initial.v l.s l.block-index
