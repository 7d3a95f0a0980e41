-- `tail`: the first k bytes are written.
use Rattle.std.proofs.Common.{◌≡◌, length, take, drop}
use Rattle.sha256.specs.Message.{padded}
use Rattle.sha256.proofs.tail.Given as goal

abbrev pub invariant-loop-k : goal.invariant-loop-k
invariant-loop-k l = (length l.t ≡ 128) × (take l.k l.t ≡ take l.k (drop l.start (padded l.s)))
