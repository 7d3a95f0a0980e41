-- `all_rounds`: the rounds that the iterators have left are left.
use Rattle.std.proofs.Common.{◌≡◌}
use Rattle.sha256.specs.Constants.{constants}
use Rattle.sha256.specs.Compress.{rounds}
use Rattle.sha256.proofs.all_rounds.Given as goal

abbrev pub invariant-loop-k : goal.invariant-loop-k
invariant-loop-k l = rounds l.fn.h constants l.fn.w ≡ rounds l.v l.k-iterator.a.rest.now l.k-iterator.b.rest.now
