-- `expand`: the first t words of the schedule are written.
use Rattle.std.proofs.Common.{◌≡◌, ◌-◌, length, take}
use Rattle.sha256.specs.Compress.{schedule}
use Rattle.sha256.proofs.expand.Given as goal

abbrev pub invariant-loop-t : goal.invariant-loop-t
invariant-loop-t l = (length l.w ≡ 64) × (take l.t l.w ≡ schedule (take 16 l.initial.w) (l.t - 16))
