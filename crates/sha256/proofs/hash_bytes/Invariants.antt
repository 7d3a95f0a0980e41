-- `hash_bytes`: the first i bytes are written.
use Rattle.std.proofs.Common.{◌≡◌, length, take}
use Rattle.sha256.specs.Message.{word_bytes}
use Rattle.sha256.proofs.hash_bytes.Given as goal

abbrev pub invariant-loop-i : goal.invariant-loop-i
invariant-loop-i l = (length l.out ≡ 32) × (take l.i l.out ≡ take l.i (word_bytes l.words))
