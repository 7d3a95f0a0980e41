-- `block_words`: the first k words are read.
use Rattle.std.proofs.Common.{◌≡◌, length, take}
use Rattle.sha256.specs.Message.{words_at}
use Rattle.sha256.proofs.block_words.Given as goal

abbrev pub invariant-loop-k : goal.invariant-loop-k
invariant-loop-k l = (length l.m ≡ 64) × (take l.k l.m ≡ take l.k (words_at l.block 0 16))
