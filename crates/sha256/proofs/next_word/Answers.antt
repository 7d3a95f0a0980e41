-- `next_word`: by the functions that it calls.
use Rattle.sha256.proofs.next_word.Goals as goal

pub returns : goal.returns
returns c = cc
