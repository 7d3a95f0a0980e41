-- `places`: the places below j were asked.
use Rattle.std.proofs.Common.{get_or}
use Rattle.records.specs.View.{no_key}
use Rattle.keys.specs.Signers.{Marked}
use Rattle.keys.proofs.places.Given as goal

abbrev pub invariant-loop-j : goal.invariant-loop-j
invariant-loop-j g l = Marked (λ k r. goal.F-post g l.test (get_or l.key-items k no_key).keyid r) l.j l.bits
