-- `places_of`: each key was asked for its keyid.
use Rattle.std.proofs.Common.{rules}
use Rattle.keys.specs.Signers.{has_id}
use Rattle.keys.proofs.KeyLaws.{asked_marks}
use Rattle.keys.proofs.places_of.Goals as goal

pub returns : goal.returns
unfolding has_id
returns c = asked_marks _ _ _ _ c.places.ensures (λ k r h. search rules)
