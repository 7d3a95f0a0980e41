-- `is_object` meets its contract.
use Rattle.canonical_json.specs.Fields.{keep}
use Rattle.envelope.proofs.ObjectLaws.{not-object, is-object}
use Rattle.envelope.proofs.is_object.Goals as goal
use Rattle.envelope.proofs.is_object.Goals.{in-NoObject, in_default}

pub returns : goal.returns
unfolding keep
returns c =
    λ v h.
    elim c.match-matches.branch [
      | in-NoObject w ↦ rw w.matches-is (not-object _ _ _ c.first_member.ensures v h w.in-NoObject.is)
      | in_default w ↦ rw w.matches-is (is-object _ _ _ c.first_member.ensures v h w.in_default.not-NoObject)
    ]
