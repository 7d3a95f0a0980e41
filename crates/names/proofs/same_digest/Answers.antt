-- `same_digest`: `==` on all 32 bytes.
use Rattle.std.proofs.Common.{arith, ◌∙◌}
use Rattle.records.proofs.ListLaws.{equal-same}
use Rattle.records.proofs.MeantLaws.{id_whole}
use Rattle.names.proofs.same_digest.Goals as goal

pub returns : goal.returns
returns c = rw (id_whole c.args.id (omega arith)) (c.eq.ensures ∙ rw c.as_slice.ensures (equal-same c.args.d.now c.args.id.bytes))
