-- `same_id`: `==` on all 32 bytes.
use Rattle.std.proofs.Common.{arith, ◌∙◌}
use Rattle.records.proofs.ListLaws.{equal-same}
use Rattle.records.proofs.MeantLaws.{id_whole}
use Rattle.keys.proofs.same_id.Goals as goal

pub returns : goal.returns
returns c =
    rw (id_whole c.args.a (omega arith), id_whole c.args.b (omega arith)) (c.eq.ensures ∙ equal-same _ _)
