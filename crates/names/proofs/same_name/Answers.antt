-- `same_name`: `==` on the bytes that are meant.
use Rattle.std.proofs.Common.{◌∙◌}
use Rattle.records.proofs.ListLaws.{equal-same}
use Rattle.names.proofs.same_name.Goals as goal

pub returns : goal.returns
returns c = rw (← c.text.ensures, ← c.text-2.ensures) (c.eq.ensures ∙ equal-same _ _)
