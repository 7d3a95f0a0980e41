-- `is_targets`: `==` on the bytes that are meant.
use Rattle.std.proofs.Common.{◌∙◌}
use Rattle.base.specs.Bytes.{bytes}
use Rattle.base.proofs.ByteLaws.{same-sym}
use Rattle.records.proofs.ListLaws.{equal-same}
use Rattle.names.proofs.is_targets.Goals as goal

pub returns : goal.returns
returns c =
    c.eq.ensures ∙ rw (c.text.ensures, c.as_slice.ensures) (equal-same _ _ ∙ same-sym _ (bytes "targets.json"))
