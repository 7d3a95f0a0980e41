-- `has_own_keyid` meets its contract: the digest is that of the text from the value's place to its end.
use mathlib.Core.Path.{ap, ◌∙◌}
use lib.ListN.{drop}
use Rattle.base.specs.Bytes.{same}
use Rattle.canonical_json.specs.Read.{raw}
use Rattle.root_file.proofs.OwnLaws.{endless, by-digest}
use Rattle.root_file.proofs.has_own_keyid.Goals as goal

pub returns-in_default : goal.returns-in_default
returns-in_default c w = let a = c.args in endless a.s.now a.name a.value _ (rw c.in_default.is at w)

pub returns : goal.returns
returns c w = let a = c.args in by-digest a.s.now a.name a.value _ _ (c.text_is.ensures ∙ ap (same (raw (drop a.name a.s.now))) c.hex_digest.ensures) (rw c.in-Some.is at w)
