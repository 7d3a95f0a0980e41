-- `listed` meets its contract.
use mathlib.Core.Path.{refl}
use Rattle.records.specs.View.{view_id, view_listed}
use Rattle.forms.proofs.ListedLaws.{kept, kept_self}
use Rattle.forms.proofs.listed.Goals as goal

pub returns : goal.returns
unfolding view_listed
returns c =
    rw (c.is_some.ensures, c.unwrap_or.ensures, kept_self 0 c.args.length, c.is_some-2.ensures, c.unwrap_or-2.ensures, kept view_id _ c.args.digest) refl
