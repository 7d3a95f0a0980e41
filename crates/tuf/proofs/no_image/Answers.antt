-- `no_image` meets its contract.
use mathlib.Core.Path.{refl}
use Rattle.base.specs.Window.{byte_at, run, window}
use Rattle.rules.specs.Asked.{nothing_found}
use Rattle.records.specs.View.{view_id}
use Rattle.tuf.specs.View.{view_image}
use Rattle.tuf.proofs.no_image.Goals as goal

pub returns : goal.returns
unfolding view_image nothing_found view_id window run byte_at
returns c = record { answer = refl; zeros = refl; counts = refl }
