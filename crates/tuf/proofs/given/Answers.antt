-- `given` meets its contract.
use mathlib.Core.Path.{refl}
use Rattle.base.specs.Window.{byte_at, run, window}
use Rattle.records.specs.View.{view_id}
use Rattle.tuf.proofs.given.Goals as goal

pub returns-in-Err : goal.returns-in-Err
unfolding view_id window run byte_at
returns-in-Err c = rw c.in-Err.is (refl, refl)
