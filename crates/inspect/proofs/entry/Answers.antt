-- `entry` meets its contract: a refusal gives zeros.
use Rattle.base.specs.Window.{run, byte_at, window}
use Rattle.rules.specs.Asked.{no_entry}
use Rattle.records.specs.View.{view_id}
use Rattle.inspect.specs.View.{view_entry_read, view_asked}
use Rattle.inspect.proofs.entry.Goals as goal

pub returns-in-Ok : goal.returns-in-Ok
unfolding view_asked
returns-in-Ok c = c.in-Ok.ensures

pub returns-in-Err : goal.returns-in-Err
unfolding view_asked view_entry_read no_entry view_id window run byte_at
returns-in-Err c = c.in-Err.ensures
