-- `look` meets its contract: a refusal gives zeros.
use Rattle.inspect.specs.View.{view_look, view_looked, no_look}
use Rattle.inspect.proofs.look.Goals as goal

pub returns-in-Ok : goal.returns-in-Ok
unfolding view_looked
returns-in-Ok c = c.in-Ok.ensures

pub returns-in-Err : goal.returns-in-Err
unfolding view_look view_looked no_look
returns-in-Err c = c.in-Err.ensures
