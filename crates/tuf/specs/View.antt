-- What the library's state stands for in the paper's terms.
use Rattle.rules.specs.State as rules
use Rattle.state.specs.View as state
use Rattle.rules.specs.Asked.{Found}
use Rattle.records.specs.View.{view_id}
use Rattle.tuf.specs.declared.State.{State}
use Rattle.tuf.specs.declared.Image.{Image}

unfoldable pub view : State → rules.State
view s = state.view s.trusted

-- what find gives besides its answer and the number of names compared
unfoldable pub view_image : Image → Found
view_image r = record { length = r.length; digest = view_id r.digest }
