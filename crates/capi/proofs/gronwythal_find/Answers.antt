-- `gronwythal_find` meets its contract: that of the call.
use mathlib.Core.Path.{◌∙◌}
use Rattle.tuf.specs.View as tuf
use Rattle.capi.specs.View.{view_image}
use Rattle.capi.proofs.gronwythal_find.Goals as goal

pub returns : goal.returns
unfolding view_image tuf.view_image
returns c =
    let w = c.find-found.ensures in
    record { answered = c.number.ensures ∙ w.answered; gives = w.gives; counts = w.counts }
