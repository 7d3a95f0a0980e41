-- `publics_differ`: the public values from place i on decide.
use mathlib.Core.Path.{◌≡◌}
use lib.ListN.{drop}
use Rattle.rules.specs.Forms.{different}
use Rattle.root_file.specs.View.{publics}
use Rattle.root_file.proofs.publics_differ.Given as goal

abbrev pub invariant-loop-i : goal.invariant-loop-i
invariant-loop-i l = different (publics l.keys) ≡ different (publics (drop l.i l.keys))
