-- Demand 3 of the library: every run of its calls is a history, and the claim holds of it.
use mathlib.Core.Path.{refl}
use mathlib.Core.List.{List, [], ◌∷◌}
use Prim.Native.Nat.{ℕ}
use Rattle.rules.specs.State.{Call}
use Rattle.rules.specs.Steps.{Stepped}
use Rattle.history.specs.Program.{Step, Chained, Run, Holds}
use Rattle.history.proofs.Program.{find-stepped, key-stepped, state-stepped, program}
use Rattle.tuf.specs.View.{view}
use Rattle.tuf.specs.Library.{Made, stepping, finding, asking, telling, Calls, none, then, LibraryRun}
use Rattle.tuf.specs.declared.State.{State}

pub made_stepped : {self s : State} {c : Call} {n : ℕ} → Made self c n s → Stepped (view self) c n (view s)
made_stepped (stepping w) = w.stepped
made_stepped {self} (finding {q} {n} w) = find-stepped (view self) q n w.answered
made_stepped {self} (asking {k} {n} w) = key-stepped (view self) k n w.answered
made_stepped {self} (telling w) = state-stepped (view self)

unfoldable pub steps_of : {s : State} → Calls s → List (Step State view)
steps_of none = []
steps_of (then {s} {s'} {c} {n} m more) =
    record { given = s; call = c; answers = n; returned = s'; promise = made_stepped m } ∷ steps_of more

pub in_turn : {s : State} (cs : Calls s) → Chained State view s (steps_of cs)
unfolding steps_of
in_turn none = tt
in_turn (then m more) = (refl, in_turn more)

-- a run of the library as a run of a program
unfoldable pub run_of : LibraryRun → Run State view
run_of l =
    record {
      install = l.install;
      answers = l.answer;
      first = l.first;
      promise = l.began;
      accepted = l.accepted;
      steps = steps_of l.calls;
      chained = in_turn l.calls;
    }

pub library : (l : LibraryRun) → Holds State view (run_of l)
library l = program State view (run_of l)
