-- `copy_text` meets its contract. The invariant: to store the bytes left after those stored gives the whole copy.
use mathlib.Core.Path.{◌≡◌}
use Prim.Native.Nat.{◌≤◌, ◌+◌, ◌-◌}
use lib.ListN.{length, drop}
use Rattle.canonical_json.specs.Read.{raw}
use lib.Seq.{sets}
use Rattle.lookup.specs.Leaves.{copied}
use Rattle.lookup.proofs.copy_text.Given as goal

abbrev pub invariant-loop-b : goal.invariant-loop-b
invariant-loop-b l = (l.j + length (raw (drop l.p l.s)) ≤ length l.out) × (length l.out ≡ length l.initial.out) × (copied (raw (drop l.i l.s)) l.initial.out ≡ sets l.out l.j (raw (drop l.p l.s)))

abbrev pub decreases-loop-b : goal.decreases-loop-b
decreases-loop-b l = length l.s - l.p
