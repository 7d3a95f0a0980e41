-- `shared_end` meets its contract. The invariant: the names compare as their rests from `i` and `j` on.
use mathlib.Core.Path.{◌≡◌}
use Prim.Native.Nat.{◌-◌}
use lib.ListN.{length, drop}
use Rattle.base.specs.Bytes.{less}
use Rattle.canonical_json.specs.Read.{raw}
use Rattle.canonical_json.proofs.shared_end.Given as goal

abbrev pub invariant-loop-i : goal.invariant-loop-i
invariant-loop-i l = less (raw (drop l.a l.s)) (raw (drop l.b l.s)) ≡ less (raw (drop l.i l.s)) (raw (drop l.j l.s))

abbrev pub decreases-loop-i : goal.decreases-loop-i
decreases-loop-i l = length l.s - l.i
