-- `canonical_json::string` meets its contract. The invariant: the string ends where it ends when it is read from `i` on.
use mathlib.Core.Path.{◌≡◌}
use Prim.Native.Nat.{◌-◌}
use lib.ListN.{length, drop}
use Rattle.canonical_json.specs.Read.{end_of, read_str}
use Rattle.canonical_json.proofs.string.Given as goal

abbrev pub invariant-loop-i : goal.invariant-loop-i
invariant-loop-i l = end_of (length l.s) (read_str (drop l.at l.s)) ≡ end_of (length l.s) (read_str (drop l.i l.s))

abbrev pub decreases-loop-i : goal.decreases-loop-i
decreases-loop-i l = length l.s - l.i
