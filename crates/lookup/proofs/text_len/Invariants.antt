-- `text_len` meets its contract. The invariant: the bytes counted and those left are all.
use mathlib.Core.Path.{◌≡◌}
use Prim.Native.Nat.{◌≤◌, ◌+◌, ◌-◌}
use lib.ListN.{length, drop}
use Rattle.canonical_json.specs.Read.{raw}
use Rattle.lookup.proofs.text_len.Given as goal

abbrev pub invariant-loop-next : goal.invariant-loop-next
invariant-loop-next l = (l.n ≤ l.p) × (length (raw (drop l.i l.s)) ≡ l.n + length (raw (drop l.p l.s)))

abbrev pub decreases-loop-next : goal.decreases-loop-next
decreases-loop-next l = length l.s - l.p
