-- `canonical_json::tail_end` meets its contract: each turn takes one byte of the character.
use mathlib.Core.Path.{◌≡◌}
use Prim.Native.Nat.{◌≤◌, ◌-◌}
use lib.ListN.{length, drop}
use Rattle.canonical_json.specs.Read.{end_of, chars}
use Rattle.canonical_json.proofs.tail_end.Given as goal

abbrev pub invariant-loop : goal.invariant-loop
invariant-loop l = (end_of (length l.s) (chars (drop l.at l.s) l.more l.lo l.hi) ≡ end_of (length l.s) (chars (drop l.i l.s) (l.more - l.counter) l.low l.high)) × (l.at ≤ l.i)
