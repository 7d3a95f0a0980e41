-- `text_order` meets its contract. The invariant: what is left of both stands as they do.
use mathlib.Core.Path.{◌≡◌}
use lib.ListN.{drop}
use Rattle.canonical_json.specs.Read.{raw}
use Rattle.lookup.specs.Leaves.{order_of}
use Rattle.lookup.proofs.text_order.Given as goal

abbrev pub invariant-loop-x : goal.invariant-loop-x
invariant-loop-x l = order_of (raw (drop l.i l.s)) l.k ≡ order_of (raw (drop l.p l.s)) (drop l.x-index l.k)
