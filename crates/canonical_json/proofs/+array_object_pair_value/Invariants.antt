-- Each call falls in the measure: three for each level of depth left.
use Rattle.std.proofs.Common.{length, ◌-◌, ◌≡◌, ◌+◌, ◌*◌, drop}
use Rattle.canonical_json.specs.Read.{end_of, read}
use Rattle.canonical_json.specs.Read.{array as array_of, object as object_of}
use Rattle.canonical_json.specs.Names.{last_of}
use Rattle.canonical_json.proofs.Loops.{arrays, objects, elements_of}
use Rattle.canonical_json.proofs.+array_object_pair_value.Given as goal

abbrev pub decreases-array : goal.decreases-array
decreases-array l = 3 * l.depth + 1

abbrev pub decreases-object : goal.decreases-object
decreases-object l = 3 * l.depth + 2

abbrev pub decreases-pair : goal.decreases-pair
decreases-pair l = 3 * l.depth + 1

abbrev pub decreases-value : goal.decreases-value
decreases-value l = 3 * l.depth

abbrev pub invariant-array-loop-e : goal.invariant-array-loop-e
invariant-array-loop-e l = end_of (length l.s) (array_of (read l.depth) (drop l.at l.s)) ≡ end_of (length l.s) (elements_of (arrays l.depth) tt (drop l.i l.s))

abbrev pub decreases-array-loop-e : goal.decreases-array-loop-e
decreases-array-loop-e l = length l.s - l.i

abbrev pub invariant-object-loop-e : goal.invariant-object-loop-e
invariant-object-loop-e l = end_of (length l.s) (object_of (read l.depth) (drop l.at l.s)) ≡ end_of (length l.s) (elements_of (objects l.depth) (last_of l.s l.last) (drop l.i l.s))

abbrev pub decreases-object-loop-e : goal.decreases-object-loop-e
decreases-object-loop-e l = length l.s - l.i
