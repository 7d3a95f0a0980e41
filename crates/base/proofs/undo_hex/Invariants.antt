-- `undo_hex`: the first i bytes are undone, and what is left of the digits gives the rest.
use Rattle.std.proofs.Common.{◌≡◌, ◌++◌, ◌*◌, true, length, take, drop}
use Rattle.base.specs.Hex.{all_hex, undo}
use Rattle.base.proofs.undo_hex.Given as goal

abbrev pub invariant-loop-i : goal.invariant-loop-i
invariant-loop-i l = (length l.s ≡ length l.out * 2) × (all_hex l.s ≡ true) × (undo l.s ≡ take l.i l.out ++ undo (drop (l.i * 2) l.s))
