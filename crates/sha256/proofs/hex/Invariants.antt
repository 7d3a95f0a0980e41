-- `hex`: the digits of the first bytes are written.
use Rattle.std.proofs.Common.{◌≡◌, ◌*◌, ◌++◌, length, take, drop}
use Rattle.base.specs.Hex.{hex_of}
use Rattle.sha256.proofs.hex.Given as goal

abbrev pub invariant-loop-i : goal.invariant-loop-i
invariant-loop-i l = (length l.out ≡ 64) × (hex_of l.b-items ≡ take (l.i * 2) l.out ++ hex_of (drop l.i l.b-items))
