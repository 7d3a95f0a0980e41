-- `all_hex`: the whole is hex exactly where what was looked at was and what is left is.
use Rattle.std.proofs.Common.{◌≡◌, ◌&&◌, drop}
use Rattle.base.specs.Hex.{all_hex}
use Rattle.base.proofs.all_hex.Given as goal

abbrev pub invariant-loop-b : goal.invariant-loop-b
invariant-loop-b l = all_hex l.s ≡ l.ok && all_hex (drop l.b-index l.s)
