-- `push_hex`: the digits of the bytes so far are behind the line.
use Rattle.std.proofs.Common.{◌≡◌, ◌++◌, take}
use Rattle.base.specs.Hex.{hex_of}
use Rattle.script.proofs.line.Line.push_hex.Given as goal

abbrev pub invariant-loop-b : goal.invariant-loop-b
invariant-loop-b g l = l.self ≡ take g.row.N (l.initial.self ++ hex_of (take l.b-index l.bytes))
