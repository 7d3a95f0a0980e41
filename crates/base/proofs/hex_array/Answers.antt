use Rattle.std.proofs.Common.{rules}
use lib.ListN.{length-replicate}
use Rattle.base.proofs.HexLaws.{undone-then}
use Rattle.base.proofs.hex_array.Goals as goal

pub returns : goal.returns
returns g c =
    let u = c.undo_hex-accepted in
    search (rules, undone-then g.row.N _ _ u.new.out u.result (length-replicate _ _) u.ensures)
