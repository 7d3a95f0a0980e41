-- `push`: the piece goes behind what there is, as far as there is room.
use Rattle.std.proofs.Common.{◌≡◌, ◌≤◌, sym, ap, ◌∙◌, length, arith}
use Rattle.std.proofs.lemmas.List.{length-take-le}
use Rattle.script.proofs.LineLaws.{pushed}
use Rattle.script.proofs.line.Line.push.Goals as goal

pub returns : goal.returns
returns g c =
    let l = c.self.inside in
    let bound : l.len ≤ length l.bytes = omega (arith, c.self.invariant) in
    let long : length c.args.self.now ≡ l.len = ap length (sym c.self.view_is) ∙ length-take-le l.len l.bytes bound in
    rw (c.copy_from_slice.ensures.after, c.self.view_is) (pushed c.args.self.now c.args.text.now _ l.len c.min-n.result g.row.N long c.self.invariant c.min-n.ensures)
