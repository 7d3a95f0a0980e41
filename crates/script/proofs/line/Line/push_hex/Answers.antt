use Rattle.std.proofs.Common.{◌∙◌}
use Rattle.script.proofs.LineLaws as laws
use Rattle.script.proofs.line.Line.push_hex.Goals as goal

pub loop-b-init : goal.loop-b-init
loop-b-init g c = laws.hex-none g.row.N c.args.self.now c.args.bytes.now c.self.inside.len c.self.inside.bytes c.self.view_is c.self.invariant

pub loop-b-preserved : goal.loop-b-preserved
loop-b-preserved g c = c.push.ensures ∙ laws.hex-step g.row.N c.args.self.now c.args.bytes.now c.loop-b.self c.loop-b.b-index _ _ c.loop-b-test.true c.hex_glyph.ensures c.hex_glyph-in-loop-b.ensures c.loop-b.invariant

pub returns : goal.returns
returns g c = laws.hex-all g.row.N c.args.self.now c.args.bytes.now c.loop-b.self c.loop-b.b-index c.loop-b-test.false c.loop-b.invariant
