use mathlib.Core.Path.{sym, ◌∙◌}
use lib.ListN.{drop}
use Rattle.canonical_json.specs.Read.{raw}
use Rattle.canonical_json.proofs.NameLaws as names
use Rattle.canonical_json.proofs.name_less.Goals as goal

pub returns-then-x-y : goal.returns-then-x-y
returns-then-x-y c =
    let s = c.args.s.now in
    sym (c.loop-y.invariant ∙ names.less-differ (raw (drop c.loop-y.i s)) (raw (drop c.loop-y.j s)) _ _ _ _ c.in-Some-char_at.ensures.means.0 c.in-Some.ensures.means.0 c.if-x-y.true)
