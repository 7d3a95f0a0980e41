-- `with_image` meets its contract: a name is compared where the search is not over.
use mathlib.Core.Path.{ap, ◌∙◌}
use mathlib.Core.Bool.{true}
use Rattle.std.specs.declared.option.Option.{Option}
use Rattle.std.specs.declared.cmp.Ordering.TheVariants.{Less, Equal, Greater}
use Rattle.canonical_json.specs.Fields.{keep}
use Rattle.rules.specs.Asked.{Found}
use Rattle.targets_file.specs.View.{view_search}
use Rattle.targets_file.proofs.ImageLaws.{still-over, compared-now}
use Rattle.targets_file.proofs.with_image.Goals as goal

pub returns-then-search : goal.returns-then-search
returns-then-search c = λ k h. still-over _ _ c.args.search c.args.n _ c.args.image c.if-search.true

pub returns-in-Less : goal.returns-in-Less
unfolding view_search keep
returns-in-Less c = λ k h. let a = c.args in let o = c.if-search.false in compared-now _ _ a.search _ a.i a.image o (k o) Less c.in-Less.ensures

pub returns-in-Equal : goal.returns-in-Equal
unfolding view_search keep
returns-in-Equal c =
    λ k h.
    let a = c.args in
    let o = c.if-search.false in
    ap (λ (i : Option Found). record { over = true; compared = a.n; image = i }) (c.found_image.ensures h)
    ∙ compared-now _ _ a.search _ a.i a.image o (k o) Equal c.in-Equal.ensures

pub returns-in-Greater : goal.returns-in-Greater
unfolding view_search keep
returns-in-Greater c = λ k h. let a = c.args in let o = c.if-search.false in compared-now _ _ a.search _ a.i a.image o (k o) Greater c.in-Greater.ensures
