-- `bad_row`: the row's length first, then its verdicts.
use Rattle.std.proofs.Common.{arith, rules, tests, ◌≡◌, ltb, length, ap}
use Rattle.std.proofs.lemmas.List.{length-map}
use Rattle.std.proofs.lemmas.Iterator.{YieldsList-from_slice}
use Rattle.std.proofs.lemmas.Iterator.Search.{any_from_yields_List}
use borrow.Author.Tests.{eq-eqb, ne_eqb}
use Rattle.records.specs.View.{view_entries}
use Rattle.records.proofs.ListLaws.{any-list}
use Rattle.keys.proofs.KeyLaws.{bad-row}
use Rattle.keys.proofs.bad_row.Goals as goal

pub returns-then-row-all : goal.returns-then-row-all
returns-then-row-all c =
    let n : length c.all.result.now ≡ length (view_entries c.args.entries) = simp length-map at (ap length c.all.ensures.viewed) in
    rw (bad-row _ c.args.row.now _ n, ne_eqb (length c.args.row.now) (length c.all.result.now) (λ e. omega arith))

pub returns-else-row-all : goal.returns-else-row-all
returns-else-row-all c =
    let n : length c.all.result.now ≡ length (view_entries c.args.entries) = simp length-map at (ap length c.all.ensures.viewed) in
    let found = any_from_yields_List (λ v. ltb 1 v) _ _ c.any.result c.any.ensures.ran (YieldsList-from_slice c.args.row.now cc) (λ x b q k. search (rules, tests)) in
    rw (bad-row _ c.args.row.now _ n, eq-eqb (length c.args.row.now) (length c.all.result.now) (omega arith), ← any-list (λ v. ltb 1 v) c.args.row.now) found
