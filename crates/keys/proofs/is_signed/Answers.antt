-- `is_signed`: the pairs of an entry and its verdict.
use Rattle.std.proofs.Common.{rules, tests, Bool, ℕ, ◌&&◌, eqb}
use Rattle.std.specs.List.{zip}
use Rattle.std.proofs.lemmas.Iterator.{YieldsList-from_slice, YieldsList-from_zip}
use Rattle.std.proofs.lemmas.Iterator.Search.{any_from_yields_List}
use Rattle.base.specs.Bytes.{same}
use Rattle.records.specs.declared.Id.{Id}
use Rattle.records.specs.View.{view_id}
use Rattle.records.proofs.ListLaws.{any-list}
use Rattle.keys.proofs.KeyLaws.{signed-zip}
use Rattle.keys.proofs.is_signed.Goals as goal

pub returns : goal.returns
returns c =
    let k = view_id c.args.keyid in
    let test : Id × ℕ → Bool = λ p. eqb p.1 1 && same k (view_id p.0) in
    let found =
    any_from_yields_List test c.any.new.self _ c.any.result c.any.ensures.ran (YieldsList-from_zip (YieldsList-from_slice c.all.result.now cc) (YieldsList-from_slice c.args.row.now cc)) (λ x b q h. search (rules, tests)) in
    rw (← c.all.ensures.viewed, signed-zip k c.all.result.now c.args.row.now, ← any-list test (zip c.all.result.now c.args.row.now)) found
