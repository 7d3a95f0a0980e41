-- `public_of`: the first key with that keyid.
use Rattle.std.proofs.Common.{rules, ◌≡◌}
use Rattle.std.proofs.Common.{tests, None}
use Rattle.std.proofs.lemmas.Iterator.{YieldsList-from_slice}
use Rattle.std.proofs.lemmas.Iterator.Search.{find_from_yields_List}
use Rattle.base.specs.Bytes.{same}
use Rattle.records.specs.declared.Key.{Key}
use Rattle.records.specs.View.{view_id}
use Rattle.keys.proofs.KeyLaws.{asked-find}
use Rattle.keys.proofs.public_of.Goals as goal

pub returns-in_err-key : goal.returns-in_err-key
returns-in_err-key c =
    let k = view_id c.args.keyid in
    let found =
    find_from_yields_List {s = c.iter.result} (λ (x : Key). same k (view_id x.keyid)) _ _ c.find.result c.find.ensures.ran (YieldsList-from_slice c.all.result.now cc) (λ x b q h. search (rules, tests)) in
    let none : c.from_residual.result ≡ None = search rules in
    rw (← c.all.ensures.viewed, none) (rw (← found, c.in_err-key.was) at (asked-find k c.all.result.now))

pub returns : goal.returns
returns c =
    let k = view_id c.args.keyid in
    let found =
    find_from_yields_List {s = c.iter.result} (λ (x : Key). same k (view_id x.keyid)) _ _ c.find.result c.find.ensures.ran (YieldsList-from_slice c.all.result.now cc) (λ x b q h. search (rules, tests)) in
    rw (← c.all.ensures.viewed) (rw (← found, c.in_ok-key.was) at (asked-find k c.all.result.now))
