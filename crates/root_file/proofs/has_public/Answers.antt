-- `has_public`: the public values, one after the other.
use Rattle.std.proofs.Common.{rules, tests}
use Rattle.std.proofs.lemmas.Iterator.{YieldsList-from_slice}
use Rattle.std.proofs.lemmas.Iterator.Search.{any_from_yields_List}
use Rattle.base.specs.Bytes.{same}
use Rattle.records.specs.declared.Key.{Key}
use Rattle.records.specs.View.{view_id}
use Rattle.root_file.proofs.TableLaws.{public-any}
use Rattle.root_file.proofs.has_public.Goals as goal

pub returns : goal.returns
returns c =
    let x = view_id c.args.public in
    let found =
    any_from_yields_List (λ (k : Key). same x (view_id k.public)) c.any.new.self _ c.any.result c.any.ensures.ran (YieldsList-from_slice c.args.keys.now cc) (λ k b q h. search (rules, tests)) in
    rw (← public-any x c.args.keys.now) found
