-- `targets_entry`: the first name that is `targets.json`.
use Rattle.std.proofs.Common.{rules, tests, ◌∙◌, ap, sym}
use Rattle.std.specs.Option.{option_map}
use Rattle.std.proofs.lemmas.Iterator.{YieldsList-from_slice}
use Rattle.std.proofs.lemmas.Iterator.Search.{find_from_yields_List}
use Rattle.base.specs.Bytes.{bytes, same}
use Rattle.canonical_json.specs.Fields.{keep}
use Rattle.rules.specs.Conditions.{listed_as}
use Rattle.records.specs.declared.Named.{Named}
use Rattle.records.specs.View.{view_listed, view_name}
use Rattle.names.proofs.NameLaws.{entry-some, entry-none, listed-find, listed-none}
use Rattle.names.proofs.targets_entry.Goals as goal

pub returns-in-Some : goal.returns-in-Some
returns-in-Some c s e =
    let found =
    find_from_yields_List {s = c.iter.result} (λ (n : Named). same (bytes "targets.json") (view_name n.name)) _ _ c.find.result c.find.ensures.ran (YieldsList-from_slice c.listed.result.now cc) (λ x b q h. search (rules, tests)) in
    entry-some s _ (ap (listed_as _) (e ∙ sym c.listed.ensures.viewed) ∙ listed-find _ _ _ (sym found ∙ ap (option_map _) c.in-Some.is))

pub returns-in-None : goal.returns-in-None
unfolding view_listed keep
returns-in-None c s e =
    let found =
    find_from_yields_List {s = c.iter.result} (λ (n : Named). same (bytes "targets.json") (view_name n.name)) _ _ c.find.result c.find.ensures.ran (YieldsList-from_slice c.listed.result.now cc) (λ x b q h. search (rules, tests)) in
    entry-none s (ap (listed_as _) (e ∙ sym c.listed.ensures.viewed) ∙ listed-none _ _ (sym found ∙ ap (option_map _) c.in-None.is))
