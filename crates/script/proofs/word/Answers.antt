-- `word`: the part of that number, of those between spaces.
use Rattle.std.proofs.Common.{◌≡◌, refl, sym, ap, ◌∙◌, [], rules, tests, Some, None}
use Rattle.std.specs.declared.option.Option.{Option}
use Rattle.std.specs.Option.{option_map, unwrap_or}
use Rattle.std.specs.List.{slice_get}
use Rattle.std.specs.Borrow.{Bor}
use Rattle.std.proofs.lemmas.Option.{unwrap_or-slice_get}
use Rattle.std.proofs.lemmas.Iterator.Consumers.{nth_from_yields_List}
use Rattle.std.proofs.lemmas.Iterator.Splits.{YieldsList-from_slice_split}
use Rattle.base.specs.Bytes.{Bytes}
use Rattle.script.proofs.WordLaws.{word-parts, parts, is_space}
use Rattle.script.proofs.word.Goals as goal

found : (r : Option (Bor Bytes)) (d : Bor Bytes) → (unwrap_or r d).now ≡ unwrap_or (option_map (λ x. x.now) r) d.now
found None d = refl
found (Some x) d = refl

pub returns : goal.returns
returns c =
    let s = c.args.line.now in
    let part : option_map (λ x. x.now) c.nth.result ≡ slice_get (parts s) c.args.k =
    nth_from_yields_List _ _ c.args.k c.nth.ensures.ran (YieldsList-from_slice_split _ is_space s c.split.ensures.rest c.split.ensures.done c.split.ensures.closure (λ x r q k. search (rules, tests))) in
    ap (λ (x : Bor Bytes). x.now) c.unwrap_or.ensures
    ∙ found c.nth.result _
    ∙ ap (λ (o : Option Bytes). unwrap_or o []) part
    ∙ unwrap_or-slice_get (parts s) c.args.k []
    ∙ sym (word-parts c.args.k s)
