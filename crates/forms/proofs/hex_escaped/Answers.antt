-- `hex_escaped` meets its contract.
use mathlib.Core.Path.{◌≡◌, ap, ◌∙◌}
use Prim.Native.Nat.{ℕ, ◌*◌}
use native.Mathlib.Omega.{arith}
use lib.ListN.{length, length-replicate}
use Rattle.forms.proofs.TextLaws.{unhex-not, unhex-is}
use Rattle.forms.proofs.hex_escaped.Goals as goal

pub whole_as_slice-as_flattened_mut : goal.whole_as_slice-as_flattened_mut
whole_as_slice-as_flattened_mut g c = omega (arith, c.requires)

pub returns-then-not-fill_text : goal.returns-then-not-fill_text
returns-then-not-fill_text g c =
    let d = c.as_flattened_mut-digits in
    let l : length d.result.now ≡ g.row.N * 2 = d.ensures.len ∙ ap (λ (k : ℕ). k * 2) (length-replicate _ _) in
    unhex-not g.row.N _ _ _ _ l c.fill_text.ensures c.if-not-fill_text.true

pub returns : goal.returns
returns g c =
    let d = c.as_flattened_mut-digits in
    let l : length d.result.now ≡ g.row.N * 2 = d.ensures.len ∙ ap (λ (k : ℕ). k * 2) (length-replicate _ _) in
    c.hex_array.ensures ∙ unhex-is g.row.N _ _ _ _ l c.fill_text.ensures c.if-not-fill_text.false
