-- `image_at` meets its contract.
use mathlib.Core.Logic.{◌⊎◌}
use mathlib.Core.Path.{refl}
use Prim.Native.Nat.{◌≤◌, ◌<◌}
use Rattle.std.proofs.Common.{rules}
use Rattle.rules.specs.Limits.{max_path}
use Rattle.targets_file.proofs.ImageLaws.{path-out, reads-named, broken-name}
use Rattle.targets_file.proofs.image_at.Goals as goal

pub returns-then-not-contains : goal.returns-then-not-contains
returns-then-not-contains c =
    let e = c.text_len-name_length.ensures in
    let n = c.text_len-name_length.result in
    let h : (n < 1) ⊎ (max_path < n) = search rules in
    broken-name _ _ _ (λ v g. path-out _ v (rw e at h))

pub returns-in-Some : goal.returns-in-Some
returns-in-Some c =
    let e = c.text_len-name_length.ensures in
    let lo : 1 ≤ c.text_len-name_length.result = search rules in
    let hi : c.text_len-name_length.result ≤ max_path = search rules in
    reads-named _ _ _ _ (rw e at lo) (rw e at hi) (c.in-Some.ensures refl)

pub returns-in-None : goal.returns-in-None
returns-in-None c =
    let e = c.text_len-name_length.ensures in
    let lo : 1 ≤ c.text_len-name_length.result = search rules in
    let hi : c.text_len-name_length.result ≤ max_path = search rules in
    reads-named _ _ _ _ (rw e at lo) (rw e at hi) c.walked_image.ensures
