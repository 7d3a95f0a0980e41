-- The values of an array that are meant, as a view reads them by index and as a part of the list.
use Rattle.std.proofs.Common.{◌∙◌, ◌≡◌, ◌<◌, sym, refl, ℕ, zero, suc, ◌+◌, ◌≤◌, min, List, ◌∷◌, map, length, get_or, take, drop, ap, arith, add-one, drop-cons}
use Rattle.base.specs.Window.{run}
use Rattle.std.proofs.Math.Seq.{take_all}
use Rattle.base.proofs.WindowLaws.{window-part}
use Rattle.records.specs.declared.Id.{Id}
use Rattle.records.specs.View.{firsts, view_id}

run-map : {A B : Type 0} (f : A → B) (xs : List A) (d : A) (i n : ℕ) → i + n ≤ length xs → run (λ j. f (get_or xs j d)) i n ≡ map f (take n (drop i xs))
unfolding run
run-map f xs d i zero h = refl
run-map f xs d i (suc n) h =
    let l : i < length xs = omega arith in
    rw (drop-cons xs i d, ← add-one i) (ap (λ (t : List _). f (get_or xs i d) ∷ t) (run-map f xs d (i + 1) n (omega arith)))

pub meant : {A B : Type 0} (f : A → B) (xs : List A) (d : A) (n most : ℕ) → most ≤ length xs
    → map f (take (min n most) xs) ≡ firsts (λ j. f (get_or xs j d)) n most
unfolding firsts
meant f xs d n most h = sym (run-map f xs d 0 (min n most) (omega arith))

-- an id has just its 32 bytes
pub id_whole : (i : Id) → length i.bytes ≡ 32 → view_id i ≡ i.bytes
unfolding view_id
id_whole i h = window-part i.bytes 0 32 (omega arith) ∙ take_all 32 i.bytes (omega arith)
