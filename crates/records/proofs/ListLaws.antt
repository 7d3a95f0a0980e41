-- What the library says of a search in a list and of `==`, in the paper's recursions.
use Rattle.std.proofs.Common.{◌≡◌, refl, Bool, true, false, ◌||◌, ◌&&◌, List, [], ◌∷◌, map, IsTrue, ◌↔◌, Any, ap, ◌∙◌, eqb, length}
use Rattle.std.specs.Cmp.Lexicographic.{pointwise}
use Rattle.std.specs.List.{list_any}
use Rattle.base.specs.Bytes.{Bytes, same}
use Rattle.base.proofs.WindowLaws.{window-part}
use Rattle.rules.specs.Conditions.{any}

pub any-list : {A : Type 0} (p : A → Bool) (xs : List A) → list_any p xs ≡ any p xs
any-list p [] = refl
any-list p (x ∷ xs) = ap (λ b. p x || b) (any-list p xs)

pub any-map : {A B : Type 0} (p : B → Bool) (f : A → B) (xs : List A) → any p (map f xs) ≡ any (λ x. p (f x)) xs
any-map p f [] = refl
any-map p f (x ∷ xs) = ap (λ b. p (f x) || b) (any-map p f xs)

-- `==` on bytes
pub equal-same : (a b : Bytes) → pointwise eqb a b ≡ same a b
unfolding same
equal-same [] [] = refl
equal-same [] (y ∷ b) = refl
equal-same (x ∷ a) [] = refl
equal-same (x ∷ a) (y ∷ b) = ap (λ t. eqb x y && t) (equal-same a b)
