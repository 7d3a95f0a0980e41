-- The clauses of `put`, one by one: a `mutual` function is kept shut, and rewritten by these.
use mathlib.Core.Path.{◌≡◌, refl}
use mathlib.Core.List.{◌∷◌, ◌++◌}
use mathlib.Core.Bool.{Bool}
use Rattle.base.specs.Bytes.{Bytes, bytes}
use Rattle.canonical_json.specs.Json.{Json, jnull, jtrue, jfalse, num, str, arr, obj, Items, inil, icons, Members, mnil, mcons, put, put_items, put_more_items, put_members, put_more_members, put_str, put_num}

pub put_null : (r : Bytes) → put jnull r ≡ 110 ∷ (bytes "ull" ++ r)
unfolding put
put_null r = refl

pub put-true : (r : Bytes) → put jtrue r ≡ 116 ∷ (bytes "rue" ++ r)
unfolding put
put-true r = refl

pub put-false : (r : Bytes) → put jfalse r ≡ 102 ∷ (bytes "alse" ++ r)
unfolding put
put-false r = refl

pub put-num : (s : Bool) (ds r : Bytes) → put (num s ds) r ≡ put_num s ds r
unfolding put
put-num s ds r = refl

pub put-str : (s r : Bytes) → put (str s) r ≡ put_str s r
unfolding put
put-str s r = refl

pub put-arr : (xs : Items) (r : Bytes) → put (arr xs) r ≡ 91 ∷ put_items xs (93 ∷ r)
unfolding put
put-arr xs r = refl

pub put-obj : (ms : Members) (r : Bytes) → put (obj ms) r ≡ 123 ∷ put_members ms (125 ∷ r)
unfolding put
put-obj ms r = refl

pub items-nil : (r : Bytes) → put_items inil r ≡ r
unfolding put
items-nil r = refl

pub items-cons : (v : Json) (vs : Items) (r : Bytes) → put_items (icons v vs) r ≡ put v (put_more_items vs r)
unfolding put
items-cons v vs r = refl

pub more-items-nil : (r : Bytes) → put_more_items inil r ≡ r
unfolding put
more-items-nil r = refl

pub more-items-cons : (v : Json) (vs : Items) (r : Bytes) → put_more_items (icons v vs) r ≡ 44 ∷ put v (put_more_items vs r)
unfolding put
more-items-cons v vs r = refl

pub members-nil : (r : Bytes) → put_members mnil r ≡ r
unfolding put
members-nil r = refl

pub members-cons : (n : Bytes) (v : Json) (ms : Members) (r : Bytes) → put_members (mcons n v ms) r ≡ put_str n (58 ∷ put v (put_more_members ms r))
unfolding put
members-cons n v ms r = refl

pub more-members-nil : (r : Bytes) → put_more_members mnil r ≡ r
unfolding put
more-members-nil r = refl

pub more-members-cons : (n : Bytes) (v : Json) (ms : Members) (r : Bytes) → put_more_members (mcons n v ms) r ≡ 44 ∷ put_str n (58 ∷ put v (put_more_members ms r))
unfolding put
more-members-cons n v ms r = refl
