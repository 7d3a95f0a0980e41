-- The canonical text of a value, and what follows it.
use mathlib.Core.Path.{◌≡◌, refl, sym, ap}
use mathlib.Core.List.{[], ◌∷◌, ◌++◌, append_assoc}
use mathlib.Core.Bool.{Bool, true, false, cond}
use Rattle.base.specs.Bytes.{Bytes}
use Rattle.canonical_json.specs.Json.{Json, jnull, jtrue, jfalse, num, str, arr, obj, Items, inil, icons, Members, mnil, mcons, put, put_items, put_more_items, put_members, put_more_members, put_str, put_bytes, put_num, is_escaped}
use Rattle.canonical_json.proofs.Puts.{put_null, put-true, put-false, put-num, put-str, put-arr, put-obj, items-nil, items-cons, more-items-nil, more-items-cons, members-nil, members-cons, more-members-nil, more-members-cons}

bytes-append : (bs r q : Bytes) → put_bytes bs (r ++ q) ≡ put_bytes bs r ++ q
unfolding put_bytes
bytes-append [] r q = refl
bytes-append (b ∷ bs) r q = go (is_escaped b) (bytes-append bs r q)
  where
    go : (x : Bool) → put_bytes bs (r ++ q) ≡ put_bytes bs r ++ q
        → cond x (92 ∷ b ∷ put_bytes bs (r ++ q)) (b ∷ put_bytes bs (r ++ q)) ≡ cond x (92 ∷ b ∷ put_bytes bs r) (b ∷ put_bytes bs r) ++ q
    go true e = ap (λ (x : Bytes). 92 ∷ b ∷ x) e
    go false e = ap (λ (x : Bytes). b ∷ x) e

num-append : (s : Bool) (ds r q : Bytes) → put_num s ds (r ++ q) ≡ put_num s ds r ++ q
num-append true ds r q = ap (λ (x : Bytes). 45 ∷ x) (sym (append_assoc ds r q))
num-append false ds r q = sym (append_assoc ds r q)

str-append : (s r q : Bytes) → put_str s (r ++ q) ≡ put_str s r ++ q
str-append s r q = ap (λ (x : Bytes). 34 ∷ x) (bytes-append s (34 ∷ r) q)

mutual
  pub put-append : (v : Json) (r q : Bytes) → put v (r ++ q) ≡ put v r ++ q
  put-append jnull r q = rw (put_null, put_null)
  put-append jtrue r q = rw (put-true, put-true)
  put-append jfalse r q = rw (put-false, put-false)
  put-append (num s ds) r q = rw (put-num, put-num) (num-append s ds r q)
  put-append (str s) r q = rw (put-str, put-str) (str-append s r q)
  put-append (arr xs) r q = rw (put-arr, put-arr) (ap (λ (x : Bytes). 91 ∷ x) (items-append xs (93 ∷ r) q))
  put-append (obj ms) r q = rw (put-obj, put-obj) (ap (λ (x : Bytes). 123 ∷ x) (members-append ms (125 ∷ r) q))

  items-append : (xs : Items) (r q : Bytes) → put_items xs (r ++ q) ≡ put_items xs r ++ q
  items-append inil r q = rw (items-nil, items-nil)
  items-append (icons v vs) r q = rw (items-cons, items-cons, more-items-append vs r q) (put-append v (put_more_items vs r) q)

  more-items-append : (xs : Items) (r q : Bytes) → put_more_items xs (r ++ q) ≡ put_more_items xs r ++ q
  more-items-append inil r q = rw (more-items-nil, more-items-nil)
  more-items-append (icons v vs) r q = rw (more-items-cons, more-items-cons, more-items-append vs r q) (ap (λ (x : Bytes). 44 ∷ x) (put-append v (put_more_items vs r) q))

  members-append : (ms : Members) (r q : Bytes) → put_members ms (r ++ q) ≡ put_members ms r ++ q
  members-append mnil r q = rw (members-nil, members-nil)
  members-append (mcons n v ms) r q =
      rw (members-cons, members-cons, more-members-append ms r q, put-append v (put_more_members ms r) q) (str-append n (58 ∷ put v (put_more_members ms r)) q)

  more-members-append : (ms : Members) (r q : Bytes) → put_more_members ms (r ++ q) ≡ put_more_members ms r ++ q
  more-members-append mnil r q = rw (more-members-nil, more-members-nil)
  more-members-append (mcons n v ms) r q =
      rw (more-members-cons, more-members-cons, more-members-append ms r q, put-append v (put_more_members ms r) q) (ap (λ (x : Bytes). 44 ∷ x) (str-append n (58 ∷ put v (put_more_members ms r)) q))

-- the text of a value, then r
pub put-split : (v : Json) (r : Bytes) → put v r ≡ put v [] ++ r
put-split v r = put-append v [] r
