-- What is inside a value: elements, members by name, a string's bytes, a whole number.
use Rattle.std.specs.Prelude.{[], ◌∷◌, Bool, true, false, cond, ◌&&◌, ℕ, suc, ◌+◌, ◌-◌, ◌*◌, leb, length}
use Rattle.std.specs.declared.option.Option.{Option}
use Rattle.std.specs.declared.option.Option.TheVariants.{None, Some}
use Rattle.canonical_json.specs.Options.{bind}
use Rattle.base.specs.Bytes.{Bytes, same}
use Rattle.canonical_json.specs.Json.{Json, jnull, jtrue, jfalse, num, str, arr, obj, Items, inil, icons, Members, mnil, mcons, put, put_str}

-- ## What a value is

-- the elements of an array
unfoldable pub items : Json → Option Items
items jnull = None
items jtrue = None
items jfalse = None
items (num minus ds) = None
items (str s) = None
items (arr xs) = Some xs
items (obj ms) = None

-- the members of an object
unfoldable pub members : Json → Option Members
members jnull = None
members jtrue = None
members jfalse = None
members (num minus ds) = None
members (str s) = None
members (arr xs) = None
members (obj ms) = Some ms

-- the bytes of a string, escapes undone
unfoldable pub text : Json → Option Bytes
text jnull = None
text jtrue = None
text jfalse = None
text (num minus ds) = None
text (str s) = Some s
text (arr xs) = None
text (obj ms) = None

-- true or false
unfoldable pub truth : Json → Option Bool
truth jnull = None
truth jtrue = Some true
truth jfalse = Some false
truth (num minus ds) = None
truth (str s) = None
truth (arr xs) = None
truth (obj ms) = None

-- the number that digits write, n before them
unfoldable pub decimal : ℕ → Bytes → ℕ
decimal n [] = n
decimal n (b ∷ ds) = decimal (n * 10 + (b - 48)) ds

-- a whole number that is not below zero
unfoldable pub natural : Json → Option ℕ
natural jnull = None
natural jtrue = None
natural jfalse = None
natural (num true ds) = None
natural (num false ds) = Some (decimal 0 ds)
natural (str s) = None
natural (arr xs) = None
natural (obj ms) = None

-- ## Elements and members

unfoldable pub size : Items → ℕ
size inil = 0
size (icons v vs) = suc (size vs)

unfoldable pub count : Members → ℕ
count mnil = 0
count (mcons n v ms) = suc (count ms)

-- the value of the member of that name
unfoldable pub lookup : Bytes → Members → Option Json
lookup k mnil = None
lookup k (mcons n v ms) = cond (same n k) (Some v) (lookup k ms)

-- the same of a value: none where it is no object
unfoldable pub field : Bytes → Json → Option Json
field k v = bind (members v) (lookup k)

-- ## Places in the text of an object

-- where the value of the member named k begins, in an object's text whose next member begins at place p
unfoldable pub place_from : ℕ → Bytes → Members → Option ℕ
place_from p k mnil = None
place_from p k (mcons n v ms) =
    cond (same n k) (Some (p + length (put_str n []) + 1)) (place_from (p + length (put_str n []) + 1 + length (put v []) + 1) k ms)

-- the first member begins after the brace
unfoldable pub place_of : Bytes → Members → Option ℕ
place_of k ms = place_from 1 k ms

-- ## Numbers within limits

-- a, where the test holds
unfoldable pub keep : {A : Type 0} → Bool → A → Option A
keep true a = Some a
keep false a = None

unfoldable pub between : ℕ → ℕ → ℕ → Option ℕ
between lo hi n = keep (leb lo n && leb n hi) n

-- a whole number from lo to hi
unfoldable pub number : ℕ → ℕ → Json → Option ℕ
number lo hi v = bind (natural v) (between lo hi)
