-- Canonical JSON (01, "Text"): values, the one text of each value, and which values have one.
use Rattle.std.specs.Prelude.{◌≡◌, [], ◌∷◌, ◌++◌, Bool, true, false, cond, not, ◌&&◌, ◌||◌, ℕ, zero, suc, eqb}
use Prim.Native.Char.{code}
use Rattle.base.specs.Bytes.{Bytes, bytes, less, is_digit}
use Rattle.canonical_json.specs.Rfc3629.{Utf8, From32}

-- "Values: object, array, string, whole number, true, false, null"
mutual
  pub data Json : Type 0 where
    jnull jtrue jfalse : Json
    -- a whole number: whether it has a minus, and its digits
    num : Bool → Bytes → Json
    -- a string: its bytes, escapes undone
    str : Bytes → Json
    arr : Items → Json
    obj : Members → Json

  pub data Items : Type 0 where
    inil : Items
    icons : Json → Items → Items

  -- a member is a name, escapes undone, and a value
  pub data Members : Type 0 where
    mnil : Members
    mcons : Bytes → Json → Members → Members

-- ## The text of a value, in front of r: no whitespace anywhere

-- "Only `\"` and `\\` are escapes, and both characters are always escaped"
abbrev pub is_escaped : ℕ → Bool
is_escaped b = eqb b 34 || eqb b 92

unfoldable pub put_bytes : Bytes → Bytes → Bytes
put_bytes [] r = r
put_bytes (b ∷ t) r = cond (is_escaped b) (92 ∷ b ∷ put_bytes t r) (b ∷ put_bytes t r)

abbrev pub put_str : Bytes → Bytes → Bytes
put_str s r = 34 ∷ put_bytes s (34 ∷ r)

abbrev pub put_num : Bool → Bytes → Bytes → Bytes
put_num true ds r = 45 ∷ (ds ++ r)
put_num false ds r = ds ++ r

unfoldable mutual
  pub put : Json → Bytes → Bytes
  put jnull r = bytes "null" ++ r
  put jtrue r = bytes "true" ++ r
  put jfalse r = bytes "false" ++ r
  put (num minus ds) r = put_num minus ds r
  put (str s) r = put_str s r
  put (arr xs) r = code "[" ∷ put_items xs (code "]" ∷ r)
  put (obj ms) r = code "{" ∷ put_members ms (code "}" ∷ r)

  pub put_items : Items → Bytes → Bytes
  put_items inil r = r
  put_items (icons v vs) r = put v (put_more_items vs r)

  pub put_more_items : Items → Bytes → Bytes
  put_more_items inil r = r
  put_more_items (icons v vs) r = code "," ∷ put v (put_more_items vs r)

  pub put_members : Members → Bytes → Bytes
  put_members mnil r = r
  put_members (mcons n v ms) r = put_str n (code ":" ∷ put v (put_more_members ms r))

  pub put_more_members : Members → Bytes → Bytes
  put_more_members mnil r = r
  put_more_members (mcons n v ms) r = code "," ∷ put_str n (code ":" ∷ put v (put_more_members ms r))

-- ## Which values have a text

-- "Strings are well-formed UTF-8 (RFC 3629)"; "raw bytes below 32 are refused"
abbrev pub ValidStr : Bytes → Type 0
ValidStr s = Utf8 s × From32 s

abbrev pub all_digits : Bytes → Bool
all_digits [] = true
all_digits (b ∷ t) = is_digit b && all_digits t

abbrev pub is_nil : Bytes → Bool
is_nil [] = true
is_nil (b ∷ t) = false

-- "Numbers are 0, or an optional minus and digits that do not begin with 0. No .. -0"
abbrev pub valid_num : Bool → Bytes → Bool
valid_num minus [] = false
valid_num minus (b ∷ t) = cond (eqb b 48) (not minus && is_nil t) (is_digit b && all_digits t)

unfoldable mutual
  -- "Objects and arrays may hold one another, to depth 8; the outermost counts 1": d is the depth that is left
  pub Valid : Json → ℕ → Type 0
  Valid jnull d = Unit {0}
  Valid jtrue d = Unit {0}
  Valid jfalse d = Unit {0}
  Valid (num minus ds) d = valid_num minus ds ≡ true
  Valid (str s) d = ValidStr s
  Valid (arr xs) zero = ⊥
  Valid (arr xs) (suc d) = ValidItems xs d
  Valid (obj ms) zero = ⊥
  Valid (obj ms) (suc d) = ValidMembers ms d

  pub ValidItems : Items → ℕ → Type 0
  ValidItems inil d = Unit {0}
  ValidItems (icons v vs) d = Valid v d × ValidItems vs d

  pub ValidMembers : Members → ℕ → Type 0
  ValidMembers mnil d = Unit {0}
  ValidMembers (mcons n v ms) d = ValidStr n × Valid v d × ValidMore n ms d

  -- "Member names rise strictly, compared byte by byte after the escapes are undone": members after one named p
  pub ValidMore : Bytes → Members → ℕ → Type 0
  ValidMore p mnil d = Unit {0}
  ValidMore p (mcons n v ms) d = (less p n ≡ true) × ValidStr n × Valid v d × ValidMore n ms d

-- "Depth 9 is refused"
abbrev pub max_depth : ℕ
max_depth = 8

-- the text is that of a valid value at most d deep: nothing before it, nothing after it
abbrev pub Canonical : ℕ → Bytes → Type 0
Canonical d text = (v : Json) × Valid v d × (text ≡ put v [])
