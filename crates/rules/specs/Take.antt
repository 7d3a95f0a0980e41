-- Taking a JSON value apart: each step gives what it looks for, or nothing.
use Rattle.std.specs.Prelude.{List, [], ◌∷◌, ◌&&◌, ℕ, leb, length, ℤ}
use Rattle.std.specs.declared.option.Option.{Option}
use Rattle.std.specs.declared.option.Option.TheVariants.{None, Some}
use Rattle.canonical_json.specs.Options.{bind}
use Rattle.base.specs.Bytes.{Bytes, same}
use Rattle.base.specs.Hex.{is_hex, undo}
use Rattle.canonical_json.specs.Json.{Json, Items, inil, icons, Members, mnil, mcons}
use Rattle.canonical_json.specs.Fields.{members, text, field, keep}
use Rattle.date.specs.Calendar.{date_of}

infixr 20 ◌>>=◌
-- first the one, then the other with what it gave
abbrev pub ◌>>=◌ : {A B : Type 0} → Option A → (A → Option B) → Option B
o >>= f = bind o f

-- ## Members

-- a member that must be there, and what is read in it
unfoldable pub must : {A : Type 0} → Bytes → (Json → Option A) → Json → Option A
must k f v = field k v >>= f

-- what is read in a member, where there is that member
unfoldable pub inside : {A : Type 0} → (Json → Option A) → Option Json → Option (Option A)
inside f None = Some None
inside f (Some w) = f w >>= λ a. Some (Some a)

-- a member that may be missing; where it is there it has its form
unfoldable pub may : {A : Type 0} → Bytes → (Json → Option A) → Json → Option (Option A)
may k f v = inside f (field k v)

-- the value of an object's one member, which has that name
unfoldable pub single : Bytes → Members → Option Json
single k mnil = None
single k (mcons n v mnil) = keep (same n k) v
single k (mcons n v (mcons m w ms)) = None

-- what is read in that one member
unfoldable pub sole : {A : Type 0} → Bytes → (Json → Option A) → Json → Option A
sole k f v = members v >>= λ ms. single k ms >>= f

-- ## Lists

-- each element of an array
unfoldable pub each : {A : Type 0} → (Json → Option A) → Items → Option (List A)
each f inil = Some []
each f (icons v vs) = f v >>= λ a. each f vs >>= λ more. Some (a ∷ more)

-- each member of an object
unfoldable pub each_named : {A : Type 0} → (Bytes → Json → Option A) → Members → Option (List A)
each_named f mnil = Some []
each_named f (mcons n v ms) = f n v >>= λ a. each_named f ms >>= λ more. Some (a ∷ more)

-- ## Strings

-- the string k
unfoldable pub word : Bytes → Json → Option (Unit {0})
word k v = text v >>= λ b. keep (same b k) tt

-- n bytes in lower-case hex
unfoldable pub unhex : ℕ → Bytes → Option Bytes
unhex n b = keep (is_hex n b) (undo b)

unfoldable pub hex : ℕ → Json → Option Bytes
hex n v = text v >>= unhex n

unfoldable pub date : Json → Option ℤ
date v = text v >>= date_of

-- a name of 1 to n bytes
unfoldable pub name_of : ℕ → Bytes → Option Bytes
name_of n b = keep (leb 1 (length b) && leb (length b) n) b
