-- Elements of an array and members of an object in order, with their places.
use Rattle.std.specs.Prelude.{◌≡◌, [], ◌∷◌, cond, ℕ, ◌+◌, ◌-◌, ◌<◌, ◌≤◌, eqb, length, drop}
use Rattle.std.specs.declared.option.Option.{Option}
use Rattle.std.specs.declared.option.Option.TheVariants.{None, Some}
use Prim.Native.Char.{code}
use Rattle.base.specs.Bytes.{Bytes}
use Rattle.canonical_json.specs.Json.{Json, Items, inil, icons, Members, mnil, mcons, put, put_bytes, put_str, put_more_items, put_more_members, ValidItems, ValidMembers, max_depth}
use Rattle.canonical_json.specs.Fields.{items, members}
use Rattle.lookup.specs.Place.{Stands, KnownEnd}
use Rattle.lookup.specs.declared.Element.{Element}
use Rattle.lookup.specs.declared.Element.TheVariants as element
use Rattle.lookup.specs.declared.Member.{Member}
use Rattle.lookup.specs.declared.Member.TheVariants as member

-- ## Brackets: arrays and objects alike

-- past the last element: the closing byte, with `past` just after it, or another at place i
unfoldable pub closes : ℕ → ℕ → ℕ → Bytes → Element
closes close past i [] = element.NoArray
closes close past i (b ∷ t) = cond (eqb b close) (element.End past) (element.At i)

-- an opening byte in front of the text, at place p, and what follows it
unfoldable pub opens : ℕ → ℕ → ℕ → Bytes → Element
opens start close p [] = element.NoArray
opens start close p (b ∷ t) = cond (eqb b start) (closes close (p + 1 + 1) (p + 1) t) element.NoArray

-- a place that is handed back lies after p and in the text
abbrev pub ElementAfter : Bytes → ℕ → Element → Type 0
ElementAfter s p element.NoArray = Unit {0}
ElementAfter s p (element.End e) = (p < e) × (e ≤ length s)
ElementAfter s p (element.At i) = (p < i) × (i ≤ length s)

-- what an opening byte at p leads to
pub record Opens (s : Bytes) (p start close : ℕ) (r : Element) : Type 0 where
  pub is : r ≡ opens start close p (drop p s)
  pub onward : ElementAfter s p r

-- what follows the value at i, whose end may be known: the closing byte, or one byte more and then the next element
pub record Follows (s : Bytes) (i close : ℕ) (end : Option ℕ) (r : Element) : Type 0 where
  pub means : KnownEnd s i end → (v : Json) (here : Stands s i v)
      → r ≡ closes close (length s - length here.rest + 1) (length s - length here.rest + 1) here.rest
  pub onward : ElementAfter s i r

-- ## Elements

-- the elements that are left of an array before `rest`: none, or the first of them stands at i and the array ends after the last
pub data ItemsLeft (s rest : Bytes) : Element → Items → Type 0 where
  items-end : {e : ℕ} → drop e s ≡ rest → ItemsLeft s rest (element.End e) inil
  items_at : {i : ℕ} {v : Json} {vs : Items} → drop i s ≡ put v (put_more_items vs (code "]" ∷ rest))
      → ValidItems (icons v vs) max_depth → ItemsLeft s rest (element.At i) (icons v vs)

-- r is where the elements o begin, or says that there is no array
abbrev pub ItemsOf : Bytes → Bytes → Element → Option Items → Type 0
ItemsOf s rest r None = r ≡ element.NoArray
ItemsOf s rest r (Some xs) = ItemsLeft s rest r xs

-- What the functions promise that walk: `means` where a value stands, and elsewhere the answer is the program's choice; `onward` of every text, so that loops end.
-- `place`: the first element begins past the opening bracket, a later one past the value before it and a comma. (Equal elements may stand elsewhere too.)
pub record FirstElement (s : Bytes) (p : ℕ) (r : Element) : Type 0 where
  pub means : (v : Json) (here : Stands s p v) → ItemsOf s here.rest r (items v)
  pub onward : ElementAfter s p r
  pub place : (i : ℕ) → r ≡ element.At i → i ≡ p + 1

pub record NextElement (s : Bytes) (i : ℕ) (r : Element) : Type 0 where
  pub means : {rest : Bytes} (v : Json) (vs : Items) → ItemsLeft s rest (element.At i) (icons v vs) → ItemsLeft s rest r vs
  pub onward : ElementAfter s i r
  pub place : (v : Json) (here : Stands s i v) (j : ℕ) → r ≡ element.At j → j ≡ length s - length here.rest + 1

-- the same where the end of the element at i may be known; a place lies onward of every text
pub record NextElementBy (s : Bytes) (i : ℕ) (end : Option ℕ) (r : Element) : Type 0 where
  pub means : KnownEnd s i end → NextElement s i r
  pub onward : ElementAfter s i r

-- ## Members

-- the members that are left of an object before `rest`: none, or the name of the first stands at i, just past its opening quote, and its value at j
pub data MembersLeft (s rest : Bytes) : Member → Members → Type 0 where
  members-end : {e : ℕ} → drop e s ≡ rest → MembersLeft s rest (member.End e) mnil
  members-at : {i j : ℕ} {n : Bytes} {v : Json} {ms : Members}
      → drop i s ≡ put_bytes n (code "\"" ∷ code ":" ∷ drop j s) → drop j s ≡ put v (put_more_members ms (code "}" ∷ rest))
      → ValidMembers (mcons n v ms) max_depth → MembersLeft s rest (member.At i j) (mcons n v ms)

-- r is where the members o begin, or says that there is no object
abbrev pub MembersOf : Bytes → Bytes → Member → Option Members → Type 0
MembersOf s rest r None = r ≡ member.NoObject
MembersOf s rest r (Some ms) = MembersLeft s rest r ms

-- a member that is handed back lies after p and in the text
abbrev pub MemberAfter : Bytes → ℕ → Member → Type 0
MemberAfter s p member.NoObject = Unit {0}
MemberAfter s p (member.End e) = (p < e) × (e ≤ length s)
MemberAfter s p (member.At i j) = (p < i) × (i < j) × (j ≤ length s)

-- the name of a member that is handed back begins at place i
abbrev pub NameAt : Member → ℕ → Type 0
NameAt member.NoObject i = Unit {0}
NameAt (member.End e) i = Unit {0}
NameAt (member.At n j) i = n ≡ i

-- the member whose name's opening quote stands at i
pub record MemberAt (s : Bytes) (i : ℕ) (r : Member) : Type 0 where
  pub means : (n : Bytes) (v : Json) (ms : Members) (rest : Bytes) → drop i s ≡ put_str n (code ":" ∷ put v (put_more_members ms (code "}" ∷ rest)))
      → ValidMembers (mcons n v ms) max_depth → MembersLeft s rest r (mcons n v ms)
  pub onward : MemberAfter s i r
  pub place : NameAt r (i + 1)

-- the member that an opening brace or a comma leads to: the place behind it is that of a name's opening quote
abbrev pub MemberBy : Bytes → Element → Member → Type 0
MemberBy s element.NoArray r = r ≡ member.NoObject
MemberBy s (element.End e) r = r ≡ member.End e
MemberBy s (element.At i) r = MemberAt s i r

-- `place`: the first name begins past the opening brace and a quote, a later one past the value before it, a comma and a quote
pub record FirstMember (s : Bytes) (p : ℕ) (r : Member) : Type 0 where
  pub means : (v : Json) (here : Stands s p v) → MembersOf s here.rest r (members v)
  pub onward : MemberAfter s p r
  pub place : NameAt r (p + 1 + 1)

-- the member after the one whose value stands at j
pub record NextMember (s : Bytes) (j : ℕ) (r : Member) : Type 0 where
  pub means : {rest : Bytes} (i : ℕ) (n : Bytes) (v : Json) (ms : Members) → MembersLeft s rest (member.At i j) (mcons n v ms) → MembersLeft s rest r ms
  pub onward : MemberAfter s j r
  pub place : (v : Json) (here : Stands s j v) → NameAt r (length s - length here.rest + 1 + 1)

-- the same where the end of the value at j may be known
pub record NextMemberBy (s : Bytes) (j : ℕ) (end : Option ℕ) (r : Member) : Type 0 where
  pub means : KnownEnd s j end → NextMember s j r
  pub onward : MemberAfter s j r
