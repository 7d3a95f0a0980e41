-- A value at a place of a text, and what a place that is handed back says.
use Rattle.std.specs.Prelude.{◌≡◌, Bool, cond, ℕ, ◌+◌, ◌-◌, ◌<◌, ◌≤◌, length, drop}
use Rattle.std.specs.declared.option.Option.{Option}
use Rattle.std.specs.declared.option.Option.TheVariants.{None, Some}
use Rattle.canonical_json.specs.Options.{bind}
use Rattle.base.specs.Bytes.{Bytes}
use Rattle.canonical_json.specs.Json.{Json, put, Valid, max_depth}
use Rattle.canonical_json.specs.Read.{NoDigit}
use Rattle.canonical_json.specs.Fields.{members, field, place_from}
use Rattle.std.specs.Option.{option_map}
use Rattle.lookup.specs.declared.Spanned.{Spanned}
use Rattle.lookup.specs.declared.Members.{Members}

-- the text of v stands at place p of s, and what follows does not prolong it
pub record Stands (s : Bytes) (p : ℕ) (v : Json) : Type 0 where
  pub rest : Bytes
  pub text : drop p s ≡ put v rest
  pub free : NoDigit rest
  pub valid : Valid v max_depth

-- r is the place of the value o, or says that there is none
abbrev pub PlaceOf : Bytes → Option ℕ → Option Json → Type 0
PlaceOf s None o = o ≡ None
PlaceOf s (Some x) o = (w : Json) × (o ≡ Some w) × Stands s x w

-- What a function promises that looks for something in the value at p. Where no value stands there the answer is the program's choice.
abbrev pub Finds : Bytes → ℕ → (Json → Option Json) → Option ℕ → Type 0
Finds s p f r = (v : Json) → Stands s p v → PlaceOf s r (f v)

-- What the search for a member promises: the member's value stands at the place, and it is that member's own place. (An equal value may stand elsewhere too.)
pub record FindsMember (s : Bytes) (p : ℕ) (k : Bytes) (r : Option ℕ) : Type 0 where
  pub means : Finds s p (field k) r
  pub place : (v : Json) → Stands s p v → r ≡ bind (members v) (place_from (p + 1) k)

-- the same of one that takes something out of it
abbrev pub Takes : {A : Type 0} → Bytes → ℕ → (Json → Option A) → Option A → Type 0
Takes s p f o = (v : Json) → Stands s p v → o ≡ f v

-- the same of a test of it
abbrev pub Tests : Bytes → ℕ → (Json → Bool) → Bool → Type 0
Tests s p f b = (v : Json) → Stands s p v → b ≡ f v

-- a place that is handed back lies after p and in the text
abbrev pub PlaceAfter : Bytes → ℕ → Option ℕ → Type 0
PlaceAfter s p None = Unit {0}
PlaceAfter s p (Some x) = (p < x) × (x ≤ length s)

-- r is where the value at p ends: just before what follows it
pub record EndsAt (s : Bytes) (p : ℕ) (r : Option ℕ) : Type 0 where
  pub means : (v : Json) (here : Stands s p v) → r ≡ Some (length s - length here.rest)
  -- of every text, so that loops end
  pub onward : PlaceAfter s p r

-- an end that is known of the value at p, if any, is where it ends
abbrev pub KnownEnd : Bytes → ℕ → Option ℕ → Type 0
KnownEnd s p None = Unit {0}
KnownEnd s p (Some e) = EndsAt s p (Some e)

-- the same of a value that was found
abbrev pub FoundEnd : Bytes → Option ℕ → Option ℕ → Type 0
FoundEnd s None end = Unit {0}
FoundEnd s (Some x) end = KnownEnd s x end

-- the end that came with what was read
abbrev pub end_of : {T : Type 0} → Option (Spanned T) → Option ℕ
end_of None = None
end_of (Some r) = r.end

-- What a reader promises that takes something out of the value at p and may tell where that ends: what it took, by what that stands for, and the end.
pub record Reads {T A : Type 0} (view : T → A) (s : Bytes) (p : ℕ) (form : Json → Option A) (r : Option (Spanned T)) : Type 0 where
  pub means : Takes s p form (option_map (λ (x : Spanned T). view x.value) r)
  pub end : KnownEnd s p (end_of r)

-- r is where the value at p ends, by what is known of it or looked for
pub record EndsBy (s : Bytes) (p : ℕ) (known r : Option ℕ) : Type 0 where
  pub means : KnownEnd s p known → EndsAt s p r
  pub onward : PlaceAfter s p r

-- of several members of one name the first is meant: a member whose value stands at x, after what was found before it
unfoldable pub note : Bool → ℕ → Option ℕ → Option ℕ
note named x None = cond named (Some x) None
note named x (Some y) = Some y

-- What the search for four members promises: each, and where the object ends, if it is one.
pub record FindsMembers (s : Bytes) (p : ℕ) (a b c d : Bytes) (r : Members) : Type 0 where
  pub first : FindsMember s p a r.first
  pub second : FindsMember s p b r.second
  pub third : FindsMember s p c r.third
  pub fourth : FindsMember s p d r.fourth
  pub end : KnownEnd s p r.end
