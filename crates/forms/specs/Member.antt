-- What a function promises that is given the place where a member was found, or that there is none: it reads that member, of whatever object
-- and under whatever name.
use Rattle.std.specs.declared.option.Option.{Option}
use Rattle.std.specs.Prelude.{ℕ}
use Rattle.base.specs.Bytes.{Bytes}
use Rattle.canonical_json.specs.Json.{Json}
use Rattle.canonical_json.specs.Fields.{field}
use Rattle.std.specs.Option.{option_map}
use Rattle.lookup.specs.Place.{Finds, Takes, FoundEnd, end_of}
use Rattle.lookup.specs.declared.Spanned.{Spanned}
use Rattle.rules.specs.Take.{must, may}

-- a member that must be there
abbrev pub TakesMust : {A : Type 0} → Bytes → Option ℕ → (Json → Option A) → Option A → Type 0
TakesMust s found form o = (p : ℕ) (k : Bytes) → Finds s p (field k) found → Takes s p (must k form) o

-- a member that may be missing
abbrev pub TakesMay : {A : Type 0} → Bytes → Option ℕ → (Json → Option A) → Option (Option A) → Type 0
TakesMay s found form o = (p : ℕ) (k : Bytes) → Finds s p (field k) found → Takes s p (may k form) o

-- What a reader promises of such a member that takes something out of it and may tell where it ends.
pub record ReadsMust {T A : Type 0} (view : T → A) (s : Bytes) (found : Option ℕ) (form : Json → Option A) (r : Option (Spanned T)) : Type 0 where
  pub means : TakesMust s found form (option_map (λ (x : Spanned T). view x.value) r)
  pub end : FoundEnd s found (end_of r)
