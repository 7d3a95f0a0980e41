-- What is said of a listed file, step by step.
use mathlib.Core.Path.{◌≡◌, refl}
use Rattle.std.specs.declared.option.Option.{Option}
use Rattle.std.specs.declared.option.Option.TheVariants.{None, Some}
use Rattle.std.specs.Option.{option_map, is_some, unwrap_or}
use Rattle.canonical_json.specs.Options.{bind}
use mathlib.Core.Bool.{Bool, true, false}
use Prim.Native.Nat.{ℕ}
use Rattle.base.specs.Bytes.{Bytes, bytes}
use Rattle.canonical_json.specs.Json.{Json}
use Rattle.canonical_json.specs.Fields.{keep, number}
use Rattle.rules.specs.Limits.{max_length}
use Rattle.rules.specs.Take.{◌>>=◌, may}
use Rattle.rules.specs.Forms.{version, sha256, listed}

-- a record around what is kept
pub keep_in : {A B : Type 0} (b : Bool) (a : A) (g : A → B) → keep b (g a) ≡ (keep b a >>= λ x. Some (g x))
unfolding keep bind
keep_in true a g = refl
keep_in false a g = refl

-- what is there is kept
pub kept : {A B : Type 0} (view : A → B) (d : A) (o : Option A) → keep (is_some o) (view (unwrap_or o d)) ≡ option_map view o
unfolding keep
kept view d None = refl
kept view d (Some x) = refl

pub kept_self : {A : Type 0} (d : A) (o : Option A) → keep (is_some o) (unwrap_or o d) ≡ o
unfolding keep
kept_self d None = refl
kept_self d (Some x) = refl

module _ (v : Json) where
  pub no-version : None ≡ version v → None ≡ listed v
  unfolding listed bind
  no-version e = rw (← e)

  module _ (n : ℕ) (e : Some n ≡ version v) where
    pub no_length : None ≡ may (bytes "length") (number 0 max_length) v → None ≡ listed v
    unfolding listed bind
    no_length f = rw (← e, ← f)

    module _ (l : Option ℕ) (f : Some l ≡ may (bytes "length") (number 0 max_length) v) where
      pub no-digest : None ≡ may (bytes "hashes") sha256 v → None ≡ listed v
      unfolding listed bind
      no-digest g = rw (← e, ← f, ← g)

      pub listed-is : (d : Option Bytes) → Some d ≡ may (bytes "hashes") sha256 v → Some (record { version = n; length = l; digest = d }) ≡ listed v
      unfolding listed bind
      listed-is d g = rw (← e, ← f, ← g)
