-- The cases of 01 that are marked (P) ("Dates, texts and files to try"): one table, and one statement that the definitions give each its
-- answer.
use mathlib.Core.Path.{◌≡◌, refl}
use mathlib.Core.List.{List, [], ◌∷◌, map}
use Rattle.std.specs.declared.option.Option.{Option}
use Rattle.std.specs.declared.option.Option.TheVariants.{None, Some}
use Prim.Native.Nat.{ℕ}
use Prim.Native.String.{String}
use lib.IntN.{ℤ, pos, neg_ℤ}
use Rattle.base.specs.Bytes.{Bytes, bytes}
use Rattle.date.specs.Calendar.{date_of}
use Rattle.canonical_json.specs.Json.{Json}
use Rattle.rules.specs.Records.{Role}
use Rattle.rules.specs.Reading.{parsed}
use Rattle.rules.specs.Conditions.{count}
use Rattle.rules.proofs.Computing.{dates, tables, texts}

-- ## Tables of cases: what the definitions give, and what 01 says

infix 80 ◌gives◌
pub data Case (A : Type 0) : Type 0 where
  ◌gives◌ : A → A → Case A

abbrev pub computed : {A : Type 0} → Case A → A
computed (a gives b) = a

abbrev pub expected : {A : Type 0} → Case A → A
expected (a gives b) = b

abbrev pub Right : {A : Type 0} → List (Case A) → Type 0
Right cases = map computed cases ≡ map expected cases

-- ## (P)

pub data Value : Type 0 where
  a_date : Option ℤ → Value
  canonical not_canonical : Value
  a_count : ℕ → Value

abbrev pub date : String → Value
date t = a_date (date_of (bytes t))

-- By the law `canonical_exactly` a text has a value exactly where it is canonical.
abbrev pub is_text : Option Json → Value
is_text None = not_canonical
is_text (Some v) = canonical

abbrev pub text : String → Value
text t = is_text (parsed (bytes t))

abbrev pub a : Bytes
a = 1 ∷ []

abbrev pub b : Bytes
b = 2 ∷ []

abbrev pub both : Role
both = record { keyids = a ∷ b ∷ []; threshold = 1 }

abbrev pub table : List (Case Value)
table =
    date "1985-10-21T01:21:00Z" gives a_date (Some (pos 498705660))
    ∷ date "2030-01-01T00:00:00Z" gives a_date (Some (pos 1893456000))
    ∷ date "1969-12-31T23:59:59Z" gives a_date (Some (neg_ℤ (pos 1)))
    ∷ date "2000-02-29T00:00:00Z" gives a_date (Some (pos 951782400))
    ∷ date "1900-03-01T00:00:00Z" gives a_date (Some (neg_ℤ (pos 2203891200)))
    ∷ date "1900-02-29T00:00:00Z" gives a_date None
    ∷ text "{\"a\":1,\"a!\":2}" gives canonical
    ∷ text "{\"a\":1,\"a\":2}" gives not_canonical
    ∷ text "[-0]" gives not_canonical
    ∷ text "[01]" gives not_canonical
    ∷ text "[1,]" gives not_canonical
    -- "Two valid entries of one key count 1"
    ∷ a_count (count both (a ∷ a ∷ []) (1 ∷ 1 ∷ [])) gives a_count 1
    ∷ []

pub right : Right table
unfolding dates texts tables
right = refl
