-- What this crate's functions promise, where that is not a definition of the paper's.
use Rattle.std.specs.Prelude.{◌≡◌, Bool, false, ◌&&◌, List, ℕ, ◌<◌, ◌≤◌, ltb, Option, Some, None, IsNone, IsSomeAnd}
use Rattle.base.specs.Bytes.{Bytes, same}
use Rattle.rules.specs.Limits.{max_keys}
use Rattle.rules.specs.Records as rules
use Rattle.rules.specs.State.{Row}
use Rattle.rules.specs.Conditions.{signed}
use Rattle.records.specs.declared.Id.{Id}
use Rattle.records.specs.declared.KeyTable.{KeyTable}
use Rattle.records.specs.View.{view_id, key_at, has}

-- some entry with the keyid of the key in place k has verdict 1
unfoldable pub signs_at : KeyTable → List Bytes → Row → ℕ → Bool
signs_at t entries row k = signed (view_id (key_at t k).keyid) entries row

-- the key in place k has that keyid
unfoldable pub has_id : KeyTable → Bytes → ℕ → Bool
has_id t keyid k = same keyid (view_id (key_at t k).keyid)

-- of 16 bits, those are set of the places below n that pass the test
abbrev pub Marks : ℕ → (ℕ → Bool) → ℕ → Type 0
Marks n test bits = (k : ℕ) → k < max_keys → has bits k ≡ ltb k n && test k

-- of 16 bits, each of the places below n is what a call gave for it, and no other is set
pub record Marked (gave : ℕ → Bool → Type 0) (n bits : ℕ) : Type 0 where
  pub asked : (k : ℕ) → k < n → gave k (has bits k)
  pub others : (k : ℕ) → k < max_keys → n ≤ k → has bits k ≡ false

-- a key asked for: its public value, where there is such a key
abbrev pub Asked : Option rules.Key → Option Id → Type 0
Asked None public = IsNone public
Asked (Some key) public = IsSomeAnd public (λ p. view_id p ≡ key.public)
