-- What is told of a state: the version of each record that is held, and the start time.
use Rattle.std.specs.Prelude.{◌≡◌, false, ℕ}
use Rattle.std.specs.declared.option.Option.{Option}
use Rattle.std.specs.declared.option.Option.TheVariants.{None, Some}
use Rattle.canonical_json.specs.Fields.{keep}
use Rattle.rules.specs.State as rules
use Rattle.state.specs.declared.Version.{Version}
use Rattle.state.specs.declared.Versions.{Versions}

-- the version of a record that may not be held
unfoldable pub held_version : {A : Type 0} → (A → ℕ) → Option A → Option ℕ
held_version version None = None
held_version version (Some a) = Some (version a)

-- a version told, with the number 0 where the record is not held
pub record Shown (v : Option ℕ) (r : Version) : Type 0 where
  pub told : keep r.held r.number ≡ v
  pub zero : r.held ≡ false → r.number ≡ 0

pub record Tells (s : rules.State) (r : Versions) : Type 0 where
  pub root : Shown (held_version (λ h. h.version) s.root) r.root
  pub timestamp : Shown (held_version (λ h. h.version) s.timestamp) r.timestamp
  pub snapshot : Shown (held_version (λ h. h.version) s.snapshot) r.snapshot
  pub targets : Shown (held_version (λ h. h.version) s.targets) r.targets
  pub start : r.start.seconds ≡ s.start
