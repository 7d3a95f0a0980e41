-- The calls of the library, one after another: an accepted install, and then every call by the state that the one before it returned.
-- What is known of each call is the contract of its function, and nothing else; the functions that `capi` exports have the same contracts.
-- The claim about every such run is `Holds` of history, demand 3 included; the law `library` proves it.
use Rattle.std.specs.Prelude.{◌≡◌, ℕ}
use Rattle.base.specs.Bytes.{Bytes}
use Rattle.rules.specs.State.{Install, Query, Call, find, ask_key, ask_state}
use Rattle.rules.specs.Steps.{Began}
use Rattle.rules.specs.Asked.{Found}
use Rattle.state.specs.Told.{Tells}
use Rattle.state.specs.declared.Versions.{Versions}
use Rattle.tuf.specs.View.{view}
use Rattle.tuf.specs.Promises.{Steps, FindsImage, GivesKey}
use Rattle.tuf.specs.declared.State.{State}

-- a call that was made of a state: its answer, and the state after it
pub data Made (self : State) : Call → ℕ → State → Type 0 where
  -- `new_cycle`, `root`, `timestamp`, `snapshot`, `targets`
  stepping : {c : Call} {n : ℕ} {after : State} → Steps self c n after → Made self c n after
  -- "find, key and any other call that returns none pass on the one they were given"
  finding : {q : Query} {n : ℕ} {image : Found} {compared : ℕ} → FindsImage self q n image compared → Made self (find q) n self
  asking : {k : Bytes} {n : ℕ} {public : Bytes} → GivesKey self k n public → Made self (ask_key k) n self
  telling : {r : Versions} → Tells (view self) r → Made self ask_state 0 self

-- one call after another
pub data Calls : State → Type 0 where
  none : {s : State} → Calls s
  then : {s s' : State} {c : Call} {n : ℕ} → Made s c n s' → Calls s' → Calls s

pub record LibraryRun : Type 0 where
  pub install : Install
  pub answer : ℕ
  pub first : State
  pub began : Began install answer (view first)
  pub accepted : answer ≡ 0
  pub calls : Calls first
