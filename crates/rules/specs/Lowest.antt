-- "The lowest number whose condition holds, of those the call uses; 0 if none", as a statement of every answer: the record `Lowest`. A1's 16
-- alone is "tried between 3 and 4". The crate history proves it.
use Rattle.std.specs.Prelude.{◌≡◌, ◌↔◌, ◌⊎◌, Bool, true, false, ℕ, ◌≤◌, ◌<◌, ℤ, length}
use Rattle.std.specs.declared.option.Option.TheVariants.{Some}
use mathlib.Core.List.{List, Memᴰ}
use Rattle.base.specs.Bytes.{Bytes, bytes}
use Rattle.canonical_json.specs.Json.{Json}
use Rattle.rules.specs.Limits.{max_file}
use Rattle.rules.specs.Records.{Root, File, Fault, other_keyid, Read, refused, says}
use Rattle.rules.specs.Forms.{Envelope, envelope, file_of, root, root_keyids}
use Rattle.rules.specs.Reading.{parsed}
use Rattle.rules.specs.State.{State, root_in, timestamp_in, snapshot_in, targets_in, Install, RootOffer, FileOffer, Query, new_cycle, new_root, new_timestamp, new_snapshot, new_targets, find, ask_key}
use Rattle.rules.specs.Table.{Refusal, ◌when◌}
use Rattle.rules.specs.Steps.{install_table, cycle_table, root_table, timestamp_table, snapshot_table, targets_table, find_table, key_table, fault_number, install_answer, answer}
use Rattle.rules.specs.Asked.{Found, image_table, image_answer}

-- the number of a line whose condition holds, with no such line of a lower number; or 0, where none holds
pub data LowestOf (table : List Refusal) : ℕ → Type 0 where
  none_holds : ((n : ℕ) → ¬ Memᴰ (n when true) table) → LowestOf table 0
  holds : {n : ℕ} → Memᴰ (n when true) table → ((m : ℕ) → Memᴰ (m when true) table → n ≤ m) → LowestOf table n

-- reading's refusal, which is below 5 or 16; or else the lowest of the table, whose numbers are 5 or more
pub data Judgement {A : Type 0} (rd : Read A) (table : A → List Bytes → List Refusal) : ℕ → Type 0 where
  unread : {f : Fault} → rd ≡ refused f → (fault_number f < 5) ⊎ (fault_number f ≡ 16) → Judgement rd table (fault_number f)
  judges : {a : A} {es : List Bytes} {n : ℕ} → rd ≡ says a es → ((m : ℕ) (b : Bool) → Memᴰ (m when b) (table a es) → 5 ≤ m)
      → LowestOf (table a es) n → Judgement rd table n

-- none of 1 to 3 holds of a root's file, and a keyid of its key table is not its key's; whatever its spec_version is
pub record OtherKeyid (file : Bytes) : Type 0 where
  pub value : Json
  pub envelope-is : Envelope
  pub says : File Root
  pub fits : length file ≤ max_file
  pub text : parsed file ≡ Some value
  pub opens : envelope value ≡ Some envelope-is
  pub form : file_of (bytes "root") root envelope-is.signed ≡ Some says
  pub broken : root_keyids envelope-is.signed ≡ false

pub record Lowest : Type 0 where
  pub sixteen : (file : Bytes) → (root_in file ≡ refused other_keyid) ↔ OtherKeyid file
  pub of_install : (o : Install) → Judgement (root_in o.file) (install_table o) (install_answer o)
  pub of_cycle : (s : State) (t : ℤ) → LowestOf (cycle_table s t) (answer s (new_cycle t))
  pub of_root : (s : State) (o : RootOffer) → Judgement (root_in o.file) (root_table s o) (answer s (new_root o))
  pub of_timestamp : (s : State) (o : FileOffer) → Judgement (timestamp_in o.file) (timestamp_table s o) (answer s (new_timestamp o))
  pub of_snapshot : (s : State) (o : FileOffer) → Judgement (snapshot_in o.file) (snapshot_table s o) (answer s (new_snapshot o))
  pub of_targets : (s : State) (o : FileOffer) → Judgement (targets_in o.file) (targets_table s o) (answer s (new_targets o))
  pub of_find : (s : State) (q : Query) → Judgement (targets_in q.file) (find_table s q) (answer s (find q))
  pub of_key : (s : State) (k : Bytes) → LowestOf (key_table s k) (answer s (ask_key k))
  pub of_image : (listed fetched : Found) → LowestOf (image_table listed fetched) (image_answer listed fetched)
