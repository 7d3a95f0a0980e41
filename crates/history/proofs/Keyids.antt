-- A root that becomes trusted was read, so its keyids are its keys' (A1).
use mathlib.Core.Path.{◌≡◌, subst}
use Rattle.std.specs.declared.option.Option.TheVariants.{Some}
use mathlib.Core.List.{List, Memᴰ}
use Rattle.base.specs.Bytes.{Bytes}
use Rattle.base.proofs.TestLaws.{never}
use Rattle.rules.specs.Records.{Key, Read, says}
use Rattle.rules.specs.State.{Root, root_in, timestamp_in, snapshot_in, targets_in, keep_targets, Call, new_cycle, new_root, new_timestamp, new_snapshot, new_targets, find, ask_key, ask_state}
use Rattle.rules.specs.Steps.{Item, a_root, a_timestamp, a_snapshot, a_targets, what_says, offered}
use Rattle.rules.specs.Words.{OwnKeyid}
use Rattle.rules.specs.History.{Event, BecomesTrusted, at_install, at_call}
use Rattle.rules.proofs.OptionLaws.{none-not-some}
use Rattle.rules.proofs.NextLaws.{what_said}
use Rattle.rules.proofs.KeyidLaws.{root-keyids}

module _ {r : Root} where
  -- the root that was offered; a file of another role is none
  says-root : (file : Bytes) → what_says a_root (root_in file) ≡ Some (a_root r) → (es : List Bytes) × (root_in file ≡ says r es)
  says-root file e =
      let w = what_said a_root (root_in file) (a_root r) e in
      let one : w.0 ≡ r = cc in
      (w.1, subst (λ (x : Root). root_in file ≡ says x w.1) one w.2)

  not_root : {A X : Type 0} (f : A → Item) → ((a : A) → ¬ (f a ≡ a_root r)) → (rd : Read A) → what_says f rd ≡ Some (a_root r) → X
  not_root f other rd e = let w = what_said f rd (a_root r) e in absurd (other w.0 w.3)

  offered-keyids : (c : Call) → offered c ≡ Some (a_root r) → (k : Key) → Memᴰ k r.keys → OwnKeyid k
  unfolding offered
  offered-keyids (new_cycle t) e = none-not-some e
  offered-keyids (new_root o) e = let w = says-root o.file e in root-keyids o.file r w.0 w.1
  offered-keyids (new_timestamp o) e = not_root a_timestamp (λ a q. never (cc)) (timestamp_in o.file) e
  offered-keyids (new_snapshot o) e = not_root a_snapshot (λ a q. never (cc)) (snapshot_in o.file) e
  offered-keyids (new_targets o) e = not_root (λ g. a_targets (keep_targets o.file g)) (λ a q. never (cc)) (targets_in o.file) e
  offered-keyids (find q) e = none-not-some e
  offered-keyids (ask_key k) e = none-not-some e
  offered-keyids ask_state e = none-not-some e

pub own-keyids : {e : Event} {r : Root} → BecomesTrusted e (a_root r) → (k : Key) → Memᴰ k r.keys → OwnKeyid k
own-keyids {r} (at_install {o} {entries} reads a) = root-keyids o.file r entries reads
own-keyids (at_call {c} e a) = offered-keyids c e
