-- A file that becomes trusted was read, so its versions, and those that it lists, are in the range (A7).
use mathlib.Core.Path.{◌≡◌, subst}
use Rattle.std.specs.declared.option.Option.TheVariants.{Some}
use mathlib.Core.List.{List}
use Rattle.base.specs.Bytes.{Bytes}
use Rattle.rules.specs.Records.{Read, says}
use Rattle.rules.specs.State.{root_in, timestamp_in, snapshot_in, targets_in, keep_targets, Call, new_cycle, new_root, new_timestamp, new_snapshot, new_targets, find, ask_key, ask_state}
use Rattle.rules.specs.Steps.{Item, a_root, a_timestamp, a_snapshot, a_targets, what_says, offered}
use Rattle.rules.specs.Words.{AllVersions}
use Rattle.rules.specs.History.{versions_of, Event, BecomesTrusted, at_install, at_call}
use Rattle.rules.proofs.OptionLaws.{none-not-some}
use Rattle.rules.proofs.NextLaws.{what_said}
use Rattle.rules.proofs.VersionLaws.{root-versions, timestamp-versions, snapshot-versions, targets-versions}

-- what holds of every file that can be read holds of the one that was offered
said-versions : {A : Type 0} (f : A → Item) (rd : Read A) → ((a : A) (es : List Bytes) → rd ≡ says a es → AllVersions (versions_of (f a)))
    → (x : Item) → what_says f rd ≡ Some x → AllVersions (versions_of x)
said-versions f rd law x e =
    let w = what_said f rd x e in
    subst (λ (y : Item). AllVersions (versions_of y)) w.3 (law w.0 w.1 w.2)

offered-versions : (c : Call) (x : Item) → offered c ≡ Some x → AllVersions (versions_of x)
unfolding offered
offered-versions (new_cycle t) x e = none-not-some e
offered-versions (new_root o) x e = said-versions a_root (root_in o.file) (root-versions o.file) x e
offered-versions (new_timestamp o) x e = said-versions a_timestamp (timestamp_in o.file) (timestamp-versions o.file) x e
offered-versions (new_snapshot o) x e = said-versions a_snapshot (snapshot_in o.file) (snapshot-versions o.file) x e
offered-versions (new_targets o) x e =
    said-versions (λ g. a_targets (keep_targets o.file g)) (targets_in o.file) (targets-versions o.file) x e
offered-versions (find q) x e = none-not-some e
offered-versions (ask_key k) x e = none-not-some e
offered-versions ask_state x e = none-not-some e

pub trusted-versions : {e : Event} {x : Item} → BecomesTrusted e x → AllVersions (versions_of x)
trusted-versions (at_install {o} {r} {entries} reads a) = root-versions o.file r entries reads
trusted-versions (at_call {c} {x} e a) = offered-versions c x e
