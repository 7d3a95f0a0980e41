-- A whole history, and what is claimed of it (01, "A whole history"): demand 3 is the record `Demand3`. The crate history proves it.
use Rattle.std.specs.Prelude.{◌≡◌, ◌↔◌, ◌⊎◌, ℕ, ◌+◌, ◌≤◌, ◌<◌, ℤ, length, ◌≤ℤ◌}
use Rattle.std.specs.declared.option.Option.TheVariants.{Some}
use mathlib.Core.List.{List, [], ◌∷◌, ◌++◌, map, Memᴰ}
use Rattle.base.specs.Bytes.{Bytes}
use Rattle.sha256.specs.Message.{digest_of}
use Rattle.rules.specs.Records.{Key, Named, Image, File, Read, says}
use Rattle.rules.specs.State.{Root, Timestamp, Snapshot, Targets, State, keep_targets, root_in, timestamp_in, snapshot_in, targets_in, Install, RootOffer, FileOffer, Call, new_cycle, new_root, new_timestamp, new_snapshot, new_targets}
use Rattle.rules.specs.Conditions.{targets_entry}
use Rattle.rules.specs.Steps.{install_answer, answer, Item, a_root, a_timestamp, a_snapshot, a_targets, offered, next, installed}
use Rattle.rules.specs.Words.{GoodRow, Enough, OwnKeyid, Collision, Rotated, AllVersions, Expired, Keeps, Matches}
use Rattle.rules.specs.Exactly.{FindsExpired, FindsFresh}

-- ## Histories

-- "an accepted install, then any sequence of" calls, "in any order and with any arguments, refused ones included"
pub record History : Type 0 where
  pub install : Install
  pub accepted : install_answer install ≡ 0
  pub calls : List Call

-- "The first is given the state that install returned, each later one the state the call before returned"
unfoldable pub run : State → List Call → State
run s [] = s
run s (c ∷ cs) = run (next s c) cs

unfoldable pub end : History → State
end h = run (installed h.install) h.calls

-- the install, or a call with the state that it was given
pub data Event : Type 0 where
  begins : Install → Event
  calls : State → Call → Event

unfoldable pub events : State → List Call → List Event
events s [] = []
events s (c ∷ cs) = calls s c ∷ events (next s c) cs

unfoldable pub happened : History → List Event
happened h = begins h.install ∷ events (installed h.install) h.calls

-- ## What becomes trusted, and what is held

-- "A file becomes trusted when its install, root, timestamp, snapshot or targets call answers 0"
pub data BecomesTrusted : Event → Item → Type 0 where
  at_install : {o : Install} {r : Root} {entries : List Bytes} → root_in o.file ≡ says r entries → install_answer o ≡ 0
      → BecomesTrusted (begins o) (a_root r)
  at_call : {s : State} {c : Call} {x : Item} → offered c ≡ Some x → answer s c ≡ 0 → BecomesTrusted (calls s c) x

abbrev pub listed_versions : List Named → List ℕ
listed_versions ns = map (λ (n : Named). n.listed.version) ns

-- A7: every place of a file that holds a version, its own and those that it lists
abbrev pub versions_of : Item → List ℕ
versions_of (a_root r) = r.version ∷ []
versions_of (a_timestamp t) = t.version ∷ t.snapshot.version ∷ []
versions_of (a_snapshot n) = n.version ∷ listed_versions n.names
versions_of (a_targets g) = g.version ∷ []

-- a root that becomes trusted and differs in this way from the one held before
pub data Replaces (Differs : Root → Root → Type 0) : Event → Type 0 where
  replaces : {s : State} {c : Call} {old new : Root} → s.root ≡ Some old → BecomesTrusted (calls s c) (a_root new)
      → Differs old new → Replaces Differs (calls s c)

-- "Timestamp or snapshot keys are rotated"
abbrev pub Rotation : Root → Root → Type 0
Rotation old new = Rotated old.timestamp_role new.timestamp_role ⊎ Rotated old.snapshot_role new.snapshot_role

-- the same, or targets keys
abbrev pub AnyRotation : Root → Root → Type 0
AnyRotation old new = Rotation old new ⊎ Rotated old.targets_role new.targets_role

-- a root that rotates timestamp or snapshot keys was accepted
abbrev pub Rotates : Event → Type 0
Rotates = Replaces Rotation

-- "Held is the one of its role trusted last, unless a later accepted root dropped it": x became trusted, and nothing that ends its
-- being held came after
pub record LastOf (all : List Event) (x : Item) (Ends : Event → Type 0) : Type 0 where
  pub before : List Event
  pub at : Event
  pub after : List Event
  pub split : all ≡ before ++ (at ∷ after)
  pub trusted : BecomesTrusted at x
  pub since : (e : Event) → Memᴰ e after → ¬ Ends e

-- another file of the role becomes trusted
abbrev pub Another : {A : Type 0} → (A → Item) → Event → Type 0
Another {A} item e = (a : A) × BecomesTrusted e (item a)

-- that, or an accepted root drops the record
abbrev pub AnotherOr : {A : Type 0} → (A → Item) → (Root → Root → Type 0) → Event → Type 0
AnotherOr item Differs e = Another item e ⊎ Replaces Differs e

-- two events of a history, the one anywhere before the other, with what happened between them
pub record Apart (all : List Event) (e₁ : Event) (between : List Event) (e₂ : Event) : Type 0 where
  pub before : List Event
  pub after : List Event
  pub split : all ≡ before ++ (e₁ ∷ (between ++ (e₂ ∷ after)))

abbrev pub Unrotated : List Event → Type 0
Unrotated es = (e : Event) → Memᴰ e es → ¬ Rotates e

-- ## The clock (A8)

-- a start time that the state has had: the one that an accepted install set, or an accepted cycle
pub data Sets : Event → ℤ → Type 0 where
  by_install : {o : Install} → install_answer o ≡ 0 → Sets (begins o) o.start
  by_cycle : {s : State} {t : ℤ} → answer s (new_cycle t) ≡ 0 → Sets (calls s (new_cycle t)) t

-- "the latest start time it has had"
pub record Latest (all : List Event) (latest : ℤ) : Type 0 where
  pub at : Event
  pub among : Memᴰ at all
  pub had : Sets at latest
  pub none_later : (e : Event) (t : ℤ) → Memᴰ e all → Sets e t → t ≤ℤ latest

-- "the start time in force" at a call; at the install, the one that it sets
abbrev pub in_force : Event → ℤ
in_force (begins o) = o.start
in_force (calls s c) = s.start

-- ## The honest publisher

-- "Refused calls, finds, keys and new cycles may come anywhere between": calls by which no file becomes trusted. Since A8 these cycles are the
-- accepted ones, and a cycle with 17 is a refused call.
abbrev pub Idle : State → Call → Type 0
Idle s c = (x : Item) → ¬ BecomesTrusted (calls s c) x

abbrev pub Quiet : State → List Call → Type 0
Quiet s [] = Unit {0}
Quiet s (c ∷ cs) = Idle s c × Quiet (next s c) cs

-- one of the publisher's calls: what comes between the publisher's call before it and this one, what it offers, and what the offered
-- file says: none of 1 to 4 holds, nor A1's 16
pub record Turn (O A : Type 0) (reading : O → Read A) : Type 0 where
  pub between : List Call
  pub offer : O
  pub file : A
  pub entries : List Bytes
  pub reads : reading offer ≡ says file entries

abbrev pub RootTurn : Type 0
RootTurn = Turn RootOffer Root (λ o. root_in o.file)

-- "any number of root calls or none, then timestamp, snapshot, targets"
pub record Plan : Type 0 where
  pub roots : List RootTurn
  pub timestamp : Turn FileOffer Timestamp (λ o. timestamp_in o.file)
  pub snapshot : Turn FileOffer Snapshot (λ o. snapshot_in o.file)
  pub targets : Turn FileOffer (File (List Image)) (λ o. targets_in o.file)

-- the state that a root of the plan is given, and the state after all of them
abbrev pub at_root : State → RootTurn → State
at_root s x = run s x.between

unfoldable pub after_roots : State → List RootTurn → State
after_roots s [] = s
after_roots s (x ∷ xs) = after_roots (next (at_root s x) (new_root x.offer)) xs

-- the states that the other three calls are given, and the state after the last
abbrev pub at_timestamp : State → Plan → State
at_timestamp s p = run (after_roots s p.roots) p.timestamp.between

abbrev pub at_snapshot : State → Plan → State
at_snapshot s p = run (next (at_timestamp s p) (new_timestamp p.timestamp.offer)) p.snapshot.between

abbrev pub at_targets : State → Plan → State
at_targets s p = run (next (at_snapshot s p) (new_snapshot p.snapshot.offer)) p.targets.between

abbrev pub at_end : State → Plan → State
at_end s p = next (at_targets s p) (new_targets p.targets.offer)

-- "the last root (the held one if none came)"
unfoldable pub last_root : Root → List RootTurn → Root
last_root r [] = r
last_root r (x ∷ xs) = last_root x.file xs

-- "Each root is one version above the one before it, with enough keys of that one and its own", well-formed
pub record NextRoot (before : Root) (x : RootTurn) : Type 0 where
  pub version : x.file.version ≡ before.version + 1
  pub held_row : GoodRow x.entries x.offer.held_row
  pub own_row : GoodRow x.entries x.offer.own_row
  pub held_keys : Enough before.root_role x.entries x.offer.held_row
  pub own_keys : Enough x.file.root_role x.entries x.offer.own_row

abbrev pub InTurn : Root → List RootTurn → Type 0
InTurn r [] = Unit {0}
InTurn r (x ∷ xs) = NextRoot r x × InTurn x.file xs

abbrev pub QuietRoots : State → List RootTurn → Type 0
QuietRoots s [] = Unit {0}
QuietRoots s (x ∷ xs) = Quiet s x.between × QuietRoots (next (at_root s x) (new_root x.offer)) xs

-- "None of these three, nor the last root, is expired at" this start time
pub record Fresh (root : Root) (p : Plan) (start : ℤ) : Type 0 where
  pub of_root : ¬ Expired root.expires start
  pub of_timestamp : ¬ Expired p.timestamp.file.expires start
  pub of_snapshot : ¬ Expired p.snapshot.file.expires start
  pub of_targets : ¬ Expired p.targets.file.expires start

-- the publisher keeps 01's rules: s is the state after a history, and held its root
pub record Honest (s : State) (held : Root) (p : Plan) : Type 0 where
  -- what comes between
  pub quiet_roots : QuietRoots s p.roots
  pub quiet_timestamp : Quiet (after_roots s p.roots) p.timestamp.between
  pub quiet_snapshot : Quiet (next (at_timestamp s p) (new_timestamp p.timestamp.offer)) p.snapshot.between
  pub quiet_targets : Quiet (next (at_snapshot s p) (new_snapshot p.snapshot.offer)) p.targets.between
  -- "all well-formed"
  pub timestamp_row : GoodRow p.timestamp.entries p.timestamp.offer.row
  pub snapshot_row : GoodRow p.snapshot.entries p.snapshot.offer.row
  pub targets_row : GoodRow p.targets.entries p.targets.offer.row
  -- "The others have enough keys of the last root"
  pub roots : InTurn held p.roots
  pub timestamp_keys : Enough (last_root held p.roots).timestamp_role p.timestamp.entries p.timestamp.offer.row
  pub snapshot_keys : Enough (last_root held p.roots).snapshot_role p.snapshot.entries p.snapshot.offer.row
  pub targets_keys : Enough (last_root held p.roots).targets_role p.targets.entries p.targets.offer.row
  -- "The timestamp is above the held one, its snapshot version not below the held timestamp's; the snapshot lists every name of the
  -- held one, none lower; both only where one is then held"
  pub newer : (t : Timestamp) → (at_timestamp s p).timestamp ≡ Some t → t.version < p.timestamp.file.version
  pub not_lower : (t : Timestamp) → (at_timestamp s p).timestamp ≡ Some t
      → t.snapshot.version ≤ p.timestamp.file.snapshot.version
  pub keeps : (n : Snapshot) → (at_snapshot s p).snapshot ≡ Some n → Keeps n.names p.snapshot.file.names
  -- "Snapshot and targets have the version listed, and length and digest where listed"
  pub snapshot_version : p.snapshot.file.version ≡ p.timestamp.file.snapshot.version
  pub snapshot_matches : Matches p.timestamp.file.snapshot (length p.snapshot.offer.file) (digest_of p.snapshot.offer.file)
  pub targets_version : p.targets.file.version ≡ (targets_entry p.snapshot.file).version
  pub targets_matches : Matches (targets_entry p.snapshot.file) (length p.targets.offer.file) (digest_of p.targets.offer.file)
  -- not expired "at any start time in force from the timestamp call to the targets call"
  pub fresh_timestamp : Fresh (last_root held p.roots) p (at_timestamp s p).start
  pub fresh_snapshot : Fresh (last_root held p.roots) p (at_snapshot s p).start
  pub fresh_targets : Fresh (last_root held p.roots) p (at_targets s p).start

abbrev pub RootsThrough : State → List RootTurn → Type 0
RootsThrough s [] = Unit {0}
RootsThrough s (x ∷ xs) =
    (answer (at_root s x) (new_root x.offer) ≡ 0) × RootsThrough (next (at_root s x) (new_root x.offer)) xs

-- "Then each of the publisher's calls answers 0", and in the end the last root and the other three are held
pub record Through (s : State) (held : Root) (p : Plan) : Type 0 where
  pub roots : RootsThrough s p.roots
  pub timestamp : answer (at_timestamp s p) (new_timestamp p.timestamp.offer) ≡ 0
  pub snapshot : answer (at_snapshot s p) (new_snapshot p.snapshot.offer) ≡ 0
  pub targets : answer (at_targets s p) (new_targets p.targets.offer) ≡ 0
  pub holds_root : (at_end s p).root ≡ Some (last_root held p.roots)
  pub holds_timestamp : (at_end s p).timestamp ≡ Some p.timestamp.file
  pub holds_snapshot : (at_end s p).snapshot ≡ Some p.snapshot.file
  pub holds_targets : (at_end s p).targets ≡ Some (keep_targets p.targets.offer.file p.targets.file)

-- ## The claim

-- the history up to some of its calls
abbrev pub up_to : History → List Call → History
up_to h cs = record { install = h.install; accepted = h.accepted; calls = cs }

pub record Demand3 (h : History) : Type 0 where
  -- Each call is given the state at the end of the history before it.
  pub given : (before : List Call) (c : Call) (after : List Call) → h.calls ≡ before ++ (c ∷ after)
      → (rest : List Event) × (happened h ≡ happened (up_to h before) ++ (calls (end (up_to h before)) c ∷ rest))
  -- The state at its end holds what the history says is held.
  pub held_root : (r : Root) → ((end h).root ≡ Some r) ↔ LastOf (happened h) (a_root r) (Another a_root)
  pub held_timestamp : (t : Timestamp) → ((end h).timestamp ≡ Some t)
      ↔ LastOf (happened h) (a_timestamp t) (AnotherOr a_timestamp Rotation)
  pub held_snapshot : (n : Snapshot) → ((end h).snapshot ≡ Some n)
      ↔ LastOf (happened h) (a_snapshot n) (AnotherOr a_snapshot Rotation)
  pub held_targets : (g : Targets) → ((end h).targets ≡ Some g)
      ↔ LastOf (happened h) (a_targets g) (AnotherOr a_targets AnyRotation)
  -- A1: every key of a root that became trusted has the digest of its text as its keyid; so a keyid stands for one key in all of them,
  -- unless two texts have one digest.
  pub keyids : (e : Event) (r : Root) → Memᴰ e (happened h) → BecomesTrusted e (a_root r) → (k : Key) → Memᴰ k r.keys
      → OwnKeyid k
  pub one_key : (e₁ e₂ : Event) (r₁ r₂ : Root) → Memᴰ e₁ (happened h) → Memᴰ e₂ (happened h) → BecomesTrusted e₁ (a_root r₁)
      → BecomesTrusted e₂ (a_root r₂) → (k l : Key) → Memᴰ k r₁.keys → Memᴰ l r₂.keys → k.keyid ≡ l.keyid
      → (k ≡ l) ⊎ Collision
  -- A7: every version of a file that became trusted, its own or one that it lists, is in the range of versions.
  pub versions : (e : Event) (x : Item) → Memᴰ e (happened h) → BecomesTrusted e x → AllVersions (versions_of x)
  -- A8: "The state keeps the latest start time it has had": it is the one in force.
  pub latest : Latest (happened h) (end h).start
  -- So the start time in force never falls, and a file found expired once is never found fresh later.
  pub clock_rises : (e₁ e₂ : Event) (between : List Event) → Apart (happened h) e₁ between e₂ → in_force e₁ ≤ℤ in_force e₂
  pub stays_expired : (s₁ s₂ : State) (c₁ c₂ : Call) (between : List Event) (x : Item)
      → Apart (happened h) (calls s₁ c₁) between (calls s₂ c₂) → FindsExpired s₁ c₁ x → ¬ FindsFresh s₂ c₂ x
  -- A root is always held. A well-formed file (1 to 5 do not hold, nor A1's 16) offered as the next one becomes trusted exactly when its version is one above the held
  -- one's and enough keys of the held root and enough of its own signed it.
  pub root_exactly : (s : State) (o : RootOffer) (r : Root) (entries : List Bytes) → Memᴰ (calls s (new_root o)) (happened h)
      → root_in o.file ≡ says r entries → GoodRow entries o.held_row → GoodRow entries o.own_row
      → (held : Root)
      × (s.root ≡ Some held)
      × (BecomesTrusted (calls s (new_root o)) (a_root r)
      ↔ ((r.version ≡ held.version + 1)
      × Enough held.root_role entries o.held_row
      × Enough r.root_role entries o.own_row))
  -- "Nothing falls: of two trusted files of one role, the later has no lower version." The installed root is one of the roots.
  pub roots_rise : (e₁ e₂ : Event) (between : List Event) (r₁ r₂ : Root) → Apart (happened h) e₁ between e₂
      → BecomesTrusted e₁ (a_root r₁) → BecomesTrusted e₂ (a_root r₂) → r₁.version ≤ r₂.version
  -- The others "only where no root that rotates timestamp or snapshot keys was accepted between the two". What a timestamp lists does
  -- not fall either.
  pub timestamps_rise : (e₁ e₂ : Event) (between : List Event) (t₁ t₂ : Timestamp) → Apart (happened h) e₁ between e₂
      → Unrotated between → BecomesTrusted e₁ (a_timestamp t₁) → BecomesTrusted e₂ (a_timestamp t₂)
      → (t₁.version ≤ t₂.version) × (t₁.snapshot.version ≤ t₂.snapshot.version)
  -- "of two snapshots the later lists every name of the earlier, none lower"
  pub snapshots_rise : (e₁ e₂ : Event) (between : List Event) (n₁ n₂ : Snapshot) → Apart (happened h) e₁ between e₂
      → Unrotated between → BecomesTrusted e₁ (a_snapshot n₁) → BecomesTrusted e₂ (a_snapshot n₂)
      → (n₁.version ≤ n₂.version) × Keeps n₁.names n₂.names
  pub targets_rise : (e₁ e₂ : Event) (between : List Event) (g₁ g₂ : Targets) → Apart (happened h) e₁ between e₂
      → Unrotated between → BecomesTrusted e₁ (a_targets g₁) → BecomesTrusted e₂ (a_targets g₂) → g₁.version ≤ g₂.version
  -- After the history an honest publisher gets through.
  pub publisher : (held : Root) × ((end h).root ≡ Some held) × ((p : Plan) → Honest (end h) held p → Through (end h) held p)
