-- A file that becomes trusted has met all the conditions of its call; any other call leaves the records as they are; and the held root
-- was always read from a file.
use mathlib.Core.Path.{◌≡◌, refl, sym, ap, ◌∙◌, subst}
use mathlib.Core.Logic.{◌⊎◌, inl, inr}
use Rattle.std.specs.declared.option.Option.{Option}
use Rattle.std.specs.declared.option.Option.TheVariants.{None, Some}
use mathlib.Core.List.{List}
use native.Mathlib.Decide.{ℕ_discrete}
use Rattle.base.specs.Bytes.{Bytes}
use Rattle.rules.specs.Records.{Image, File, says}
use Rattle.rules.specs.State.{Root, Timestamp, Snapshot, State, keep_targets, root_in, Install, RootOffer, FileOffer, Call, new_cycle, new_root, new_timestamp, new_snapshot, new_targets, find, ask_key, ask_state}
use Rattle.rules.specs.Steps.{answer, next, install_answer, installed, root_alone, with_start, with_root, with_timestamp, with_snapshot, with_targets, Item, a_root, a_timestamp, a_snapshot, a_targets, after_root, trusting, offered, started}
use Rattle.rules.specs.Exactly.{RootGood, TimestampGood, SnapshotGood, TargetsGood, RootRead}
use Rattle.rules.specs.History.{calls, BecomesTrusted, at_call, Idle}
use Rattle.rules.proofs.OptionLaws.{none-not-some}
use Rattle.rules.proofs.TableLaws.{one-held}
use Rattle.rules.proofs.NextLaws.{next-refused, next-none}
use Rattle.rules.proofs.ExactlyLaws.{root-good, good-root, root-offered, root-after, timestamp-good, good-timestamp, timestamp-offered, timestamp-after, snapshot-good, good-snapshot, snapshot-offered, snapshot-after, targets-good, good-targets, targets-offered, targets-after, install-good, install-after}

-- ## Which file, by which call

pub data TrustedBy (s : State) : Call → Item → Type 0 where
  root : {o : RootOffer} {r : Root} → RootGood s o r → TrustedBy s (new_root o) (a_root r)
  timestamp : {o : FileOffer} {t : Timestamp} → TimestampGood s o t → TrustedBy s (new_timestamp o) (a_timestamp t)
  snapshot : {o : FileOffer} {n : Snapshot} → SnapshotGood s o n → TrustedBy s (new_snapshot o) (a_snapshot n)
  targets : {o : FileOffer} {g : File (List Image)} → TargetsGood s o g
      → TrustedBy s (new_targets o) (a_targets (keep_targets o.file g))

module _ (s : State) (read : RootRead s) where
  by_call : (c : Call) (x : Item) → offered c ≡ Some x → answer s c ≡ 0 → TrustedBy s c x
  unfolding offered
  by_call (new_cycle t) x e a = none-not-some e
  by_call (new_root o) x e a =
      let g = root-good s o read a in
      subst (λ y. TrustedBy s (new_root o) y) (one-held (root-offered s o g.0 g.1) e) (root g.1)
  by_call (new_timestamp o) x e a =
      let g = timestamp-good s o read a in
      subst (λ y. TrustedBy s (new_timestamp o) y) (one-held (timestamp-offered s o g.0 g.1) e) (timestamp g.1)
  by_call (new_snapshot o) x e a =
      let g = snapshot-good s o read a in
      subst (λ y. TrustedBy s (new_snapshot o) y) (one-held (snapshot-offered s o g.0 g.1) e) (snapshot g.1)
  by_call (new_targets o) x e a =
      let g = targets-good s o read a in
      subst (λ y. TrustedBy s (new_targets o) y) (one-held (targets-offered s o g.0 g.1) e) (targets g.1)
  by_call (find q) x e a = none-not-some e
  by_call (ask_key k) x e a = none-not-some e
  by_call ask_state x e a = none-not-some e

  pub trusted-by : {c : Call} {x : Item} → BecomesTrusted (calls s c) x → TrustedBy s c x
  trusted-by (at_call {c} {x} e a) = by_call c x e a

pub by-trusted : {s : State} {c : Call} {x : Item} → TrustedBy s c x → BecomesTrusted (calls s c) x
by-trusted {s} (root {o} {r} g) = at_call (root-offered s o r g) (good-root s o r g)
by-trusted {s} (timestamp {o} {t} g) = at_call (timestamp-offered s o t g) (good-timestamp s o t g)
by-trusted {s} (snapshot {o} {n} g) = at_call (snapshot-offered s o n g) (good-snapshot s o n g)
by-trusted {s} (targets {o} {g = f} g) = at_call (targets-offered s o f g) (good-targets s o f g)

-- one file becomes trusted by a call
pub one-trusted : {s : State} {c : Call} {x y : Item} → BecomesTrusted (calls s c) x → BecomesTrusted (calls s c) y → x ≡ y
one-trusted (at_call e _) (at_call e' _) = one-held e e'

-- and enters the state
pub trusted-next : {s : State} {c : Call} {x : Item} → TrustedBy s c x → next s c ≡ trusting s x
unfolding trusting after_root
trusted-next {s} (root {o} {r} g) = root-after s o r g ∙ rw g.is_held
trusted-next {s} (timestamp {o} {t} g) = timestamp-after s o t g
trusted-next {s} (snapshot {o} {n} g) = snapshot-after s o n g
trusted-next {s} (targets {o} {g = f} g) = targets-after s o f g

-- ## A call by which no file becomes trusted

-- the same records, at perhaps another start time
pub record SameRecords (a b : State) : Type 0 where
  pub root : b.root ≡ a.root
  pub timestamp : b.timestamp ≡ a.timestamp
  pub snapshot : b.snapshot ≡ a.snapshot
  pub targets : b.targets ≡ a.targets

pub same-is : {a b : State} → b ≡ a → SameRecords a b
same-is e =
    record {
      root = ap (λ (x : State). x.root) e;
      timestamp = ap (λ (x : State). x.timestamp) e;
      snapshot = ap (λ (x : State). x.snapshot) e;
      targets = ap (λ (x : State). x.targets) e;
    }

pub same_trans : {a b c : State} → SameRecords a b → SameRecords b c → SameRecords a c
same_trans p q =
    record {
      root = q.root ∙ p.root;
      timestamp = q.timestamp ∙ p.timestamp;
      snapshot = q.snapshot ∙ p.snapshot;
      targets = q.targets ∙ p.targets;
    }

started-same : (s : State) (c : Call) → SameRecords s (started s c)
unfolding started with_start
started-same s (new_cycle t) = record { root = refl; timestamp = refl; snapshot = refl; targets = refl }
started-same s (new_root o) = same-is refl
started-same s (new_timestamp o) = same-is refl
started-same s (new_snapshot o) = same-is refl
started-same s (new_targets o) = same-is refl
started-same s (find q) = same-is refl
started-same s (ask_key k) = same-is refl
started-same s ask_state = same-is refl

pub idle-same : (s : State) (c : Call) → Idle s c → SameRecords s (next s c)
idle-same s c idle = elim (ℕ_discrete (answer s c) 0) [ yes a ↦ go a (offered c) refl | no f ↦ same-is (next-refused s c f) ]
  where
    go : answer s c ≡ 0 → (o : Option Item) → offered c ≡ o → SameRecords s (next s c)
    go a None e = same_trans (started-same s c) (same-is (next-none s c e a))
    go a (Some x) e = absurd (idle x (at_call e a))

-- ## Every call is one or the other

pub kind : (s : State) → RootRead s → (c : Call) → ((x : Item) × TrustedBy s c x) ⊎ Idle s c
kind s read c = elim (ℕ_discrete (answer s c) 0) [ yes a ↦ go a (offered c) refl | no f ↦ inr (λ x k. f (answers k)) ]
  where
    answers : {x : Item} → BecomesTrusted (calls s c) x → answer s c ≡ 0
    answers (at_call e a) = a

    offers : {x : Item} → BecomesTrusted (calls s c) x → offered c ≡ Some x
    offers (at_call e a) = e

    go : answer s c ≡ 0 → (o : Option Item) → offered c ≡ o → ((x : Item) × TrustedBy s c x) ⊎ Idle s c
    go a None e = inr (λ x k. none-not-some (sym e ∙ offers k))
    go a (Some x) e = inl (x, trusted-by s read (at_call e a))

-- ## The held root was read

read_same : (a b : State) → b.root ≡ a.root → RootRead a → RootRead b
read_same a b e read r h = read r (sym e ∙ h)

read_one : (s : State) (r : Root) (file : Bytes) (es : List Bytes) → s.root ≡ Some r → root_in file ≡ says r es → RootRead s
read_one s r file es e reads r' h =
    (file, es, subst (λ (x : Root). root_in file ≡ says x es) (one-held e h) reads)

read-trusted : {s : State} {c : Call} {x : Item} → RootRead s → TrustedBy s c x → RootRead (next s c)
unfolding with_root with_timestamp with_snapshot with_targets
read-trusted {s} read (root {o} {r} g) =
    read_one (next s (new_root o)) r o.file g.entries (ap (λ (x : State). x.root) (root-after s o r g)) g.reads
read-trusted {s} read (timestamp {o} {t} g) = read_same s (next s (new_timestamp o)) (ap (λ (x : State). x.root) (timestamp-after s o t g)) read
read-trusted {s} read (snapshot {o} {n} g) = read_same s (next s (new_snapshot o)) (ap (λ (x : State). x.root) (snapshot-after s o n g)) read
read-trusted {s} read (targets {o} {g = f} g) = read_same s (next s (new_targets o)) (ap (λ (x : State). x.root) (targets-after s o f g)) read

pub read_next : (s : State) → RootRead s → (c : Call) → RootRead (next s c)
read_next s read c = elim (kind s read c) [ inl k ↦ read-trusted read k.1 | inr i ↦ read_same s (next s c) (idle-same s c i).root read ]

pub read-installed : (o : Install) → install_answer o ≡ 0 → RootRead (installed o)
unfolding root_alone
read-installed o a =
    let g = install-good o a in
    let after = install-after o g.0 g.1.entries g.1.reads a in
    read_one (installed o) g.0 o.file g.1.entries (ap (λ (x : State). x.root) after) g.1.reads
