-- Nothing falls. Two orders on states: `Rising`, of the root and the clock, which every call keeps, and `Onward`, of timestamp and snapshot, which every
-- call keeps but an accepted root that rotates their keys. Both are reflexive and transitive, so they hold between any two states of a
-- history, and a call that trusts a file compares it with the state it was given.
use mathlib.Core.Path.{◌≡◌, refl, sym, ap, ◌∙◌, subst}
use mathlib.Core.Logic.{inl, inr}
use mathlib.Core.Bool.{Bool, true, false}
use Rattle.std.specs.declared.option.Option.TheVariants.{Some}
use mathlib.Core.List.Memᴰ
use mathlib.Core.List.{List, [], ◌∷◌, ◌++◌, nil≢cons, head-eq_of_cons-eq, tail-eq_of_cons-eq}
use Prim.Native.Nat.{◌≤◌}
use native.Mathlib.Omega.{arith}
use native.Mathlib.Nat.{le_trans, le_refl, le_of_lt}
use lib.IntN.{ℤ}
use lib.Signed.{◌≤ℤ◌, ≤ℤ_refl}
use Rattle.date.proofs.OrderLaws.{≤ℤ_trans}
use Rattle.rules.specs.Records.{Named}
use Rattle.rules.specs.State.{Root, Timestamp, Snapshot, Targets, State, keep_targets, Call, new_root, new_timestamp, new_snapshot, new_targets}
use Rattle.rules.specs.Conditions.{targets_entry, rotates}
use Rattle.rules.specs.Steps.{with_root, with_timestamp, with_snapshot, with_targets, next, installed, Item, a_root, a_timestamp, a_snapshot, a_targets}
use Rattle.rules.specs.Words.{Keeps}
use Rattle.rules.specs.Exactly.{RootRead}
use Rattle.rules.specs.History.{History, Event, begins, calls, events, happened, BecomesTrusted, replaces, Rotates, Apart, Unrotated, in_force}
use Rattle.rules.proofs.WordLaws.{rotates-exactly, keeps_trans, keeps-targets}
use Rattle.rules.proofs.TableLaws.{one-held}
use Rattle.rules.proofs.ExactlyLaws.{root-after, timestamp-after, snapshot-after, targets-after}
use Rattle.history.proofs.Trusted.{TrustedBy, root, timestamp, snapshot, targets, trusted-by, by-trusted, idle-same, kind, read_next, read-installed}
use Rattle.history.proofs.Left.{Left, left, left-installed}
use Rattle.history.proofs.Clock.{clock-next, clock-installed}

-- ## The two orders

pub record Rising (a b : State) : Type 0 where
  pub root : (r : Root) → a.root ≡ Some r → (r' : Root) × (b.root ≡ Some r') × (r.version ≤ r'.version)
  pub clock : a.start ≤ℤ b.start

-- a later snapshot: whatever keeps its names keeps the earlier one's, and its targets version is not lower
pub record Covers (n n' : Snapshot) : Type 0 where
  pub names : (fs : List Named) → Keeps n'.names fs → Keeps n.names fs
  pub targets : (targets_entry n).version ≤ (targets_entry n').version

pub record Onward (a b : State) : Type 0 where
  pub timestamp : (t : Timestamp) → a.timestamp ≡ Some t
      → (t' : Timestamp) × (b.timestamp ≡ Some t') × (t.version ≤ t'.version) × (t.snapshot.version ≤ t'.snapshot.version)
  pub snapshot : (n : Snapshot) → a.snapshot ≡ Some n → (n' : Snapshot) × (b.snapshot ≡ Some n') × Covers n n'

rising-root : (a b : State) → b.root ≡ a.root → a.start ≤ℤ b.start → Rising a b
rising-root a b e l = record { root = λ r h. (r, e ∙ h, le_refl r.version); clock = l }

pub rising_refl : (s : State) → Rising s s
rising_refl s = rising-root s s refl (≤ℤ_refl s.start)

pub rising_trans : {a b c : State} → Rising a b → Rising b c → Rising a c
rising_trans p q =
    record {
      root = λ r h. let x = p.root r h in let y = q.root x.0 x.1 in (y.0, y.1, le_trans x.2 y.2);
      clock = ≤ℤ_trans p.clock q.clock;
    }

covers_refl : (n : Snapshot) → Covers n n
covers_refl n = record { names = λ fs k. k; targets = le_refl (targets_entry n).version }

onward-same : (a b : State) → b.timestamp ≡ a.timestamp → b.snapshot ≡ a.snapshot → Onward a b
onward-same a b et en =
    record {
      timestamp = λ t h. (t, et ∙ h, le_refl t.version, le_refl t.snapshot.version);
      snapshot = λ n h. (n, en ∙ h, covers_refl n);
    }

onward_trans : {a b c : State} → Onward a b → Onward b c → Onward a c
onward_trans p q =
    record {
      timestamp =
          λ t h.
          let x = p.timestamp t h in
          let y = q.timestamp x.0 x.1 in
          (y.0, y.1, le_trans x.2 y.2, le_trans x.3 y.3);
      snapshot =
          λ n h.
          let x = p.snapshot n h in
          let y = q.snapshot x.0 x.1 in (
            y.0,
            y.1,
            record {
              names = λ fs k. x.2.names fs (y.2.names fs k);
              targets = le_trans x.2.targets y.2.targets;
            },
          );
    }

-- ## Each call keeps them

-- the next root is above the held one
above_root : {s : State} {c : Call} {r : Root} → TrustedBy s c (a_root r) → (h : Root) → s.root ≡ Some h → h.version ≤ r.version
above_root (root {o} {r} g) h e =
    subst (λ (x : Root). x.version ≤ r.version) (one-held g.is_held e) (let v = g.version in omega arith)

-- a call that leaves the root
rising-at : (s : State) (c : Call) → (next s c).root ≡ s.root → Rising s (next s c)
rising-at s c e = rising-root s (next s c) e (clock-next s c)

rising-trusted : {s : State} {c : Call} {x : Item} → TrustedBy s c x → Rising s (next s c)
unfolding with_root with_timestamp with_snapshot with_targets
rising-trusted {s} (root {o} {r} g) =
    record {
      root = λ h e. (r, ap (λ (x : State). x.root) (root-after s o r g), above_root (root g) h e);
      clock = clock-next s (new_root o);
    }
rising-trusted {s} (timestamp {o} {t} g) = rising-at s (new_timestamp o) (ap (λ (x : State). x.root) (timestamp-after s o t g))
rising-trusted {s} (snapshot {o} {n} g) = rising-at s (new_snapshot o) (ap (λ (x : State). x.root) (snapshot-after s o n g))
rising-trusted {s} (targets {o} {g = f} g) = rising-at s (new_targets o) (ap (λ (x : State). x.root) (targets-after s o f g))

pub rising : (s : State) → RootRead s → (c : Call) → Rising s (next s c)
rising s read c = elim (kind s read c) [ inl k ↦ rising-trusted k.1 | inr i ↦ rising-at s c (idle-same s c i).root ]

-- a test that is not true
unless_true : (b : Bool) → ¬ (b ≡ true) → b ≡ false
unless_true true f = absurd (f refl)
unless_true false f = refl

onward-trusted : {s : State} {c : Call} {x : Item} → TrustedBy s c x → ¬ Rotates (calls s c) → Onward s (next s c)
unfolding with_root with_timestamp with_snapshot with_targets
onward-trusted {s} (root {o} {r} g) stays =
    let after = root-after s o r g in
    let kept : rotates g.held r ≡ false =
    unless_true _ (λ t. stays (replaces g.is_held (by-trusted (root g)) ((rotates-exactly g.held r).0 t)))
    in
    onward-same s (next s (new_root o)) (ap (λ (x : State). x.timestamp) after ∙ rw kept) (ap (λ (x : State). x.snapshot) after ∙ rw kept)
onward-trusted {s} (timestamp {o} {t} g) stays =
    let after = timestamp-after s o t g in
    record {
      timestamp = λ h e. (t, ap (λ (x : State). x.timestamp) after, le_of_lt (g.newer h e), g.not_lower h e);
      snapshot = λ n e. (n, ap (λ (x : State). x.snapshot) after ∙ e, covers_refl n);
    }
onward-trusted {s} (snapshot {o} {n} g) stays =
    let after = snapshot-after s o n g in
    record {
      timestamp = λ t e. (t, ap (λ (x : State). x.timestamp) after ∙ e, le_refl t.version, le_refl t.snapshot.version);
      snapshot =
          λ h e. (
            n,
            ap (λ (x : State). x.snapshot) after,
            record {
              names = λ fs more. keeps_trans h.names n.names fs (g.keeps h e) more;
              targets = keeps-targets h n (g.keeps h e);
            },
          );
    }
onward-trusted {s} (targets {o} {g = f} g) stays =
    let after = targets-after s o f g in
    onward-same s (next s (new_targets o)) (ap (λ (x : State). x.timestamp) after) (ap (λ (x : State). x.snapshot) after)

onward : (s : State) → RootRead s → (c : Call) → ¬ Rotates (calls s c) → Onward s (next s c)
onward s read c stays =
    elim (kind s read c) [
      | inl k ↦ onward-trusted k.1 stays
      | inr i ↦ let e = idle-same s c i in onward-same s (next s c) e.timestamp e.snapshot
    ]

-- ## Along a history

-- the event e, met after the events `mid` from the state s on, with the calls that follow it
pub record Met (s : State) (mid : List Event) (e : Event) (rest : List Event) : Type 0 where
  pub given : State
  pub call : Call
  pub is : e ≡ calls given call
  pub read : RootRead given
  pub rises : Rising s given
  pub goes_on : Unrotated mid → Onward s given
  pub later : List Call
  pub follow : events (next given call) later ≡ rest

pub met : (s : State) → RootRead s → (cs : List Call) (mid : List Event) (e : Event) (rest : List Event)
    → events s cs ≡ mid ++ (e ∷ rest) → Met s mid e rest
unfolding events
met s read [] [] e rest q = absurd (nil≢cons q)
met s read [] (x ∷ mid) e rest q = absurd (nil≢cons q)
met s read (c ∷ cs) [] e rest q =
    record {
      given = s;
      call = c;
      is = sym (head-eq_of_cons-eq q);
      read = read;
      rises = rising_refl s;
      goes_on = λ stays. onward-same s s refl refl;
      later = cs;
      follow = tail-eq_of_cons-eq q;
    }
met s read (c ∷ cs) (x ∷ mid) e rest q =
    let m = met (next s c) (read_next s read c) cs mid e rest (tail-eq_of_cons-eq q) in
    record {
      given = m.given;
      call = m.call;
      is = m.is;
      read = m.read;
      rises = rising_trans (rising s read c) m.rises;
      goes_on =
          λ stays.
          onward_trans (onward s read c (λ r. stays x (Memᴰ.head refl) (subst Rotates (head-eq_of_cons-eq q) r)))
          (m.goes_on (λ y i. stays y (Memᴰ.tail i)));
      later = m.later;
      follow = m.follow;
    }

-- two events of a history: what the first left, and the state that the second was given
record Pair (e₁ : Event) (mid : List Event) (e₂ : Event) : Type 0 where
  after : State
  leaves : (x : Item) → BecomesTrusted e₁ x → Left after x
  clock : in_force e₁ ≤ℤ after.start
  given : State
  start : given.start ≡ in_force e₂
  rises : Rising after given
  goes_on : Unrotated mid → Onward after given
  by : (x : Item) → BecomesTrusted e₂ x → (c : Call) × TrustedBy given c x

pair_of : (e₁ : Event) (mid : List Event) (e₂ : Event) (post : List Event) (after : State) → RootRead after
    → ((x : Item) → BecomesTrusted e₁ x → Left after x) → in_force e₁ ≤ℤ after.start → (cs : List Call)
    → events after cs ≡ mid ++ (e₂ ∷ post) → Pair e₁ mid e₂
pair_of e₁ mid e₂ post after read leaves clock cs q =
    let m = met after read cs mid e₂ post q in
    record {
      after = after;
      leaves = leaves;
      clock = clock;
      given = m.given;
      start = ap in_force (sym m.is);
      rises = m.rises;
      goes_on = m.goes_on;
      by = λ x k. (m.call, trusted-by m.given m.read (subst (λ e. BecomesTrusted e x) m.is k));
    }

pair : (h : History) (e₁ : Event) (mid : List Event) (e₂ : Event) → Apart (happened h) e₁ mid e₂ → Pair e₁ mid e₂
unfolding happened
pair h e₁ mid e₂ apart = go apart.before apart.split
  where
    s₀ : State
    s₀ = installed h.install

    read₀ : RootRead s₀
    read₀ = read-installed h.install h.accepted

    go : (before : List Event) → begins h.install ∷ events s₀ h.calls ≡ before ++ (e₁ ∷ (mid ++ (e₂ ∷ apart.after)))
        → Pair e₁ mid e₂
    go [] q =
        pair_of e₁ mid e₂ apart.after s₀ read₀
        (λ x k. left-installed (subst (λ e. BecomesTrusted e x) (sym (head-eq_of_cons-eq q)) k))
        (subst (λ (t : ℤ). t ≤ℤ s₀.start) (clock-installed h.install h.accepted ∙ ap in_force (head-eq_of_cons-eq q)) (≤ℤ_refl s₀.start))
        h.calls (tail-eq_of_cons-eq q)
    go (x ∷ before) q =
        let m = met s₀ read₀ h.calls before e₁ (mid ++ (e₂ ∷ apart.after)) (tail-eq_of_cons-eq q) in
        pair_of e₁ mid e₂ apart.after (next m.given m.call) (read_next m.given m.read m.call)
        (λ y k. left (trusted-by m.given m.read (subst (λ e. BecomesTrusted e y) m.is k)))
        (subst (λ (t : ℤ). t ≤ℤ (next m.given m.call).start) (ap in_force (sym m.is)) (clock-next m.given m.call))
        m.later m.follow

-- ## Nothing falls

module _ (h : History) (e₁ e₂ : Event) (mid : List Event) where
  pub clock-rises : Apart (happened h) e₁ mid e₂ → in_force e₁ ≤ℤ in_force e₂
  clock-rises apart =
      let p = pair h e₁ mid e₂ apart in
      subst (λ (t : ℤ). in_force e₁ ≤ℤ t) p.start (≤ℤ_trans p.clock p.rises.clock)

  pub roots-rise : (r₁ r₂ : Root) → Apart (happened h) e₁ mid e₂ → BecomesTrusted e₁ (a_root r₁) → BecomesTrusted e₂ (a_root r₂)
      → r₁.version ≤ r₂.version
  roots-rise r₁ r₂ apart k₁ k₂ =
      let p = pair h e₁ mid e₂ apart in
      let x = p.rises.root r₁ (p.leaves _ k₁) in
      le_trans x.2 (above_root (p.by _ k₂).1 x.0 x.1)

  pub timestamps-rise : (t₁ t₂ : Timestamp) → Apart (happened h) e₁ mid e₂ → Unrotated mid → BecomesTrusted e₁ (a_timestamp t₁)
      → BecomesTrusted e₂ (a_timestamp t₂) → (t₁.version ≤ t₂.version) × (t₁.snapshot.version ≤ t₂.snapshot.version)
  timestamps-rise t₁ t₂ apart stays k₁ k₂ =
      let p = pair h e₁ mid e₂ apart in
      let x = (p.goes_on stays).timestamp t₁ (p.leaves _ k₁) in
      let w = above (p.by _ k₂).1 x.0 x.1 in
      (le_trans x.2 w.0, le_trans x.3 w.1)
    where
      above : {s : State} {c : Call} {t : Timestamp} → TrustedBy s c (a_timestamp t) → (h : Timestamp) → s.timestamp ≡ Some h
          → (h.version ≤ t.version) × (h.snapshot.version ≤ t.snapshot.version)
      above (timestamp g) h e = (le_of_lt (g.newer h e), g.not_lower h e)

  pub snapshots-rise : (n₁ n₂ : Snapshot) → Apart (happened h) e₁ mid e₂ → Unrotated mid → BecomesTrusted e₁ (a_snapshot n₁)
      → BecomesTrusted e₂ (a_snapshot n₂) → (n₁.version ≤ n₂.version) × Keeps n₁.names n₂.names
  snapshots-rise n₁ n₂ apart stays k₁ k₂ =
      let p = pair h e₁ mid e₂ apart in
      let l = p.leaves _ k₁ in
      let t = (p.goes_on stays).timestamp l.timestamp l.timestamp_held in
      let n = (p.goes_on stays).snapshot n₁ l.held in
      let w = above (p.by _ k₂).1 t.0 t.1 n.0 n.1 in
      let v₁ = l.version in
      let v₂ = w.0 in
      let low = t.3 in
      (omega arith, n.2.names n₂.names w.1)
    where
      above : {s : State} {c : Call} {n : Snapshot} → TrustedBy s c (a_snapshot n) → (t : Timestamp) → s.timestamp ≡ Some t
          → (h : Snapshot) → s.snapshot ≡ Some h → (n.version ≡ t.snapshot.version) × Keeps h.names n.names
      above (snapshot {n} g) t et h eh = (
        subst (λ (x : Timestamp). n.version ≡ x.snapshot.version) (one-held g.on.timestamp_held et) g.version,
        g.keeps h eh,
      )

  pub targets-rise : (g₁ g₂ : Targets) → Apart (happened h) e₁ mid e₂ → Unrotated mid → BecomesTrusted e₁ (a_targets g₁)
      → BecomesTrusted e₂ (a_targets g₂) → g₁.version ≤ g₂.version
  unfolding keep_targets
  targets-rise g₁ g₂ apart stays k₁ k₂ =
      let p = pair h e₁ mid e₂ apart in
      let l = p.leaves _ k₁ in
      let n = (p.goes_on stays).snapshot l.snapshot l.snapshot_held in
      let v₁ = l.version in
      let v₂ = above (p.by _ k₂).1 n.0 n.1 in
      let low = n.2.targets in
      omega arith
    where
      above : {s : State} {c : Call} {g : Targets} → TrustedBy s c (a_targets g) → (n : Snapshot) → s.snapshot ≡ Some n
          → g.version ≡ (targets_entry n).version
      above (targets {g = f} g) n e =
          subst (λ (x : Snapshot). f.version ≡ (targets_entry x).version) (one-held g.on.snapshot_held e) g.version
