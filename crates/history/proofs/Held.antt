-- The state holds what the history says is held: of each role the file trusted last, unless a later accepted root dropped it. The
-- argument is made once, over a part of the state and what ends its being held.
use mathlib.Core.Path.{◌≡◌, refl, sym, ap, ◌∙◌, subst, subst₂}
use mathlib.Core.Logic.{◌↔◌, ◌⊎◌, inl, inr}
use mathlib.Core.Bool.{Bool, true, false}
use lib.IntN.{ℤ}
use Rattle.std.specs.declared.option.Option.{Option}
use Rattle.std.specs.declared.option.Option.TheVariants.{None, Some}
use mathlib.Core.List.{List, [], ◌∷◌, ◌++◌, Memᴰ, nil≢cons, head-eq_of_cons-eq, tail-eq_of_cons-eq}
use Rattle.base.proofs.TestLaws.{never}
use Rattle.rules.specs.State.{Root, Timestamp, Snapshot, Targets, State, Install, Call, new_root}
use Rattle.rules.specs.Conditions.{rotates, rotates_targets}
use Rattle.rules.specs.Steps.{drop_if, with_root, with_timestamp, with_snapshot, with_targets, next, install_answer, installed, root_alone, Item, a_root, a_timestamp, a_snapshot, a_targets, trusting}
use Rattle.rules.specs.Exactly.{RootRead}
use Rattle.rules.specs.History.{History, run, end, Event, begins, calls, events, happened, BecomesTrusted, at_install, replaces, Rotation, AnyRotation, LastOf, Another, AnotherOr}
use Rattle.rules.proofs.OptionLaws.{none-not-some}
use Rattle.rules.proofs.WordLaws.{rotates-exactly, rotates-targets-exactly}
use Rattle.rules.proofs.TableLaws.{one-held}
use Rattle.rules.proofs.ExactlyLaws.{root-after, timestamp-after, snapshot-after, targets-after, install-good, install-after}
use Rattle.history.proofs.Trusted.{TrustedBy, root, timestamp, snapshot, targets, trusted-by, by-trusted, one-trusted, trusted-next, SameRecords, idle-same, kind, read_next, read-installed}
use Rattle.history.proofs.Left.{left, left-installed}

-- ## Once, for any part of the state

-- what a call does to a part of the state: nothing, or it trusts a file for it, or it drops it
pub data Does {A : Type 0} (part : State → Option A) (item : A → Item) (Ends : Event → Type 0) (s : State) (c : Call) : Type 0 where
  stays : part (next s c) ≡ part s → ¬ Ends (calls s c) → Does part item Ends s c
  trusts : (a : A) → BecomesTrusted (calls s c) (item a) → part (next s c) ≡ Some a → Ends (calls s c) → Does part item Ends s c
  drops : part (next s c) ≡ None → Ends (calls s c) → Does part item Ends s c

-- a root is told from its item
one-root : {r r' : Root} → a_root r ≡ a_root r' → r ≡ r'
one-root e = cc

abbrev NoneEnds : (Event → Type 0) → List Event → Type 0
NoneEnds Ends es = (e : Event) → Memᴰ e es → ¬ Ends e

-- with one event more before
earlier : {es : List Event} {x : Item} {Ends : Event → Type 0} (e : Event) → LastOf es x Ends → LastOf (e ∷ es) x Ends
earlier e l =
    record {
      before = e ∷ l.before;
      at = l.at;
      after = l.after;
      split = ap (λ (es : List Event). e ∷ es) l.split;
      trusted = l.trusted;
      since = l.since;
    }

module _ {A : Type 0} (part : State → Option A) (item : A → Item) (Ends : Event → Type 0)
    (does : (s : State) → RootRead s → (c : Call) → Does part item Ends s c)
    (held : (s : State) → RootRead s → (c : Call) (a : A) → BecomesTrusted (calls s c) (item a) → part (next s c) ≡ Some a)
    (first : (o : Install) → install_answer o ≡ 0 → (a : A) → (part (installed o) ≡ Some a) ↔ BecomesTrusted (begins o) (item a)) where
  stays_at : (s : State) → RootRead s → (c : Call) → ¬ Ends (calls s c) → part (next s c) ≡ part s
  stays_at s read c f = go (does s read c)
    where
      go : Does part item Ends s c → part (next s c) ≡ part s
      go (stays same _) = same
      go (trusts a k e w) = absurd (f w)
      go (drops e w) = absurd (f w)

  stays-run : (s : State) → RootRead s → (cs : List Call) → NoneEnds Ends (events s cs) → part (run s cs) ≡ part s
  unfolding run events
  stays-run s read [] f = refl
  stays-run s read (c ∷ cs) f =
      stays-run (next s c) (read_next s read c) cs (λ e m. f e (Memᴰ.tail m))
      ∙ stays_at s read c (f (calls s c) (Memᴰ.head refl))

  -- the file trusted last is held
  last-held : (s : State) → RootRead s → (cs : List Call) (a : A) (before : List Event) (e : Event) (after : List Event)
      → events s cs ≡ before ++ (e ∷ after) → BecomesTrusted e (item a) → NoneEnds Ends after → part (run s cs) ≡ Some a
  unfolding run events
  last-held s read [] a [] e after q k f = absurd (nil≢cons q)
  last-held s read [] a (x ∷ before) e after q k f = absurd (nil≢cons q)
  last-held s read (c ∷ cs) a [] e after q k f =
      stays-run (next s c) (read_next s read c) cs (subst (λ (es : List Event). NoneEnds Ends es) (sym (tail-eq_of_cons-eq q)) f)
      ∙ held s read c a (subst (λ (x : Event). BecomesTrusted x (item a)) (sym (head-eq_of_cons-eq q)) k)
  last-held s read (c ∷ cs) a (x ∷ before) e after q k f =
      last-held (next s c) (read_next s read c) cs a before e after (tail-eq_of_cons-eq q) k f

  -- what is held was trusted last, or was held at first
  abbrev Since : State → List Call → A → Type 0
  Since s cs a = LastOf (events s cs) (item a) Ends ⊎ ((part s ≡ Some a) × NoneEnds Ends (events s cs))

  back : (s : State) → RootRead s → (c : Call) (cs : List Call) (a : A) → Since (next s c) cs a → Since s (c ∷ cs) a
  unfolding events
  back s read c cs a (inl l) = inl (earlier (calls s c) l)
  back s read c cs a (inr (e, f)) = go (does s read c)
    where
      none-ends : ¬ Ends (calls s c) → NoneEnds Ends (events s (c ∷ cs))
      none-ends g x (Memᴰ.head q) = λ z. g (subst Ends q z)
      none-ends g x (Memᴰ.tail m) = f x m

      go : Does part item Ends s c → Since s (c ∷ cs) a
      go (stays same g) = inr (sym same ∙ e, none-ends g)
      go (trusts b k now _) =
          inl
          (record {
            before = [];
            at = calls s c;
            after = events (next s c) cs;
            split = refl;
            trusted = subst (λ (x : A). BecomesTrusted (calls s c) (item x)) (one-held now e) k;
            since = f;
          })
      go (drops now _) = none-not-some (sym now ∙ e)

  held-since : (s : State) → RootRead s → (cs : List Call) (a : A) → part (run s cs) ≡ Some a → Since s cs a
  unfolding run events
  held-since s read [] a e = inr (e, λ x m. elim m [ ])
  held-since s read (c ∷ cs) a e = back s read c cs a (held-since (next s c) (read_next s read c) cs a e)

  pub held-exactly : (h : History) (a : A) → (part (end h) ≡ Some a) ↔ LastOf (happened h) (item a) Ends
  unfolding end happened
  held-exactly h a = (λ e. to (held-since s₀ read₀ h.calls a e), λ l. from l l.before l.split)
    where
      s₀ : State
      s₀ = installed h.install

      read₀ : RootRead s₀
      read₀ = read-installed h.install h.accepted

      to : Since s₀ h.calls a → LastOf (begins h.install ∷ events s₀ h.calls) (item a) Ends
      to (inl l) = earlier (begins h.install) l
      to (inr (e, f)) =
          record {
            before = [];
            at = begins h.install;
            after = events s₀ h.calls;
            split = refl;
            trusted = (first h.install h.accepted a).0 e;
            since = f;
          }

      from : (l : LastOf (begins h.install ∷ events s₀ h.calls) (item a) Ends) (before : List Event)
          → begins h.install ∷ events s₀ h.calls ≡ before ++ (l.at ∷ l.after) → part (run s₀ h.calls) ≡ Some a
      from l [] q =
          stays-run s₀ read₀ h.calls (subst (λ (es : List Event). NoneEnds Ends es) (sym (tail-eq_of_cons-eq q)) l.since)
          ∙ (first h.install h.accepted a).1
          (subst (λ (x : Event). BecomesTrusted x (item a)) (sym (head-eq_of_cons-eq q)) l.trusted)
      from l (x ∷ before) q =
          last-held s₀ read₀ h.calls a before l.at l.after (tail-eq_of_cons-eq q) l.trusted l.since

-- ## The root

module _ (s : State) (read : RootRead s) where
  root-trusted : {c : Call} {x : Item} → TrustedBy s c x → Does (λ s. s.root) a_root (Another a_root) s c
  unfolding with_timestamp with_snapshot with_targets
  root-trusted (root {r} g) = let k = by-trusted (root g) in trusts r k (left (root g)) (r, k)
  root-trusted (timestamp {o} {t} g) =
      stays (ap (λ (x : State). x.root) (timestamp-after s o t g)) (λ w. elim (trusted-by s read w.1) [ ])
  root-trusted (snapshot {o} {n} g) =
      stays (ap (λ (x : State). x.root) (snapshot-after s o n g)) (λ w. elim (trusted-by s read w.1) [ ])
  root-trusted (targets {o} {g = f} g) =
      stays (ap (λ (x : State). x.root) (targets-after s o f g)) (λ w. elim (trusted-by s read w.1) [ ])

  root_does : (c : Call) → Does (λ s. s.root) a_root (Another a_root) s c
  root_does c = elim (kind s read c) [ inl k ↦ root-trusted k.1 | inr i ↦ stays (idle-same s c i).root (λ w. i _ w.1) ]

-- ## The parts that an accepted root can drop

-- what a file that becomes trusted is to a part of the state: one of its own, or a root, or another one, which leaves it as it is
data Touches {A : Type 0} (part : State → Option A) (item : A → Item) (s : State) (x : Item) : Type 0 where
  own : (a : A) → x ≡ item a → Touches part item s x
  is_root : (r : Root) → x ≡ a_root r → ((a : A) → ¬ (x ≡ item a)) → Touches part item s x
  other : part (trusting s x) ≡ part s → ((a : A) → ¬ (x ≡ item a)) → ((r : Root) → ¬ (x ≡ a_root r)) → Touches part item s x

-- an accepted root drops the part exactly where it differs
module _ {A : Type 0} (part : State → Option A) (item : A → Item) (Differs : Root → Root → Type 0) (test : Root → Root → Bool)
    (exactly : (old new : Root) → (test old new ≡ true) ↔ Differs old new)
    (dropped : (s : State) (old new : Root) → part (with_root s old new) ≡ drop_if (test old new) (part s))
    (touches : (s : State) (x : Item) → Touches part item s x)
    (held : (s : State) → RootRead s → (c : Call) (a : A) → BecomesTrusted (calls s c) (item a) → part (next s c) ≡ Some a)
    (idle : (s : State) (c : Call) → SameRecords s (next s c) → part (next s c) ≡ part s) (s : State) (read : RootRead s) where
  -- neither a file of the role nor a root becomes trusted
  alone : {c : Call} → part (next s c) ≡ part s → ((a : A) → ¬ BecomesTrusted (calls s c) (item a))
      → ((r : Root) → ¬ BecomesTrusted (calls s c) (a_root r)) → Does part item (AnotherOr item Differs) s c
  alone {c} same f g = stays same no
    where
      no : ¬ AnotherOr item Differs (calls s c)
      no (inl w) = f w.0 w.1
      no (inr (replaces {new} _ k _)) = g new k

  root_does-to : {c : Call} {r : Root} → ((a : A) → ¬ BecomesTrusted (calls s c) (item a)) → TrustedBy s c (a_root r)
      → Does part item (AnotherOr item Differs) s c
  root_does-to f (root {o} {r} g) = go (test g.held r) refl
    where
      now : part (next s (new_root o)) ≡ drop_if (test g.held r) (part s)
      now = ap part (root-after s o r g) ∙ dropped s g.held r

      unchanged : test g.held r ≡ false → ¬ AnotherOr item Differs (calls s (new_root o))
      unchanged q (inl w) = f w.0 w.1
      unchanged q (inr (replaces {old} {new} h k d)) =
          let old-is : old ≡ g.held = one-held h g.is_held in
          let new_is : new ≡ r = one-root (one-trusted k (by-trusted (root g))) in
          never (sym ((exactly g.held r).1 (subst₂ Differs old-is new_is d)) ∙ q)

      go : (b : Bool) → test g.held r ≡ b → Does part item (AnotherOr item Differs) s (new_root o)
      go true q = drops (now ∙ rw q) (inr (replaces g.is_held (by-trusted (root g)) ((exactly g.held r).0 q)))
      go false q = stays (now ∙ rw q) (unchanged q)

  trusted_does : {c : Call} {x : Item} → TrustedBy s c x → Touches part item s x → Does part item (AnotherOr item Differs) s c
  trusted_does {c} k (own a e) =
      let k' = subst (λ y. BecomesTrusted (calls s c) y) e (by-trusted k) in
      trusts a k' (held s read c a k') (inl (a, k'))
  trusted_does {c} k (is_root r e f) =
      root_does-to (λ a k'. f a (one-trusted (by-trusted k) k')) (subst (λ y. TrustedBy s c y) e k)
  trusted_does k (other same f g) =
      alone (ap part (trusted-next k) ∙ same) (λ a k'. f a (one-trusted (by-trusted k) k')) (λ r k'. g r (one-trusted (by-trusted k) k'))

  part-does : (c : Call) → Does part item (AnotherOr item Differs) s c
  part-does c =
      elim (kind s read c) [
        | inl k ↦ trusted_does k.1 (touches s k.0)
        | inr i ↦ alone (idle s c (idle-same s c i)) (λ a. i (item a)) (λ r. i (a_root r))
      ]

timestamp-touches : (s : State) (x : Item) → Touches (λ s. s.timestamp) a_timestamp s x
unfolding trusting with_snapshot with_targets
timestamp-touches s (a_root r) = is_root r refl (λ a e. never (cc))
timestamp-touches s (a_timestamp t) = own t refl
timestamp-touches s (a_snapshot n) = other refl (λ a e. never (cc)) (λ r e. never (cc))
timestamp-touches s (a_targets g) = other refl (λ a e. never (cc)) (λ r e. never (cc))

snapshot_touches : (s : State) (x : Item) → Touches (λ s. s.snapshot) a_snapshot s x
unfolding trusting with_timestamp with_targets
snapshot_touches s (a_root r) = is_root r refl (λ a e. never (cc))
snapshot_touches s (a_timestamp t) = other refl (λ a e. never (cc)) (λ r e. never (cc))
snapshot_touches s (a_snapshot n) = own n refl
snapshot_touches s (a_targets g) = other refl (λ a e. never (cc)) (λ r e. never (cc))

targets_touches : (s : State) (x : Item) → Touches (λ s. s.targets) a_targets s x
unfolding trusting with_timestamp with_snapshot
targets_touches s (a_root r) = is_root r refl (λ a e. never (cc))
targets_touches s (a_timestamp t) = other refl (λ a e. never (cc)) (λ r e. never (cc))
targets_touches s (a_snapshot n) = other refl (λ a e. never (cc)) (λ r e. never (cc))
targets_touches s (a_targets g) = own g refl

-- ## What an accepted install leaves: its root, and nothing else

first-root : (o : Install) → install_answer o ≡ 0 → (r : Root) → ((installed o).root ≡ Some r) ↔ BecomesTrusted (begins o) (a_root r)
unfolding root_alone
first-root o a r =
    let w = install-good o a in
    let g = w.1 in
    let now = ap (λ (x : State). x.root) (install-after o w.0 g.entries g.reads a) in (
      λ e. subst (λ (x : Root). BecomesTrusted (begins o) (a_root x)) (one-held now e) (at_install g.reads a),
      λ k. left-installed k,
    )

install-state : (o : Install) → install_answer o ≡ 0 → (r : Root) × (installed o ≡ root_alone r o.start)
install-state o a = let w = install-good o a in (w.0, install-after o w.0 w.1.entries w.1.reads a)

-- ## After a whole history

pub root-held : (h : History) (r : Root) → ((end h).root ≡ Some r) ↔ LastOf (happened h) (a_root r) (Another a_root)
root-held =
    held-exactly (λ s. s.root) a_root (Another a_root) root_does (λ s read c a k. left (trusted-by s read k)) first-root

module _ {A : Type 0} (part : State → Option A) (item : A → Item) (Differs : Root → Root → Type 0) (test : Root → Root → Bool)
    (exactly : (old new : Root) → (test old new ≡ true) ↔ Differs old new)
    (dropped : (s : State) (old new : Root) → part (with_root s old new) ≡ drop_if (test old new) (part s))
    (touches : (s : State) (x : Item) → Touches part item s x)
    (held : (s : State) → RootRead s → (c : Call) (a : A) → BecomesTrusted (calls s c) (item a) → part (next s c) ≡ Some a)
    (idle : (s : State) (c : Call) → SameRecords s (next s c) → part (next s c) ≡ part s)
    (first : (r : Root) (start : ℤ) → part (root_alone r start) ≡ None)
    (no : (o : Install) (a : A) → ¬ BecomesTrusted (begins o) (item a)) where
  part_held : (h : History) (a : A) → (part (end h) ≡ Some a) ↔ LastOf (happened h) (item a) (AnotherOr item Differs)
  part_held =
      held-exactly part item (AnotherOr item Differs) (part-does part item Differs test exactly dropped touches held idle) held
      (λ o ok a. (
        λ e. let w = install-state o ok in none-not-some (sym (ap part w.1 ∙ first w.0 o.start) ∙ e),
        λ k. absurd (no o a k),
      ))

pub timestamp-held : (h : History) (t : Timestamp) → ((end h).timestamp ≡ Some t)
    ↔ LastOf (happened h) (a_timestamp t) (AnotherOr a_timestamp Rotation)
unfolding with_root root_alone
timestamp-held =
    part_held (λ s. s.timestamp) a_timestamp Rotation rotates rotates-exactly (λ s old new. refl) timestamp-touches
    (λ s read c a k. left (trusted-by s read k)) (λ s c e. e.timestamp) (λ r start. refl) (λ o a k. elim k [ ])

pub snapshot-held : (h : History) (n : Snapshot) → ((end h).snapshot ≡ Some n)
    ↔ LastOf (happened h) (a_snapshot n) (AnotherOr a_snapshot Rotation)
unfolding with_root root_alone
snapshot-held =
    part_held (λ s. s.snapshot) a_snapshot Rotation rotates rotates-exactly (λ s old new. refl) snapshot_touches
    (λ s read c a k. (left (trusted-by s read k)).held) (λ s c e. e.snapshot) (λ r start. refl) (λ o a k. elim k [ ])

pub targets-held : (h : History) (g : Targets) → ((end h).targets ≡ Some g)
    ↔ LastOf (happened h) (a_targets g) (AnotherOr a_targets AnyRotation)
unfolding with_root root_alone
targets-held =
    part_held (λ s. s.targets) a_targets AnyRotation rotates_targets rotates-targets-exactly (λ s old new. refl) targets_touches
    (λ s read c a k. (left (trusted-by s read k)).held) (λ s c e. e.targets) (λ r start. refl) (λ o a k. elim k [ ])
