-- Demand 3, proved: one claim about every history.
use mathlib.Core.Path.{◌≡◌, refl, ap, ◌∙◌, subst, subst₂}
use mathlib.Core.Logic.{◌↔◌}
use Rattle.std.specs.declared.option.Option.TheVariants.{Some}
use mathlib.Core.List.{List, [], ◌∷◌, ◌++◌, Memᴰ}
use Prim.Native.Nat.{◌+◌}
use Rattle.date.proofs.OrderLaws.{≤ℤ_trans}
use Rattle.base.specs.Bytes.{Bytes}
use Rattle.base.proofs.TestLaws.{never}
use Rattle.rules.specs.Records.{Read, says}
use Rattle.rules.specs.State.{Root, State, root_in, RootOffer, Call, new_root}
use Rattle.rules.specs.Steps.{installed, root_alone, next, a_root}
use Rattle.rules.specs.Words.{GoodRow, Enough}
use Rattle.rules.specs.Exactly.{RootRead}
use Rattle.rules.specs.History.{History, run, end, Event, begins, calls, events, happened, BecomesTrusted, Apart, up_to, Demand3}
use Rattle.rules.proofs.TableLaws.{one-held}
use Rattle.rules.proofs.KeyidLaws.{one_key_lem}
use Rattle.rules.proofs.ExactlyLaws.{install-good, install-after}
use Rattle.history.proofs.Trusted.{TrustedBy, root, trusted-by, by-trusted, read_next, read-installed}
use Rattle.history.proofs.Keyids.{own-keyids}
use Rattle.history.proofs.Versions.{trusted-versions}
use Rattle.history.proofs.Clock.{latest}
use Rattle.history.proofs.Falls.{Rising, rising_refl, rising_trans, rising, clock-rises, roots-rise, timestamps-rise, snapshots-rise, targets-rise}
use Rattle.history.proofs.Held.{root-held, timestamp-held, snapshot-held, targets-held}
use Rattle.history.proofs.Publisher.{through}

-- ## Each call is given the end of the history before it

given-at : (s : State) (before : List Call) (c : Call) (after : List Call)
    → events s (before ++ (c ∷ after)) ≡ events s before ++ (calls (run s before) c ∷ events (next (run s before) c) after)
unfolding events run
given-at s [] c after = refl
given-at s (b ∷ before) c after = ap (λ (es : List Event). calls s b ∷ es) (given-at (next s b) before c after)

given : (h : History) (before : List Call) (c : Call) (after : List Call) → h.calls ≡ before ++ (c ∷ after)
    → (rest : List Event) × (happened h ≡ happened (up_to h before) ++ (calls (end (up_to h before)) c ∷ rest))
unfolding happened end
given h before c after q =
    let s = installed h.install in (
      events (next (run s before) c) after,
      ap (λ (es : List Event). begins h.install ∷ es) (ap (λ (cs : List Call). events s cs) q ∙ given-at s before c after),
    )

-- two calls of a history, with what happened between them
pub apart-at : (h : History) (before : List Call) (c : Call) (between : List Call) (d : Call) (after : List Call)
    → h.calls ≡ before ++ (c ∷ (between ++ (d ∷ after)))
    → Apart (happened h) (calls (run (installed h.install) before) c)
    (events (next (run (installed h.install) before) c) between)
    (calls (run (next (run (installed h.install) before) c) between) d)
unfolding happened
apart-at h before c between d after q =
    let s = installed h.install in
    let s' = next (run s before) c in
    let rest = given-at s' between d after in
    record {
      before = begins h.install ∷ events s before;
      after = events (next (run s' between) d) after;
      split =
          ap (λ (es : List Event). begins h.install ∷ es)
          (ap (λ (cs : List Call). events s cs) q
          ∙ given-at s before c (between ++ (d ∷ after))
          ∙ ap (λ (es : List Event). events s before ++ (calls (run s before) c ∷ es)) rest);
    }

-- ## A root is always held, and was read

rising-run : (s : State) → RootRead s → (cs : List Call) → Rising s (run s cs)
unfolding run
rising-run s read [] = rising_refl s
rising-run s read (c ∷ cs) = rising_trans (rising s read c) (rising-run (next s c) (read_next s read c) cs)

-- the state that a call of a history was given
record Reached (s₀ s : State) : Type 0 where
  rises : Rising s₀ s
  read : RootRead s

reached : (s₀ : State) → RootRead s₀ → (cs : List Call) (s : State) (c : Call) → Memᴰ (calls s c) (events s₀ cs) → Reached s₀ s
unfolding events
reached s₀ read [] s c m = elim m [ ]
reached s₀ read (b ∷ cs) s c (Memᴰ.head q) =
    let same : s₀ ≡ s = cc in
    subst (λ (x : State). Reached s₀ x) same (record { rises = rising_refl s₀; read = read })
reached s₀ read (b ∷ cs) s c (Memᴰ.tail m) =
    let r = reached (next s₀ b) (read_next s₀ read b) cs s c m in
    record { rises = rising_trans (rising s₀ read b) r.rises; read = r.read }

-- a call is not the install
in_events : (h : History) (s : State) (c : Call) → Memᴰ (calls s c) (happened h)
    → Memᴰ (calls s c) (events (installed h.install) h.calls)
unfolding happened
in_events h s c (Memᴰ.head q) = never (cc)
in_events h s c (Memᴰ.tail m) = m

-- ## The next root

one-entries : {A : Type 0} {rd : Read A} {a b : A} {es fs : List Bytes} → rd ≡ says a es → rd ≡ says b fs → es ≡ fs
one-entries p q = cc

root-exactly : (s : State) → RootRead s → (held : Root) → s.root ≡ Some held → (o : RootOffer) (r : Root) (es : List Bytes)
    → root_in o.file ≡ says r es → GoodRow es o.held_row → GoodRow es o.own_row
    → BecomesTrusted (calls s (new_root o)) (a_root r)
    ↔ ((r.version ≡ held.version + 1) × Enough held.root_role es o.held_row × Enough r.root_role es o.own_row)
root-exactly s read held e o r es reads held_row own_row = (
  λ k. to (trusted-by s read k),
  λ w.
      by-trusted
      (root
      (record {
        entries = es;
        reads = reads;
        held_row = held_row;
        own_row = own_row;
        held = held;
        is_held = e;
        held_keys = w.1;
        own_keys = w.2;
        version = w.0;
      })),
)
  where
    to : TrustedBy s (new_root o) (a_root r)
        → (r.version ≡ held.version + 1) × Enough held.root_role es o.held_row × Enough r.root_role es o.own_row
    to (root g) =
        let one : g.held ≡ held = one-held g.is_held e in
        let row : g.entries ≡ es = one-entries g.reads reads in (
          subst (λ (x : Root). r.version ≡ x.version + 1) one g.version,
          subst₂ (λ (x : Root) (y : List Bytes). Enough x.root_role y o.held_row) one row g.held_keys,
          subst (λ (y : List Bytes). Enough r.root_role y o.own_row) row g.own_keys,
        )

-- ## The claim

pub demand3 : (h : History) → Demand3 h
unfolding end root_alone
demand3 h =
    let s = installed h.install in
    let read = read-installed h.install h.accepted in
    let w = install-good h.install h.accepted in
    let first : s.root ≡ Some w.0 =
    ap (λ (x : State). x.root) (install-after h.install w.0 w.1.entries w.1.reads h.accepted)
    in
    let last = (rising-run s read h.calls).root w.0 first in
    record {
      given = given h;
      held_root = root-held h;
      held_timestamp = timestamp-held h;
      held_snapshot = snapshot-held h;
      held_targets = targets-held h;
      keyids = λ e r m t. own-keyids t;
      one_key = λ e₁ e₂ r₁ r₂ m₁ m₂ t₁ t₂ k l i j. one_key_lem k l (own-keyids t₁ k i) (own-keyids t₂ l j);
      versions = λ e x m t. trusted-versions t;
      latest = latest h;
      clock_rises = λ e₁ e₂ mid. clock-rises h e₁ e₂ mid;
      stays_expired =
          λ s₁ s₂ c₁ c₂ mid x apart found fresh.
          fresh.fresh (≤ℤ_trans found.expired (clock-rises h (calls s₁ c₁) (calls s₂ c₂) mid apart));
      root_exactly =
          λ s' o r es m reads held_row own_row.
          let at = reached s read h.calls s' (new_root o) (in_events h s' (new_root o) m) in
          let held = at.rises.root w.0 first in
          (held.0, held.1, root-exactly s' at.read held.0 held.1 o r es reads held_row own_row);
      roots_rise = λ e₁ e₂ mid. roots-rise h e₁ e₂ mid;
      timestamps_rise = λ e₁ e₂ mid. timestamps-rise h e₁ e₂ mid;
      snapshots_rise = λ e₁ e₂ mid. snapshots-rise h e₁ e₂ mid;
      targets_rise = λ e₁ e₂ mid. targets-rise h e₁ e₂ mid;
      publisher = (last.0, last.1, through (end h) last.0 last.1);
    }
