-- The clock (A8). Every call keeps the start time in force or sets a later one, so the one in force is the latest of all that were set.
use mathlib.Core.Path.{◌≡◌, refl, sym, ap, ◌∙◌, subst}
use mathlib.Core.Logic.{◌⊎◌, inl, inr}
use Rattle.std.specs.declared.option.Option.{Option}
use Rattle.std.specs.declared.option.Option.TheVariants.{None, Some}
use mathlib.Core.List.{List, [], ◌∷◌, Memᴰ}
use native.Mathlib.Decide.{ℕ_discrete}
use lib.IntN.{ℤ}
use lib.Signed.{◌≤ℤ◌, ≤ℤ_refl}
use Rattle.date.proofs.OrderLaws.{≤ℤ_trans}
use Rattle.rules.specs.State.{Root, State, Install, Call, new_cycle, new_root, new_timestamp, new_snapshot, new_targets, find, ask_key, ask_state}
use Rattle.rules.specs.Steps.{answer, next, install_answer, installed, root_alone, with_start, with_root, with_timestamp, with_snapshot, with_targets, Item, a_root, a_timestamp, a_snapshot, a_targets, after_root, trusting, trusting_if, offered, started, accepted}
use Rattle.rules.specs.History.{History, run, end, Event, begins, calls, events, happened, Sets, by_install, by_cycle, Latest}
use Rattle.rules.proofs.NextLaws.{next-accepted, next-refused}
use Rattle.rules.proofs.ExactlyLaws.{cycle-good, cycle-after, install-good, install-after}

-- ## One call

-- a file that becomes trusted leaves the start time
trusting-start : (s : State) (x : Item) → (trusting s x).start ≡ s.start
unfolding trusting after_root with_root with_timestamp with_snapshot with_targets
trusting-start s (a_root r) = go s.root
  where
    go : (o : Option Root) → (after_root s o r).start ≡ s.start
    go None = refl
    go (Some old) = refl
trusting-start s (a_timestamp t) = refl
trusting-start s (a_snapshot n) = refl
trusting-start s (a_targets g) = refl

accepted-start : (s : State) (c : Call) → (accepted s c).start ≡ (started s c).start
unfolding accepted trusting_if
accepted-start s c = go (offered c)
  where
    go : (o : Option Item) → (trusting_if (started s c) o).start ≡ (started s c).start
    go None = refl
    go (Some x) = trusting-start (started s c) x

-- a call leaves the start time, or it is an accepted cycle
start-next : (s : State) (c : Call) → ((next s c).start ≡ s.start) ⊎ Sets (calls s c) (next s c).start
unfolding started with_start
start-next s c = elim (ℕ_discrete (answer s c) 0) [ yes a ↦ go c a | no f ↦ inl (ap (λ (x : State). x.start) (next-refused s c f)) ]
  where
    now : (c : Call) → answer s c ≡ 0 → (next s c).start ≡ (started s c).start
    now c a = ap (λ (x : State). x.start) (next-accepted s c a) ∙ accepted-start s c

    go : (c : Call) → answer s c ≡ 0 → ((next s c).start ≡ s.start) ⊎ Sets (calls s c) (next s c).start
    go (new_cycle t) a = inr (subst (λ (u : ℤ). Sets (calls s (new_cycle t)) u) (sym (now (new_cycle t) a)) (by_cycle a))
    go (new_root o) a = inl (now (new_root o) a)
    go (new_timestamp o) a = inl (now (new_timestamp o) a)
    go (new_snapshot o) a = inl (now (new_snapshot o) a)
    go (new_targets o) a = inl (now (new_targets o) a)
    go (find q) a = inl (now (find q) a)
    go (ask_key k) a = inl (now (ask_key k) a)
    go ask_state a = inl (now ask_state a)

-- the start time that a cycle sets is in force after it, and not before the one that was
set_now : {s : State} {c : Call} {t : ℤ} → Sets (calls s c) t → ((next s c).start ≡ t) × (s.start ≤ℤ t)
unfolding with_start
set_now (by_cycle {s} {t} a) = let l = cycle-good s t a in (ap (λ (x : State). x.start) (cycle-after s t l), l)

pub clock-next : (s : State) (c : Call) → s.start ≤ℤ (next s c).start
clock-next s c =
    elim (start-next s c) [
      | inl e ↦ subst (λ (t : ℤ). s.start ≤ℤ t) (sym e) (≤ℤ_refl s.start)
      | inr w ↦ (set_now w).1
    ]

pub clock-installed : (o : Install) → install_answer o ≡ 0 → (installed o).start ≡ o.start
unfolding root_alone
clock-installed o a =
    let w = install-good o a in
    ap (λ (x : State). x.start) (install-after o w.0 w.1.entries w.1.reads a)

-- ## Along a history

-- of any calls from any state, the blank one included
pub clock-run : (s : State) (cs : List Call) → s.start ≤ℤ (run s cs).start
unfolding run
clock-run s [] = ≤ℤ_refl s.start
clock-run s (c ∷ cs) = ≤ℤ_trans (clock-next s c) (clock-run (next s c) cs)

-- a start time that was set is not after the last one
set_before : (s : State) (cs : List Call) (e : Event) (t : ℤ) → Memᴰ e (events s cs) → Sets e t → t ≤ℤ (run s cs).start
unfolding run events
set_before s [] e t m w = elim m [ ]
set_before s (c ∷ cs) e t (Memᴰ.head q) w =
    subst (λ (u : ℤ). u ≤ℤ (run (next s c) cs).start) (set_now (subst (λ (x : Event). Sets x t) q w)).0 (clock-run (next s c) cs)
set_before s (c ∷ cs) e t (Memᴰ.tail m) w = set_before (next s c) cs e t m w

-- the last one is the first, or was set
last_set : (s : State) (cs : List Call) → ((run s cs).start ≡ s.start) ⊎ ((e : Event) × Memᴰ e (events s cs) × Sets e (run s cs).start)
unfolding run events
last_set s [] = inl refl
last_set s (c ∷ cs) = go (last_set (next s c) cs) (start-next s c)
  where
    go : ((run (next s c) cs).start ≡ (next s c).start) ⊎ ((e : Event) × Memᴰ e (events (next s c) cs) × Sets e (run (next s c) cs).start)
        → ((next s c).start ≡ s.start) ⊎ Sets (calls s c) (next s c).start
        → ((run s (c ∷ cs)).start ≡ s.start) ⊎ ((e : Event) × Memᴰ e (events s (c ∷ cs)) × Sets e (run s (c ∷ cs)).start)
    go (inl e) (inl f) = inl (e ∙ f)
    go (inl e) (inr w) = inr (calls s c, Memᴰ.head refl, subst (λ (t : ℤ). Sets (calls s c) t) (sym e) w)
    go (inr w) f = inr (w.0, Memᴰ.tail w.1, w.2)

pub latest : (h : History) → Latest (happened h) (end h).start
unfolding end happened
latest h = go (last_set s₀ h.calls)
  where
    s₀ : State
    s₀ = installed h.install

    first : s₀.start ≡ h.install.start
    first = clock-installed h.install h.accepted

    by-install : {o : Install} {t : ℤ} → Sets (begins o) t → o.start ≡ t
    by-install (by_install a) = refl

    later : (e : Event) (t : ℤ) → Memᴰ e (begins h.install ∷ events s₀ h.calls) → Sets e t → t ≤ℤ (run s₀ h.calls).start
    later e t (Memᴰ.head q) w =
        subst (λ (u : ℤ). u ≤ℤ (run s₀ h.calls).start) (first ∙ by-install (subst (λ (x : Event). Sets x t) q w)) (clock-run s₀ h.calls)
    later e t (Memᴰ.tail m) w = set_before s₀ h.calls e t m w

    go : ((run s₀ h.calls).start ≡ s₀.start) ⊎ ((e : Event) × Memᴰ e (events s₀ h.calls) × Sets e (run s₀ h.calls).start)
        → Latest (begins h.install ∷ events s₀ h.calls) (run s₀ h.calls).start
    go (inl e) =
        record {
          at = begins h.install;
          among = Memᴰ.head refl;
          had = subst (λ (t : ℤ). Sets (begins h.install) t) (sym (e ∙ first)) (by_install h.accepted);
          none_later = later;
        }
    go (inr w) = record { at = w.0; among = Memᴰ.tail w.1; had = w.2; none_later = later }
