-- A program whose functions keep their promises: its runs are histories, so the claim holds of them.
use mathlib.Core.Path.{◌≡◌, refl, sym, ap, ◌∙◌, subst}
use Rattle.std.specs.declared.option.Option.TheVariants.{Some}
use mathlib.Core.List.{List, [], ◌∷◌, map, Memᴰ}
use Prim.Native.Nat.{ℕ}
use Rattle.base.specs.Bytes.{Bytes}
use Rattle.rules.specs.State.{Root, State, Query, Call, new_root, new_timestamp, new_snapshot, new_targets, find, ask_key, ask_state}
use Rattle.rules.specs.Steps.{answer, offered, started, next, installed, Stepped}
use Rattle.rules.specs.Exactly.{RootRead}
use Rattle.rules.specs.History.{run, end, Event, begins, events, happened, RootTurn, Plan, after_roots, at_timestamp, at_snapshot, Honest, RootsThrough, Through}
use Rattle.history.specs.Program.{Step, Chained, after, calls_of, Run, last, history_of, event_of, Leg, RootLegs, after_legs, RootsAccepted, Carried, Accepted, Holds}
use Rattle.rules.proofs.NextLaws.{next-same}
use Rattle.history.proofs.Trusted.{read_next, read-installed}
use Rattle.history.proofs.Demand2.{demand2}
use Rattle.history.proofs.Demand3.{demand3}

-- a call that returns no state and answers as the rules say keeps its promise with the state that it was given
pub find-stepped : (s : State) (q : Query) (n : ℕ) → n ≡ answer s (find q) → Stepped s (find q) n s
unfolding offered started
find-stepped s q n a = record { answered = a; became = sym (next-same s (find q) refl refl) }

pub key-stepped : (s : State) (k : Bytes) (n : ℕ) → n ≡ answer s (ask_key k) → Stepped s (ask_key k) n s
unfolding offered started
key-stepped s k n a = record { answered = a; became = sym (next-same s (ask_key k) refl refl) }

pub state-stepped : (s : State) → Stepped s ask_state 0 s
unfolding offered started answer
state-stepped s = record { answered = refl; became = sym (next-same s ask_state refl refl) }

-- the publisher's half of demand 3, of a state
abbrev GetsThrough : State → Type 0
GetsThrough s = (held : Root) × (s.root ≡ Some held) × ((plan : Plan) → Honest s held plan → Through s held plan)

module _ (P : Type 0) (view : P → State) where
  -- ## Runs

  -- a step from a program's state p that is the state s
  module _ (s : State) (p : P) (is : view p ≡ s) (x : Step P view) (given : x.given ≡ p) where
    step_given : view x.given ≡ s
    step_given = ap view given ∙ is

    step-answers : x.answers ≡ answer s x.call
    step-answers = x.promise.answered ∙ ap (λ (y : State). answer y x.call) step_given

    step-became : view x.returned ≡ next s x.call
    step-became = x.promise.became ∙ ap (λ (y : State). next y x.call) step_given

  events_are : (s : State) (p : P) (xs : List (Step P view)) → view p ≡ s → Chained P view p xs
      → events s (calls_of P view xs) ≡ map (event_of P view) xs
  unfolding events
  events_are s p [] e c = refl
  events_are s p (x ∷ xs) e c =
      let rest = events_are (next s x.call) x.returned xs (step-became s p e x c.0) c.1 in
      rw (rest, step_given s p e x c.0)

  run_is : (s : State) (p : P) (xs : List (Step P view)) → view p ≡ s → Chained P view p xs
      → view (after P view p xs) ≡ run s (calls_of P view xs)
  unfolding run after
  run_is s p [] e c = e
  run_is s p (x ∷ xs) e c = run_is (next s x.call) x.returned xs (step-became s p e x c.0) c.1

  read_at : (p : P) → RootRead (view p) → (xs : List (Step P view)) → Chained P view p xs → (x : Step P view) → Memᴰ x xs
      → RootRead (view x.given)
  read_at p read [] c x m = elim m [ ]
  read_at p read (y ∷ ys) c x (Memᴰ.head q) =
      let same : p ≡ x.given = sym (ap (λ (z : Step P view). z.given) q ∙ c.0) in
      subst (λ (z : P). RootRead (view z)) same read
  read_at p read (y ∷ ys) c x (Memᴰ.tail m) =
      let became = step-became (view p) p refl y c.0 in
      read_at y.returned (subst RootRead (sym became) (read_next (view p) read y.call)) ys c.1 x m

  -- ## The publisher's plan

  module _ (s : State) (p : P) (is : view p ≡ s) (between : List Call) (c : Call) (l : Leg P view p between c) where
    leg_given : view (after P view p l.steps) ≡ run s between
    leg_given = run_is s p l.steps is l.chained ∙ ap (λ (cs : List Call). run s cs) l.these

    leg_answers : l.own.answers ≡ answer (run s between) c
    leg_answers =
        step-answers (run s between) (after P view p l.steps) leg_given l.own l.given
        ∙ ap (λ (x : Call). answer (run s between) x) l.is

    leg_became : view l.own.returned ≡ next (run s between) c
    leg_became =
        step-became (run s between) (after P view p l.steps) leg_given l.own l.given
        ∙ ap (λ (x : Call). next (run s between) x) l.is

  roots-accepted : (s : State) (p : P) → view p ≡ s → (xs : List RootTurn) (ls : RootLegs P view p xs) → RootsThrough s xs
      → RootsAccepted P view p xs ls × (view (after_legs P view p xs ls) ≡ after_roots s xs)
  unfolding after_roots
  roots-accepted s p is [] ls t = (tt, is)
  roots-accepted s p is (x ∷ xs) ls t =
      let call = new_root x.offer in
      let now = run s x.between in
      let more =
      roots-accepted (next now call) ls.0.own.returned (leg_became s p is x.between call ls.0) xs ls.1 t.1
      in
      ((leg_answers s p is x.between call ls.0 ∙ t.0, more.0), more.1)

  accepted : (p : P) (held : Root) (plan : Plan) → Through (view p) held plan → (c : Carried P view p plan) → Accepted P view p plan c
  accepted p held plan t c =
      let s = view p in
      let rs = roots-accepted s p refl plan.roots c.roots t.roots in
      let p₁ = after_legs P view p plan.roots c.roots in
      let s₁ = after_roots s plan.roots in
      let c₁ = new_timestamp plan.timestamp.offer in
      let b₁ = plan.timestamp.between in
      let s₂ = next (at_timestamp s plan) c₁ in
      let e₂ = leg_became s₁ p₁ rs.1 b₁ c₁ c.timestamp in
      let c₂ = new_snapshot plan.snapshot.offer in
      let b₂ = plan.snapshot.between in
      let s₃ = next (at_snapshot s plan) c₂ in
      let e₃ = leg_became s₂ c.timestamp.own.returned e₂ b₂ c₂ c.snapshot in
      let c₃ = new_targets plan.targets.offer in
      let b₃ = plan.targets.between in
      record {
        roots = rs.0;
        timestamp = leg_answers s₁ p₁ rs.1 b₁ c₁ c.timestamp ∙ t.timestamp;
        snapshot = leg_answers s₂ c.timestamp.own.returned e₂ b₂ c₂ c.snapshot ∙ t.snapshot;
        targets = leg_answers s₃ c.snapshot.own.returned e₃ b₃ c₃ c.targets ∙ t.targets;
        ends = leg_became s₃ c.snapshot.own.returned e₃ b₃ c₃ c.targets;
      }

  -- ## The claim

  pub program : (r : Run P view) → Holds P view r
  unfolding happened end
  program r =
      let s = installed r.install in
      let first = r.promise.became in
      let h = history_of P view r in
      let ends : view (last P view r) ≡ end h = run_is s r.first r.steps first r.chained in
      let claim = demand3 h in
      let publisher = subst GetsThrough (sym ends) claim.publisher in
      let read = subst RootRead (sym first) (read-installed r.install h.accepted) in
      record {
        these = ap (λ (es : List Event). begins r.install ∷ es) (events_are s r.first r.steps first r.chained);
        answered = λ x m. x.promise.answered;
        ends = ends;
        exactly = λ x m. demand2 (view x.given) (read_at r.first read r.steps r.chained x m);
        claim = claim;
        publisher = (publisher.0, publisher.1, λ plan honest. accepted (last P view r) publisher.0 plan (publisher.2 plan honest));
      }
