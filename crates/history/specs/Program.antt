-- From the rules to a program. A program keeps states of a type of its own, P, of which `view` says what trusted state they are, and the
-- contracts of its functions promise `Began` and `Stepped` of each call. The claim about its runs is the record `Holds`; the law `program`
-- proves it of every such program.
use Rattle.std.specs.Prelude.{◌≡◌, ℕ}
use Rattle.std.proofs.Common.{sym, ◌∙◌}
use Rattle.std.specs.declared.option.Option.TheVariants.{Some}
use mathlib.Core.List.{List, [], ◌∷◌, map, Memᴰ}
use Rattle.rules.specs.State.{Root, State, Install, Call, new_root, new_timestamp, new_snapshot, new_targets}
use Rattle.rules.specs.Steps.{answer, Began, Stepped}
use Rattle.rules.specs.Exactly.{Demand2}
use Rattle.rules.specs.History.{History, end, Event, begins, calls, happened, RootTurn, Plan, at_end, Honest, Demand3}

module _ (P : Type 0) (view : P → State) where
  -- ## A run of the program

  -- one call, with what the contract of its function promises; a call that returns no state passes on the one that it was given
  pub record Step : Type 0 where
    pub given : P
    pub call : Call
    pub answers : ℕ
    pub returned : P
    pub promise : Stepped (view given) call answers (view returned)

  -- "The first is given the state that install returned, each later one the state the call before returned"
  abbrev pub Chained : P → List Step → Type 0
  Chained p [] = Unit {0}
  Chained p (x ∷ xs) = (x.given ≡ p) × Chained x.returned xs

  unfoldable pub after : P → List Step → P
  after p [] = p
  after p (x ∷ xs) = after x.returned xs

  abbrev pub calls_of : List Step → List Call
  calls_of xs = map (λ (x : Step). x.call) xs

  -- an accepted install and the calls after it
  pub record Run : Type 0 where
    pub install : Install
    pub answers : ℕ
    pub first : P
    pub promise : Began install answers (view first)
    pub accepted : answers ≡ 0
    pub steps : List Step
    pub chained : Chained first steps

  abbrev pub last : Run → P
  last r = after r.first r.steps

  abbrev pub history_of : Run → History
  history_of r =
      record { install = r.install; accepted = sym r.promise.answered ∙ r.accepted; calls = calls_of r.steps }

  abbrev pub event_of : Step → Event
  event_of x = calls (view x.given) x.call

  -- ## A publisher's plan, carried out in the program

  -- one of the publisher's calls from the state p on, after what comes between
  pub record Leg (p : P) (between : List Call) (c : Call) : Type 0 where
    pub steps : List Step
    pub chained : Chained p steps
    pub these : calls_of steps ≡ between
    pub own : Step
    pub given : own.given ≡ after p steps
    pub is : own.call ≡ c

  abbrev pub RootLegs : P → List RootTurn → Type 0
  RootLegs p [] = Unit {0}
  RootLegs p (x ∷ xs) = (l : Leg p x.between (new_root x.offer)) × RootLegs l.own.returned xs

  abbrev pub after_legs : (p : P) (xs : List RootTurn) → RootLegs p xs → P
  after_legs p [] ls = p
  after_legs p (x ∷ xs) ls = after_legs ls.0.own.returned xs ls.1

  abbrev pub RootsAccepted : (p : P) (xs : List RootTurn) → RootLegs p xs → Type 0
  RootsAccepted p [] ls = Unit {0}
  RootsAccepted p (x ∷ xs) ls = (ls.0.own.answers ≡ 0) × RootsAccepted ls.0.own.returned xs ls.1

  pub record Carried (p : P) (plan : Plan) : Type 0 where
    pub roots : RootLegs p plan.roots
    pub timestamp : Leg (after_legs p plan.roots roots) plan.timestamp.between (new_timestamp plan.timestamp.offer)
    pub snapshot : Leg timestamp.own.returned plan.snapshot.between (new_snapshot plan.snapshot.offer)
    pub targets : Leg snapshot.own.returned plan.targets.between (new_targets plan.targets.offer)

  -- "Then each of the publisher's calls answers 0"
  pub record Accepted (p : P) (plan : Plan) (c : Carried p plan) : Type 0 where
    pub roots : RootsAccepted p plan.roots c.roots
    pub timestamp : c.timestamp.own.answers ≡ 0
    pub snapshot : c.snapshot.own.answers ≡ 0
    pub targets : c.targets.own.answers ≡ 0
    pub ends : view c.targets.own.returned ≡ at_end (view p) plan

  -- ## The claim

  pub record Holds (r : Run) : Type 0 where
    -- what happens in the program is a history, with the program's states and answers
    pub these : happened (history_of r) ≡ begins r.install ∷ map event_of r.steps
    pub answered : (x : Step) → Memᴰ x r.steps → x.answers ≡ answer (view x.given) x.call
    pub ends : view (last r) ≡ end (history_of r)
    -- each call answers 0 exactly when its conditions hold
    pub exactly : (x : Step) → Memᴰ x r.steps → Demand2 (view x.given)
    pub claim : Demand3 (history_of r)
    -- and the publisher's calls of the program answer 0
    pub publisher : (held : Root)
        × ((view (last r)).root ≡ Some held)
        × ((plan : Plan) → Honest (view (last r)) held plan → (c : Carried (last r) plan) → Accepted (last r) plan c)
