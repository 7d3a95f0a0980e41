-- The state after a call: the one given where it is refused, and else with the file that it offers.
use mathlib.Core.Path.{◌≡◌, refl, ◌∙◌}
use Rattle.std.specs.declared.option.Option.TheVariants.{None, Some}
use mathlib.Core.List.{List}
use borrow.Author.Tests.{eq-eqb, ne_eqb}
use Rattle.base.proofs.TestLaws.{cond-elim}
use Rattle.base.specs.Bytes.{Bytes}
use Rattle.rules.specs.Records.{Read, refused, says}
use Rattle.rules.specs.State.{State, Call}
use Rattle.rules.specs.Steps.{answer, refuses, Item, trusting, trusting_if, what_says, offered, started, accepted, next}
use Rattle.rules.proofs.OptionLaws.{none-not-some, some_is}

pub next-accepted : (s : State) (c : Call) → answer s c ≡ 0 → next s c ≡ accepted s c
unfolding next refuses
next-accepted s c e = rw (eq-eqb (answer s c) 0 e)

pub next-refused : (s : State) (c : Call) → ¬ (answer s c ≡ 0) → next s c ≡ s
unfolding next refuses
next-refused s c f = rw (ne_eqb (answer s c) 0 f)

-- a call that offers no file changes at most the start time
pub next-none : (s : State) (c : Call) → offered c ≡ None → answer s c ≡ 0 → next s c ≡ started s c
unfolding accepted trusting_if
next-none s c o e = next-accepted s c e ∙ rw o

-- a file that becomes trusted enters the state
pub next-trusting : (s : State) (c : Call) (x : Item) → offered c ≡ Some x → answer s c ≡ 0 → next s c ≡ trusting (started s c) x
unfolding accepted trusting_if
next-trusting s c x o e = next-accepted s c e ∙ rw o

pub says_what : {A : Type 0} (f : A → Item) {rd : Read A} {a : A} {es : List Bytes} → rd ≡ says a es → what_says f rd ≡ Some (f a)
unfolding what_says
says_what f e = rw e

-- an offered file was read
pub what_said : {A : Type 0} (f : A → Item) (rd : Read A) (x : Item) → what_says f rd ≡ Some x
    → (a : A) × (es : List Bytes) × (rd ≡ says a es) × (f a ≡ x)
unfolding what_says
what_said f (refused y) x e = none-not-some e
what_said f (says a es) x e = (a, es, refl, some_is e)

-- a call that only reads passes the state on
pub next-same : (s : State) (c : Call) → offered c ≡ None → started s c ≡ s → next s c ≡ s
unfolding next accepted trusting_if
next-same s c o e = cond-elim (λ x. x ≡ s) (refuses c (answer s c)) s (accepted s c) (λ _. refl) (λ _. rw (o, e))
