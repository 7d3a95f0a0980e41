-- The ways out of what decides a call: a file that cannot be read, a row of the table that holds, and the state with the file that becomes trusted.
use mathlib.Core.Path.{◌≡◌, refl, sym, ap, ◌∙◌}
use mathlib.Core.List.{List}
use mathlib.Core.Bool.{Bool, true, false}
use Prim.Native.Nat.{ℕ}
use native.Mathlib.Omega.{arith}
use borrow.Author.Tests.{ne_eqb, eqb-false, not-true}
use Rattle.base.specs.Bytes.{Bytes}
use Rattle.base.proofs.TestLaws.{never}
use Rattle.rules.specs.Records.{Read, says}
use Rattle.rules.specs.State as rules
use Rattle.rules.specs.State.{Install, RootOffer, Call, blank, root_in}
use Rattle.rules.specs.Table.{Refusal, first, absent}
use lib.IntN.{ℤ}
use Rattle.rules.specs.Steps.{cycle_table, install_table, root_table, judged, install_answer, answer, refuses, with_root, Item, a_root, after_root, trusting, what_says, offered, started, root_alone, begun, installed, Began}
use Rattle.rules.proofs.NextLaws.{next-refused, next-trusting, says_what}
use Rattle.rules.proofs.TableLaws.{judged-is, no_line}
use Rattle.std.specs.declared.result.Result.{Result}
use Rattle.std.specs.declared.result.Result.TheVariants.{Ok, Err}
use Rattle.answers.specs.Number.{number_of, refusal_number}
use Rattle.answers.proofs.MostLaws.{positive}
use Rattle.std.specs.Result.{IsErrAnd}
use Rattle.answers.specs.declared.Refusal as answers
use Rattle.canonical_json.specs.Fields.{keep}
use Rattle.records.specs.View.{view_root}
use Rattle.state.specs.View as state
use Rattle.state.specs.declared.State as held
use Rattle.tuf.specs.View.{view}
use Rattle.tuf.specs.Promises.{Steps, Decides, DecidesInstall, Hands}
use Rattle.tuf.specs.declared.State.{State}
use Rattle.tuf.specs.declared.Step.{Step}

-- ## What decides a call

not-zero : (e : answers.Refusal) → ¬ (refusal_number e ≡ 0)
not-zero e z = omega (arith, positive e)

-- what decides a step, and what is handed back of it
module _ (self : State) (c : Call) (r : Step) where
  pub step-of : (d : Result held.State answers.Refusal) → Decides self c d → Hands self d r → Steps self c (number_of r.answer) r.state
  unfolding view refuses
  step-of (Ok t) a w =
      record {
        stepped = record { answered = w.0 ∙ sym a.0; became = ap state.view w.1 ∙ a.1 };
        unchanged = λ q. absurd (eqb-false (number_of r.answer) 0 (not-true _ q) w.0);
      }
  step-of (Err e) a w =
      record {
        stepped = record {
          answered = w.0 ∙ sym a;
          became = ap view w.1 ∙ sym (next-refused (view self) c (λ z. not-zero e (sym a ∙ z)));
        };
        unchanged = λ _. w.1;
      }

-- the same of an install, from the blank state on
pub began-of : (o : Install) (b : State) → view b ≡ blank → (r : Step) (d : Result held.State answers.Refusal) → DecidesInstall o d → Hands b d r
    → Began o (number_of r.answer) (view r.state)
unfolding view installed
began-of o b e r (Ok t) a w = record { answered = w.0 ∙ sym a.0; became = ap state.view w.1 ∙ a.1 }
began-of o b e r (Err f) a w =
    record { answered = w.0 ∙ sym a; became = ap view w.1 ∙ e ∙ rw (ne_eqb (install_answer o) 0 (λ z. not-zero f (sym a ∙ z))) refl }

-- the refusal of a call, told on as d
pub cycle-refused : (self : State) (start : ℤ) (e : answers.Refusal) → refusal_number e ≡ first (cycle_table (view self) start) → (d : Result held.State answers.Refusal)
    → IsErrAnd d (λ r. r ≡ e) → Decides self (rules.new_cycle start) d
unfolding answer
cycle-refused self start e j (Ok t) x = absurd x
cycle-refused self start e j (Err r) x = sym j ∙ ap refusal_number (sym x)

-- ## A step that reads a file: `answer` and `offered` of its call are by the reading rd

module _ {A : Type 0} (self : State) (c : Call) (rd : Read A) (table : A → List Bytes → List Refusal) (item : A → Item)
    (is : answer (view self) c ≡ judged rd table) (o : offered c ≡ what_says item rd) (s : started (view self) c ≡ view self) where
  -- a refusal, told on as d
  pub unread : (n : ℕ) → judged rd table ≡ n → (d : Result held.State answers.Refusal) → IsErrAnd d (λ e. refusal_number e ≡ n) → Decides self c d
  unread n x (Ok t) y = absurd y
  unread n x (Err e) y = is ∙ x ∙ sym y

  module _ (a : A) (es : List Bytes) (y : rd ≡ says a es) (n : ℕ) (j : n ≡ first (table a es)) where
    judged_as : answer (view self) c ≡ n
    judged_as = is ∙ judged-is table y ∙ sym j

    pub held_back : (e : answers.Refusal) → refusal_number e ≡ n → (d : Result held.State answers.Refusal) → IsErrAnd d (λ r. r ≡ e) → Decides self c d
    held_back e q (Ok t) x = absurd x
    held_back e q (Err r) x = judged_as ∙ sym q ∙ ap refusal_number (sym x)

    pub let_in : n ≡ 0 → (t : held.State) → (first (table a es) ≡ 0 → state.view t ≡ trusting (view self) (item a)) → Decides self c (Ok t)
    let_in z t m =
        let e = judged_as ∙ z in
        let f = o ∙ says_what item y in
        let g = ap (λ (x : rules.State). trusting x (item a)) s in
        (e, m (sym j ∙ z) ∙ sym (next-trusting (view self) c (item a) f e ∙ g))

-- ## A root takes the place of the one that is held

held_after : (s : rules.State) (b : Bool) (old new : rules.Root) → absent (keep b old) ≡ false → with_root s old new ≡ after_root s (keep b old) new
unfolding after_root keep
held_after s true old new e = refl
held_after s false old new e = never e

pub root-after : (t : held.State) (o : RootOffer) (new : rules.Root) (es : List Bytes) → first (root_table (state.view t) o new es) ≡ 0
    → with_root (state.view t) (view_root t.root) new ≡ trusting (state.view t) (a_root new)
unfolding trusting root_table state.view
root-after t o new es e =
    held_after (state.view t) t.held.root (view_root t.root) new (no_line (root_table (state.view t) o new es) refl e 6 0)

-- ## Install

module _ (o : Install) where
  pub not-begun : (n : ℕ) → judged (root_in o.file) (install_table o) ≡ n → (d : Result held.State answers.Refusal) → IsErrAnd d (λ e. refusal_number e ≡ n)
      → DecidesInstall o d
  unfolding install_answer
  not-begun n x (Ok t) y = absurd y
  not-begun n x (Err e) y = x ∙ sym y

  module _ (a : rules.Root) (es : List Bytes) (y : root_in o.file ≡ says a es) (n : ℕ) (j : n ≡ first (install_table o a es)) where
    installed_as : install_answer o ≡ n
    unfolding install_answer
    installed_as = judged-is (install_table o) y ∙ sym j

    pub begun-refused : (e : answers.Refusal) → refusal_number e ≡ n → (d : Result held.State answers.Refusal) → IsErrAnd d (λ r. r ≡ e) → DecidesInstall o d
    begun-refused e q (Ok t) x = absurd x
    begun-refused e q (Err r) x = installed_as ∙ sym q ∙ ap refusal_number (sym x)

    pub begun-accepted : n ≡ 0 → (t : held.State) → state.view t ≡ root_alone a o.start → DecidesInstall o (Ok t)
    unfolding installed begun
    begun-accepted z t m = let i = installed_as ∙ z in (i, m ∙ rw (i, y) refl)
