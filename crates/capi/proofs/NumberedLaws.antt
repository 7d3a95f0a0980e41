-- What holds of an answer and a state holds where the answer is its number.
use mathlib.Core.Path.{◌≡◌, sym, subst}
use Prim.Native.Nat.{ℕ}
use lib.IntN.{ℤ}
use Rattle.base.specs.Bytes.{Bytes}
use Rattle.rules.specs.Steps.{Began}
use Rattle.rules.specs.State.{new_cycle}
use Rattle.tuf.specs.View.{view}
use Rattle.tuf.specs.Promises.{Steps}
use Rattle.base.specs.Window.{window}
use Rattle.rules.specs.Limits.{signature_size}
use Rattle.rules.specs.Asked.{Look, EntryAsked}
use Rattle.answers.specs.Number.{number_of}
use Rattle.records.specs.View.{view_id}
use Rattle.inspect.specs.View as inspect
use Rattle.inspect.specs.declared.Looked as inspect-looked
use Rattle.inspect.specs.declared.EntryRead as inspect-entry
use Rattle.tuf.specs.declared.State.{State}
use Rattle.tuf.specs.declared.Step as tuf
use Rattle.capi.specs.Numbered.{Numbered}
use Rattle.capi.specs.declared.Step.{Step}

pub by_number : (P : ℕ → State → Type 0) (s : tuf.Step) (r : Step) → Numbered s r → P (number_of s.answer) s.state → P r.answer r.state
by_number P s r w p =
    subst (λ (n : ℕ). P n r.state) (sym w.answer) (subst (λ (t : State). P (number_of s.answer) t) (sym w.state) p)

pub look-number : (l : inspect-looked.Looked) (n : ℕ) → n ≡ number_of l.answer → (k : Look) → inspect.view_look l ≡ k
    → record { answer = n; start = l.start; length = l.length; entries = l.entries } ≡ k
unfolding inspect.view_look
look-number l n e k w = rw e w

pub entry-number : (x : inspect-entry.EntryRead) (n : ℕ) → n ≡ number_of x.answer → (k : EntryAsked) → inspect.view_entry_read x ≡ k
    → record { answer = n; keyid = view_id x.keyid; sig = window x.sig 0 signature_size } ≡ k
unfolding inspect.view_entry_read
entry-number x n e k w = rw e w

-- ## Calls at a time that is given as a count

timed : (P : ℤ → ℕ → State → Type 0) {t u : ℤ} → t ≡ u → (s : tuf.Step) (r : Step) → P t (number_of s.answer) s.state → Numbered s r
    → P u r.answer r.state
timed P e s r p w = subst (λ (z : ℤ). P z r.answer r.state) e (by_number (P _) s r w p)

pub begins : (file row : Bytes) {t u : ℤ} → t ≡ u → (s : tuf.Step) (r : Step)
    → Began (record { file = file; row = row; start = t }) (number_of s.answer) (view s.state) → Numbered s r
    → Began (record { file = file; row = row; start = u }) r.answer (view r.state)
begins file row = timed (λ (z : ℤ) (n : ℕ) (x : State). Began (record { file = file; row = row; start = z }) n (view x))

pub cycles : (self : State) {t u : ℤ} → t ≡ u → (s : tuf.Step) (r : Step) → Steps self (new_cycle t) (number_of s.answer) s.state → Numbered s r
    → Steps self (new_cycle u) r.answer r.state
cycles self = timed (λ (z : ℤ) (n : ℕ) (x : State). Steps self (new_cycle z) n x)
