-- Calls in their turn: what each answers, and the state after it, by what its file says.
use mathlib.Core.Path.{◌≡◌, refl, ap, ◌∙◌}
use Rattle.std.specs.declared.option.Option.TheVariants.{Some}
use mathlib.Core.Bool.{false, not}
use mathlib.Core.List.{List, [], ◌∷◌, ◌++◌}
use Prim.Native.Nat.{ℕ, suc}
use native.Mathlib.Omega.{arith}
use lib.IntN.{ℤ}
use lib.ListN.{length}
use Rattle.base.specs.Bytes.{Bytes, same}
use Rattle.base.proofs.ByteLaws.{same_self}
use Rattle.rules.specs.Records.{Image, File}
use Rattle.rules.specs.State.{Root, Timestamp, Snapshot, State, keep_targets, root_in, timestamp_in, snapshot_in, targets_in, RootOffer, FileOffer, Query, Call, new_cycle, new_root, new_timestamp, new_snapshot, new_targets, find, ask_key, ask_state}
use Rattle.rules.specs.Table.{Refusal, ◌when◌, first}
use Rattle.rules.specs.Steps.{cycle_table, root_table, timestamp_table, snapshot_table, targets_table, find_table, key_table, answer, next, with_start, with_root, with_timestamp, with_snapshot, with_targets, a_root, a_timestamp, a_snapshot, a_targets, offered, trusting, started, after_root}
use Rattle.rules.specs.History.{run}
use Rattle.rules.proofs.TableLaws.{judged-is}
use Rattle.rules.proofs.NextLaws.{next-none, next-trusting, next-refused, next-same, says_what}
use Rattle.cases.proofs.WitnessFiles.{a, b, Says}

-- what a call answers, and the state after it
pub record Goes (s : State) (c : Call) (n : ℕ) (s' : State) : Type 0 where
  pub answers : answer s c ≡ n
  pub becomes : next s c ≡ s'

-- some calls, what they answer, and the state after them
pub data Chain : State → List Call → List ℕ → State → Type 0 where
  stop : {s : State} → Chain s [] [] s
  step : {s s' s'' : State} {c : Call} {cs : List Call} {n : ℕ} {ns : List ℕ} → Goes s c n s' → Chain s' cs ns s''
      → Chain s (c ∷ cs) (n ∷ ns) s''

pub chain_run : {s s' : State} {cs : List Call} {ns : List ℕ} → Chain s cs ns s' → run s cs ≡ s'
unfolding run
chain_run stop = refl
chain_run (step {cs} g rest) = ap (λ (s : State). run s cs) g.becomes ∙ chain_run rest

-- what some calls answer, one after the other
unfoldable pub answers_of : State → List Call → List ℕ
answers_of s [] = []
answers_of s (c ∷ cs) = answer s c ∷ answers_of (next s c) cs

pub chain-answers : {s s' : State} {cs : List Call} {ns : List ℕ} → Chain s cs ns s' → answers_of s cs ≡ ns
unfolding answers_of
chain-answers stop = refl
chain-answers (step {cs} g rest) = rw (g.answers, g.becomes, chain-answers rest)

-- the answer of one of the calls, after some that answered ns
pub chain-answer : {s s' : State} (before : List Call) (ns : List ℕ) (c : Call) (cs : List Call) (n : ℕ) (ms : List ℕ)
    → length before ≡ length ns → Chain s (before ++ (c ∷ cs)) (ns ++ (n ∷ ms)) s' → answer (run s before) c ≡ n
unfolding run
chain-answer [] [] c cs n ms e (step g rest) = g.answers
chain-answer [] (m ∷ ns) c cs n ms e rest = absurd (omega arith)
chain-answer (x ∷ before) [] c cs n ms e rest = absurd (omega arith)
chain-answer (x ∷ before) (m ∷ ns) c cs n ms e (step g rest) =
    ap (λ (s : State). answer (run s before) c) g.becomes ∙ chain-answer before ns c cs n ms (omega arith) rest

-- a refused call, of an answer 1 or more
pub refused_goes : {s : State} {c : Call} {n : ℕ} → answer s c ≡ suc n → Goes s c (suc n) s
refused_goes {s} {c} e = record { answers = e; becomes = next-refused s c (λ (z : answer s c ≡ 0). absurd (omega arith)) }

pub root_goes : {s : State} (held r : Root) {o : RootOffer} → s.root ≡ Some held → Says root_in o.file r
    → first (root_table s o r (a ∷ b ∷ [])) ≡ 0 → Goes s (new_root o) 0 (with_root s held r)
unfolding answer offered trusting started after_root
root_goes {s} held r {o} h reads e =
    let zero = judged-is (root_table s o) reads ∙ e in
    record { answers = zero; becomes = next-trusting s (new_root o) (a_root r) (says_what a_root reads) zero ∙ rw h }

pub timestamp_goes : {s : State} (t : Timestamp) {o : FileOffer} → Says timestamp_in o.file t
    → first (timestamp_table s o t (a ∷ b ∷ [])) ≡ 0 → Goes s (new_timestamp o) 0 (with_timestamp s t)
unfolding answer offered trusting started
timestamp_goes {s} t {o} reads e =
    let zero = judged-is (timestamp_table s o) reads ∙ e in
    record { answers = zero; becomes = next-trusting s (new_timestamp o) (a_timestamp t) (says_what a_timestamp reads) zero }

pub snapshot_goes : {s : State} (n : Snapshot) {o : FileOffer} → Says snapshot_in o.file n
    → first (snapshot_table s o n (a ∷ b ∷ [])) ≡ 0 → Goes s (new_snapshot o) 0 (with_snapshot s n)
unfolding answer offered trusting started
snapshot_goes {s} n {o} reads e =
    let zero = judged-is (snapshot_table s o) reads ∙ e in
    record { answers = zero; becomes = next-trusting s (new_snapshot o) (a_snapshot n) (says_what a_snapshot reads) zero }

pub targets_goes : {s : State} (g : File (List Image)) {o : FileOffer} → Says targets_in o.file g
    → first (targets_table s o g (a ∷ b ∷ [])) ≡ 0 → Goes s (new_targets o) 0 (with_targets s (keep_targets o.file g))
unfolding answer offered trusting started
targets_goes {s} g {o} reads e =
    let zero = judged-is (targets_table s o) reads ∙ e in
    record {
      answers = zero;
      becomes =
          next-trusting s (new_targets o) (a_targets (keep_targets o.file g))
          (says_what (λ x. a_targets (keep_targets o.file x)) reads) zero;
    }

pub root-refused : {s : State} {n : ℕ} (r : Root) {o : RootOffer} → Says root_in o.file r
    → first (root_table s o r (a ∷ b ∷ [])) ≡ suc n → Goes s (new_root o) (suc n) s
unfolding answer
root-refused {s} r {o} reads e = refused_goes (judged-is (root_table s o) reads ∙ e)

pub timestamp-refused : {s : State} {n : ℕ} (t : Timestamp) {o : FileOffer} → Says timestamp_in o.file t
    → first (timestamp_table s o t (a ∷ b ∷ [])) ≡ suc n → Goes s (new_timestamp o) (suc n) s
unfolding answer
timestamp-refused {s} t {o} reads e = refused_goes (judged-is (timestamp_table s o) reads ∙ e)

pub targets-refused : {s : State} {n : ℕ} (g : File (List Image)) {o : FileOffer} → Says targets_in o.file g
    → first (targets_table s o g (a ∷ b ∷ [])) ≡ suc n → Goes s (new_targets o) (suc n) s
unfolding answer
targets-refused {s} g {o} reads e = refused_goes (judged-is (targets_table s o) reads ∙ e)

pub find_goes : {s : State} (g : File (List Image)) {q : Query} → Says targets_in q.file g
    → first (find_table s q g (a ∷ b ∷ [])) ≡ 0 → Goes s (find q) 0 s
unfolding answer offered started
find_goes {s} g {q} reads e =
    record { answers = judged-is (find_table s q) reads ∙ e; becomes = next-same s (find q) refl refl }

pub key_goes : {s : State} {k : Bytes} → first (key_table s k) ≡ 0 → Goes s (ask_key k) 0 s
unfolding answer offered started
key_goes {s} {k} e = record { answers = e; becomes = next-same s (ask_key k) refl refl }

pub find-refused : {s : State} {n : ℕ} (g : File (List Image)) {q : Query} → Says targets_in q.file g
    → first (find_table s q g (a ∷ b ∷ [])) ≡ suc n → Goes s (find q) (suc n) s
unfolding answer
find-refused {s} g {q} reads e = refused_goes (judged-is (find_table s q) reads ∙ e)

pub cycle_goes : {s : State} {t : ℤ} → first (cycle_table s t) ≡ 0 → Goes s (new_cycle t) 0 (with_start s t)
unfolding answer offered started
cycle_goes {s} {t} e = record { answers = e; becomes = next-none s (new_cycle t) refl e }

pub cycle-refused : {s : State} {t : ℤ} {n : ℕ} → first (cycle_table s t) ≡ suc n → Goes s (new_cycle t) (suc n) s
unfolding answer
cycle-refused e = refused_goes e

pub state_goes : {s : State} → Goes s ask_state 0 s
unfolding answer offered started
state_goes {s} = record { answers = refl; becomes = next-same s ask_state refl refl }

-- a digest that is the listed one
pub not-other : (x y : Bytes) → x ≡ y → not (same x y) ≡ false
not-other x y e = rw (e, same_self y)

pub as_listed : (rest : List Refusal) (x y : Bytes) → x ≡ y → first rest ≡ 0 → first (8 when not (same x y) ∷ rest) ≡ 0
unfolding first
as_listed rest x y e f = rw (not-other x y e) f
