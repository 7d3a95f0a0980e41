-- A history of concrete files, with what it answers, and a publisher after it who keeps every rule while older records are held: the claim
-- is not empty. Files of one role are accepted again with equal versions and other contents; a root changes the targets keys alone; a
-- root changes nothing but the threshold of the timestamp role (A5), and after it the versions do fall.
use mathlib.Core.Path.{◌≡◌, refl, sym, ap, ◌∙◌, subst}
use Rattle.std.specs.declared.option.Option.{Option}
use Rattle.std.specs.declared.option.Option.TheVariants.{None, Some}
use mathlib.Core.Bool.{false}
use mathlib.Core.List.{List, [], ◌∷◌, ◌++◌}
use Prim.Native.Nat.{ℕ, suc, ◌≤◌, ◌<◌}
use native.Mathlib.Omega.{arith}
use lib.IntN.{ℤ, pos}
use lib.ListN.{take, drop}
use Rattle.base.specs.Bytes.{Bytes, bytes}
use Rattle.base.specs.Hex.{digit_of, all_hex, is_hex, undo}
use Rattle.sha256.specs.Message.{digest_of}
use Rattle.date.specs.Calendar.{expired}
use Rattle.rules.specs.Forms.{different}
use Rattle.rules.specs.State.{Query, Root, Timestamp, Snapshot, Targets, State, keep_targets, Row, Install, FileOffer, Call, new_cycle, new_root, new_timestamp, new_snapshot, new_targets, find, ask_key, ask_state}
use Rattle.rules.specs.Steps.{install_table, install_answer, answer, next, installed, root_alone, with_start, with_root, with_timestamp, with_snapshot, with_targets, a_timestamp, offered}
use Rattle.rules.specs.Words.{GoodRow, Enough, Keeps}
use Rattle.rules.specs.History.{History, run, end, Event, calls, events, happened, Apart, Unrotated, BecomesTrusted, at_call, Idle, Plan, after_roots, at_timestamp, at_snapshot, at_targets, last_root, Fresh, Honest, Through}
use Rattle.cases.proofs.Texts.{k, l}
use Rattle.rules.proofs.Computing.{tables}
use Rattle.rules.proofs.OptionLaws.{none-not-some, some_is}
use Rattle.rules.proofs.ListLaws.{different-true}
use Rattle.rules.proofs.WordLaws.{row-good, fresh-exactly, passes_enough, keeps-exactly, matches-exactly}
use Rattle.rules.proofs.TableLaws.{one-held, judged-is}
use Rattle.rules.proofs.NextLaws.{says_what}
use Rattle.rules.proofs.ExactlyLaws.{install-after}
use Rattle.history.proofs.Demand3.{apart-at, demand3}
use Rattle.cases.proofs.WitnessFiles.{plain, a, b, only, pair, root_text, root_at, version_text, full_text, version_only, full, timestamp_text, timestamp_at, snapshot_text, targets_text, targets_at, image_text, an_image, plain_names, more_names, low_names, full_names, snapshot_digest, low, complete, targets-digest, snapshot-digest, readings}
use Rattle.cases.proofs.WitnessSteps.{Goes, Chain, stop, step, chain_run, answers_of, chain-answers, chain-answer, root_goes, timestamp_goes, snapshot_goes, targets_goes, root-refused, timestamp-refused, targets-refused, find_goes, cycle_goes, cycle-refused, state_goes, key_goes, not-other, as_listed}

-- ## The calls

-- signed by key a, by key b, or by both
abbrev pub by_a : Row
by_a = 1 ∷ 0 ∷ []

abbrev pub by_b : Row
by_b = 0 ∷ 1 ∷ []

abbrev pub by_both : Row
by_both = 1 ∷ 1 ∷ []

abbrev pub a_new_root : Bytes → Call
a_new_root file = new_root (record { file = file; held_row = by_a; own_row = by_a })

abbrev pub a_new_timestamp : Bytes → Row → Call
a_new_timestamp file row = new_timestamp (record { file = file; row = row })

abbrev pub offer : Bytes → Row → FileOffer
offer file row = record { file = file; row = row }

abbrev pub the_install : Install
the_install = record { file = root_text "1" "1" k; row = by_a; start = pos 1000 }

-- the path that is asked for
abbrev the_query : Query
the_query = record { file = targets_text "3" image_text; path = bytes "f" }

abbrev pub the_calls : List Call
the_calls =
    a_new_timestamp (timestamp_text "5" (version_text "7")) by_a
    ∷ new_snapshot (offer (snapshot_text "7" plain_names) by_a)
    ∷ new_targets (offer (targets_text "3" image_text) by_a)
    ∷ find the_query
    -- other files with equal versions
    ∷ a_new_timestamp (timestamp_text "6" (version_text "7")) by_a
    ∷ new_snapshot (offer (snapshot_text "7" more_names) by_a)
    ∷ new_targets (offer (targets_text "3" []) by_a)
    -- a root that changes the targets keys alone: the targets have to be signed anew
    ∷ a_new_root (root_text "2" "1" l)
    ∷ new_targets (offer (targets_text "3" image_text) by_a)
    ∷ new_targets (offer (targets_text "3" image_text) by_b)
    -- a root that asks for two timestamp keys in place of one: what one key signed is believed no more, and lower versions come after it
    ∷ a_new_root (root_text "3" "2" l)
    ∷ a_new_timestamp (timestamp_text "6" (version_text "7")) by_a
    ∷ a_new_timestamp (timestamp_text "1" (version_text "2")) by_both
    ∷ new_snapshot (offer (snapshot_text "2" low_names) by_a)
    ∷ new_targets (offer (targets_text "1" image_text) by_b)
    ∷ ask_key k
    ∷ []

-- ## The history

abbrev pub at : Root → Option Timestamp → Option Snapshot → Option Targets → ℤ → State
at r t n g start = record { root = Some r; timestamp = t; snapshot = n; targets = g; start = start }

abbrev pub kept : Bytes → ℕ → Targets
kept file version = record { version = version; expires = pos 1893456000; digest = digest_of file }

-- the targets that are held in the end
abbrev pub held1 : Targets
held1 = kept (targets_text "1" image_text) 1

-- the state in which the find is made
abbrev found_in : State
found_in = at (root_at 1 1 a) (Some (timestamp_at 5 (version_only 7))) (Some plain) (Some (kept (targets_text "3" image_text) 3)) (pos 1000)

chain : Chain (at (root_at 1 1 a) None None None (pos 1000)) the_calls
    (0 ∷ 0 ∷ 0 ∷ 0 ∷ 0 ∷ 0 ∷ 0 ∷ 0 ∷ 9 ∷ 0 ∷ 0 ∷ 9 ∷ 0 ∷ 0 ∷ 0 ∷ 0 ∷ [])
    (at (root_at 3 2 b) (Some (timestamp_at 1 (version_only 2))) (Some low) (Some held1) (pos 1000))
unfolding tables digit_of all_hex is_hex undo with_root with_timestamp with_snapshot with_targets keep_targets
chain =
    step (timestamp_goes _ readings.timestamp5 refl)
    (step (snapshot_goes _ readings.snapshot7 refl)
    (step (targets_goes _ readings.targets3 refl)
    (step (find_goes {s = found_in} _ {q = the_query} readings.targets3 (as_listed _ (digest_of (targets_text "3" image_text)) _ refl refl))
    (step (timestamp_goes _ readings.timestamp6 refl)
    (step (snapshot_goes _ readings.snapshot7_more refl)
    (step (targets_goes _ readings.empty3 refl)
    (step (root_goes (root_at 1 1 a) _ refl readings.root2 refl)
    (step (targets-refused _ readings.targets3 refl)
    (step (targets_goes _ readings.targets3 refl)
    (step (root_goes (root_at 2 1 b) _ refl readings.root3 refl)
    (step (timestamp-refused _ readings.timestamp6 refl)
    (step (timestamp_goes _ readings.timestamp1 refl)
    (step (snapshot_goes _ readings.snapshot2 refl)
    (step (targets_goes _ readings.targets1 refl)
    (step (key_goes refl)
    stop)))))))))))))))

pub install-answers : install_answer the_install ≡ 0
unfolding tables install_answer
install-answers = judged-is (install_table the_install) readings.root1

abbrev pub the_history : History
the_history = record { install = the_install; accepted = install-answers; calls = the_calls }

pub installed-is : installed the_install ≡ at (root_at 1 1 a) None None None (pos 1000)
unfolding root_alone
installed-is = install-after the_install (root_at 1 1 a) (a ∷ b ∷ []) readings.root1 install-answers

-- two calls are refused: targets signed by a key that the role has no longer, and a timestamp signed by one key where two are asked for
pub answered : answers_of (installed the_install) the_calls ≡ 0 ∷ 0 ∷ 0 ∷ 0 ∷ 0 ∷ 0 ∷ 0 ∷ 0 ∷ 9 ∷ 0 ∷ 0 ∷ 9 ∷ 0 ∷ 0 ∷ 0 ∷ 0 ∷ []
answered = ap (λ (s : State). answers_of s the_calls) installed-is ∙ chain-answers chain

-- what is held in the end
abbrev pub the_end : State
the_end = at (root_at 3 2 b) (Some (timestamp_at 1 (version_only 2))) (Some low) (Some held1) (pos 1000)

pub ends : end the_history ≡ the_end
unfolding end
ends = ap (λ (s : State). run s the_calls) installed-is ∙ chain_run chain

-- ## After the rotation by the threshold alone versions fall: timestamp 6 becomes trusted, and later timestamp 1

abbrev timestamp6 : Call
timestamp6 = a_new_timestamp (timestamp_text "6" (version_text "7")) by_a

abbrev timestamp1 : Call
timestamp1 = a_new_timestamp (timestamp_text "1" (version_text "2")) by_both

accepted-at : (before : List Call) (c : Call) → answer (run (at (root_at 1 1 a) None None None (pos 1000)) before) c ≡ 0
    → answer (run (installed the_install) before) c ≡ 0
accepted-at before c e = ap (λ (s : State). answer (run s before) c) installed-is ∙ e

pub record Falling : Type 0 where
  pub earlier : Event
  pub between : List Event
  pub later : Event
  pub apart : Apart (happened the_history) earlier between later
  pub first : BecomesTrusted earlier (a_timestamp (timestamp_at 6 (version_only 7)))
  pub second : BecomesTrusted later (a_timestamp (timestamp_at 1 (version_only 2)))

pub falling : Falling
unfolding offered run
falling =
    let s = installed the_install in
    let before = take 4 the_calls in
    let between = take 7 (drop 5 the_calls) in
    let zeros : List ℕ = 0 ∷ 0 ∷ 0 ∷ 0 ∷ [] in
    record {
      earlier = calls (run s before) timestamp6;
      between = events (next (run s before) timestamp6) between;
      later = calls (run (next (run s before) timestamp6) between) timestamp1;
      apart = apart-at the_history before timestamp6 between timestamp1 (drop 13 the_calls) refl;
      first =
          at_call (says_what a_timestamp readings.timestamp6)
          (accepted-at before timestamp6 (chain-answer before zeros timestamp6 _ 0 _ refl chain));
      second =
          at_call (says_what a_timestamp readings.timestamp1)
          (accepted-at (take 12 the_calls) timestamp1
          (chain-answer (take 12 the_calls) (zeros ++ (zeros ++ (9 ∷ 0 ∷ 0 ∷ 9 ∷ []))) timestamp1 _ 0 _ refl chain));
    }

-- so by the claim a root between them rotates, in the sense of its exception
pub exception : ¬ Unrotated falling.between
exception unrotated =
    let rise =
    (demand3 the_history).timestamps_rise falling.earlier falling.later falling.between _ _ falling.apart unrotated falling.first
    falling.second in
    absurd (omega (arith, rise.0))

-- ## A publisher after it

abbrev pub both : List Bytes
both = a ∷ b ∷ []

-- a fourth root, then a timestamp that lists length and digest of its snapshot, which lists those of its targets; with a refused root, new
-- cycles, a refused one of them (A8) and a call that only reads between
abbrev pub plan : Plan
plan =
    record {
      roots =
          record {
            between = a_new_root (root_text "3" "2" l) ∷ [];
            offer = record { file = root_text "4" "2" l; held_row = by_a; own_row = by_a };
            file = root_at 4 2 b;
            entries = both;
            reads = readings.root4;
          }
          ∷ [];
      timestamp =
          record {
            between = new_cycle (pos 2000) ∷ [];
            offer = record { file = timestamp_text "2" (full_text "a61bf372fb8071f57781190def3e1bbe8de30fd552348bbd194ae22f54965f8f" "699" "3"); row = by_both };
            file = timestamp_at 2 (full snapshot_digest 699 3);
            entries = both;
            reads = readings.timestamp2;
          };
      snapshot =
          record {
            between = ask_state ∷ [];
            offer = offer (snapshot_text "3" full_names) by_a;
            file = complete;
            entries = both;
            reads = readings.snapshot3;
          };
      targets =
          record {
            between = new_cycle (pos 3000) ∷ new_cycle (pos 2999) ∷ [];
            offer = offer (targets_text "2" image_text) by_b;
            file = targets_at 2 (an_image ∷ []);
            entries = both;
            reads = readings.targets2;
          };
    }

-- the states that its calls are given
abbrev pub before₁ : State
before₁ = at (root_at 4 2 b) (Some (timestamp_at 1 (version_only 2))) (Some low) (Some held1) (pos 2000)

abbrev pub before₂ : State
before₂ = at (root_at 4 2 b) (Some (timestamp_at 2 (full snapshot_digest 699 3))) (Some low) (Some held1) (pos 2000)

abbrev pub before₃ : State
before₃ = at (root_at 4 2 b) (Some (timestamp_at 2 (full snapshot_digest 699 3))) (Some complete) (Some held1) (pos 3000)

root-again : Goes the_end (a_new_root (root_text "3" "2" l)) 11 the_end
unfolding tables
root-again = root-refused (root_at 3 2 b) readings.root3 refl

at-timestamp : at_timestamp the_end plan ≡ before₁
unfolding tables run after_roots with_root with_start
at-timestamp = chain_run (step root-again (step (root_goes (root_at 3 2 b) (root_at 4 2 b) refl readings.root4 refl) (step (cycle_goes refl) stop)))

at-snapshot : at_snapshot the_end plan ≡ before₂
unfolding tables run with_timestamp
at-snapshot =
    ap (λ (s : State). run (next s (new_timestamp plan.timestamp.offer)) (ask_state ∷ [])) at-timestamp
    ∙ chain_run (step (timestamp_goes (timestamp_at 2 (full snapshot_digest 699 3)) readings.timestamp2 refl) (step state_goes stop))

at-targets : at_targets the_end plan ≡ before₃
unfolding tables run with_snapshot with_start
at-targets =
    ap (λ (s : State). run (next s (new_snapshot plan.snapshot.offer)) (new_cycle (pos 3000) ∷ new_cycle (pos 2999) ∷ [])) at-snapshot
    ∙ chain_run
    (step (snapshot_goes {s = before₂} complete readings.snapshot3 (as_listed _ (digest_of (snapshot_text "3" full_names)) snapshot_digest snapshot-digest refl))
    (step (cycle_goes refl) (step (cycle-refused refl) stop)))

-- calls by which no file becomes trusted
refused-idle : {s s' : State} {c : Call} {n : ℕ} → Goes s c (suc n) s' → Idle s c
refused-idle g x (at_call e z) = let r = g.answers in absurd (omega arith)

none-idle : {s : State} {c : Call} → offered c ≡ None → Idle s c
none-idle o x (at_call e z) = none-not-some (sym o ∙ e)

-- a record that is held in a state, and what is known of it
held-is : {A : Type 0} {s s' : State} {a b : A} → s ≡ s' → (part : State → Option A) (Q : A → Type 0) → part s ≡ Some a → part s' ≡ Some b
    → Q b → Q a
held-is e part Q p q k = subst Q (some_is (sym q ∙ ap part (sym e) ∙ p)) k

-- rows and keys
row-a : GoodRow both by_a
unfolding tables
row-a = (row-good both by_a).0 refl

row-b : GoodRow both by_b
unfolding tables
row-b = (row-good both by_b).0 refl

row-both : GoodRow both by_both
unfolding tables
row-both = (row-good both by_both).0 refl

enough_a : Enough (only a) both by_a
unfolding tables
enough_a = passes_enough (only a) both by_a (λ m. elim m [ ], tt) refl

enough_b : Enough (only b) both by_b
unfolding tables
enough_b = passes_enough (only b) both by_b (λ m. elim m [ ], tt) refl

enough_both : Enough (pair 2) both by_both
unfolding tables different
enough_both = passes_enough (pair 2) both by_both ((different-true both).0 refl) refl

fresh : (start : ℤ) → expired (pos 1893456000) start ≡ false → Fresh (root_at 4 2 b) plan start
fresh start e =
    let f = (fresh-exactly (pos 1893456000) start).0 e in
    record { of_root = f; of_timestamp = f; of_snapshot = f; of_targets = f }

honest-end : Honest the_end (root_at 3 2 b) plan
unfolding tables offered last_root
honest-end =
    record {
      quiet_roots = ((refused-idle root-again, tt), tt);
      quiet_timestamp = (none-idle refl, tt);
      quiet_snapshot = (none-idle refl, tt);
      quiet_targets = (none-idle refl, (none-idle refl, tt));
      timestamp_row = row-both;
      snapshot_row = row-a;
      targets_row = row-b;
      roots = (record { version = refl; held_row = row-a; own_row = row-a; held_keys = enough_a; own_keys = enough_a }, tt);
      timestamp_keys = enough_both;
      snapshot_keys = enough_a;
      targets_keys = enough_b;
      newer = λ t e. held-is at-timestamp (λ s. s.timestamp) (λ t. t.version < 2) e refl (omega arith);
      not_lower = λ t e. held-is at-timestamp (λ s. s.timestamp) (λ t. t.snapshot.version ≤ 3) e refl (omega arith);
      keeps =
          λ n e.
          held-is at-snapshot (λ s. s.snapshot) (λ n. Keeps n.names complete.names) e refl
          ((keeps-exactly low.names complete.names).0 refl);
      snapshot_version = refl;
      snapshot_matches = (matches-exactly _ _ _).0 (refl, not-other _ _ snapshot-digest);
      targets_version = refl;
      targets_matches = (matches-exactly _ _ _).0 (refl, not-other _ _ targets-digest);
      fresh_timestamp = subst (λ (s : State). Fresh (root_at 4 2 b) plan s.start) (sym at-timestamp) (fresh (pos 2000) refl);
      fresh_snapshot = subst (λ (s : State). Fresh (root_at 4 2 b) plan s.start) (sym at-snapshot) (fresh (pos 2000) refl);
      fresh_targets = subst (λ (s : State). Fresh (root_at 4 2 b) plan s.start) (sym at-targets) (fresh (pos 3000) refl);
    }

-- so it gets through
pub honest : Honest (end the_history) (root_at 3 2 b) plan
honest = subst (λ (s : State). Honest s (root_at 3 2 b) plan) (sym ends) honest-end

pub gets_through : Through (end the_history) (root_at 3 2 b) plan
gets_through =
    let p = (demand3 the_history).publisher in
    let held : p.0 ≡ root_at 3 2 b = one-held p.1 (ap (λ (s : State). s.root) ends) in
    subst (λ (r : Root). Honest (end the_history) r plan → Through (end the_history) r plan) held (p.2 plan) honest
