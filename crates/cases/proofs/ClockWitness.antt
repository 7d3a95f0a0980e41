-- The flat battery (A8), played: everything has expired, an earlier start time is refused, and what was found expired is not found fresh.
use mathlib.Core.Path.{◌≡◌, refl, sym, ap, ◌∙◌, subst}
use Rattle.std.specs.declared.option.Option.TheVariants.{None, Some}
use mathlib.Core.List.{List, [], ◌∷◌, ◌++◌}
use native.Mathlib.Omega.{arith}
use lib.IntN.{ℤ, pos}
use lib.ListN.{drop}
use Rattle.base.specs.Bytes.{bytes}
use Rattle.sha256.specs.Message.{digest_of}
use Rattle.rules.specs.State.{State, keep_targets, Call, new_cycle, new_snapshot, new_targets, find}
use Rattle.rules.specs.Steps.{next, installed, with_start, with_timestamp, with_snapshot, with_targets, Item, a_timestamp}
use Rattle.rules.specs.Words.{Expired}
use Rattle.rules.specs.Exactly.{expires_of, leans_on, FindsExpired, FindsFresh}
use Rattle.rules.specs.History.{History, run}
use Rattle.rules.proofs.Computing.{tables}
use Rattle.rules.proofs.WordLaws.{expired-exactly}
use Rattle.history.proofs.Demand3.{apart-at, demand3}
use Rattle.cases.proofs.WitnessFiles.{a, root_at, version_text, version_only, timestamp_text, timestamp_at, snapshot_text, targets_text, image_text, plain_names, plain, readings}
use Rattle.cases.proofs.WitnessSteps.{Chain, stop, step, chain_run, answers_of, chain-answers, timestamp_goes, snapshot_goes, targets_goes, find_goes, find-refused, cycle_goes, cycle-refused, as_listed}
use Rattle.cases.proofs.Witness.{by_a, a_new_timestamp, offer, the_install, install-answers, installed-is, at, kept}

abbrev ask : Call
ask = find (record { file = targets_text "3" image_text; path = bytes "f" })

-- up to date; then the second at which every file expires
abbrev until : List Call
until =
    a_new_timestamp (timestamp_text "5" (version_text "7")) by_a
    ∷ new_snapshot (offer (snapshot_text "7" plain_names) by_a)
    ∷ new_targets (offer (targets_text "3" image_text) by_a)
    ∷ ask
    ∷ new_cycle (pos 1893456000)
    ∷ []

-- the battery is flat: the clock says what it said at first; afterwards it is set right
abbrev pub the_calls : List Call
the_calls = until ++ (ask ∷ new_cycle (pos 1000) ∷ ask ∷ new_cycle (pos 1893456000) ∷ [])

abbrev pub the_history : History
the_history = record { install = the_install; accepted = install-answers; calls = the_calls }

-- everything is held, at this start time
abbrev up : ℤ → State
up = at (root_at 1 1 a) (Some (timestamp_at 5 (version_only 7))) (Some plain) (Some (kept (targets_text "3" image_text) 3))

until_goes : Chain (at (root_at 1 1 a) None None None (pos 1000)) until (0 ∷ 0 ∷ 0 ∷ 0 ∷ 0 ∷ []) (up (pos 1893456000))
unfolding tables with_start with_timestamp with_snapshot with_targets keep_targets
until_goes =
    step (timestamp_goes _ readings.timestamp5 refl)
    (step (snapshot_goes _ readings.snapshot7 refl)
    (step (targets_goes _ readings.targets3 refl)
    (step (find_goes {s = up (pos 1000)} _ readings.targets3 (as_listed _ (digest_of (targets_text "3" image_text)) _ refl refl))
    (step (cycle_goes refl)
    stop))))

after-goes : Chain (up (pos 1893456000)) (drop 5 the_calls) (7 ∷ 17 ∷ 7 ∷ 0 ∷ []) (up (pos 1893456000))
unfolding tables with_start
after-goes =
    step (find-refused _ readings.targets3 refl)
    (step (cycle-refused refl)
    (step (find-refused _ readings.targets3 refl)
    (step (cycle_goes refl)
    stop)))

-- the state in which the first of the two finds is made
reached : run (installed the_install) until ≡ up (pos 1893456000)
reached = ap (λ (s : State). run s until) installed-is ∙ chain_run until_goes

-- the find is refused with 7, the earlier start time with 17, the find again with 7; the equal one passes
pub answered : answers_of (run (installed the_install) until) (drop 5 the_calls) ≡ 7 ∷ 17 ∷ 7 ∷ 0 ∷ []
answered = ap (λ (s : State). answers_of s (drop 5 the_calls)) reached ∙ chain-answers after-goes

-- the timestamp that the first find leans on has expired
abbrev the_timestamp : Item
the_timestamp = a_timestamp (timestamp_at 5 (version_only 7))

found : FindsExpired (run (installed the_install) until) ask the_timestamp
unfolding tables
found =
    record {
      looks = leans_on (ap (λ (x : State). x.timestamp) reached) (omega arith);
      expired = subst (λ (x : State). Expired (expires_of the_timestamp) x.start) (sym reached) ((expired-exactly _ _).0 refl);
    }

-- so by the claim the second does not find it fresh, whatever the clock says between
pub not-fresh : ¬ FindsFresh (run (next (run (installed the_install) until) ask) (new_cycle (pos 1000) ∷ [])) ask the_timestamp
not-fresh =
    (demand3 the_history).stays_expired _ _ ask ask _ the_timestamp
    (apart-at the_history until ask (new_cycle (pos 1000) ∷ []) ask (new_cycle (pos 1893456000) ∷ []) refl) found
