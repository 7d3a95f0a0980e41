-- What a call finds of the files at whose dates it looks: all of them fresh where it answers 0, one expired where it answers 7 or 14.
use mathlib.Core.Path.{◌≡◌, refl, sym, ◌∙◌, subst}
use mathlib.Core.Logic.{◌⊎◌, inl, inr}
use mathlib.Core.Bool.{Bool, true, false}
use Rattle.std.specs.declared.option.Option.{Option}
use Rattle.std.specs.declared.option.Option.TheVariants.{Some}
use mathlib.Core.List.{List}
use Prim.Native.Nat.{ℕ, zero, suc, ◌≤◌, ◌<◌}
use native.Mathlib.Omega.{arith}
use Rattle.base.specs.Bytes.{Bytes}
use Rattle.base.proofs.TestLaws.{never}
use Rattle.date.specs.Calendar.{expired}
use Rattle.rules.specs.Records.{Image, File, Read, says}
use Rattle.rules.specs.State.{Timestamp, Snapshot, State, keep_targets, root_in, timestamp_in, snapshot_in, targets_in, FileOffer, Query, Call, new_cycle, new_root, new_timestamp, new_snapshot, new_targets, find, ask_key, ask_state}
use Rattle.rules.specs.Table.{Refusal, of_held}
use Rattle.rules.specs.Steps.{cycle_table, root_table, timestamp_table, snapshot_table, targets_table, find_table, key_table, judged, answer, Item, a_root, a_timestamp, a_snapshot, a_targets, what_says, offered}
use Rattle.rules.specs.Words.{Expired}
use Rattle.rules.specs.Exactly.{LeansOnRoot, LeansOnTimestamp, LeansOnSnapshot, LeansOnTargets, RootRead, expires_of, IsHeld, rank, leans_up_to, LooksAt, leans_on, offers, FindsExpired, FindsFresh}
use Rattle.rules.proofs.OptionLaws.{none-not-some}
use Rattle.rules.proofs.WordLaws.{expired-exactly}
use Rattle.rules.proofs.TableLaws.{condition, line_holds, held-true, one-held, judged_line}
use Rattle.rules.proofs.NextLaws.{says_what}
use Rattle.rules.proofs.ExactlyLaws.{timestamp-good, timestamp-offered, snapshot-good, snapshot-offered, targets-good, targets-offered, find-good}

module _ (s : State) where
  -- ## Fresh

  abbrev IsFresh : Item → Type 0
  IsFresh x = ¬ Expired (expires_of x) s.start

  -- the record that is held is the one that the call leans on, and the file offered the one that was judged
  same-fresh : {A : Type 0} (item : A → Item) {o : Option A} {a b : A} → o ≡ Some a → IsFresh (item a) → o ≡ Some b → IsFresh (item b)
  same-fresh item e f h = subst (λ x. IsFresh (item x)) (one-held e h) f

  root-fresh : LeansOnRoot s → (x : Item) → IsHeld s x → rank x ≤ 1 → IsFresh x
  root-fresh on (a_root r) e l = same-fresh a_root on.root_held on.root_fresh e
  root-fresh on (a_timestamp t) e l = absurd (omega arith)
  root-fresh on (a_snapshot n) e l = absurd (omega arith)
  root-fresh on (a_targets g) e l = absurd (omega arith)

  timestamp-fresh : LeansOnTimestamp s → (x : Item) → IsHeld s x → rank x ≤ 2 → IsFresh x
  timestamp-fresh on (a_root r) e l = root-fresh on.on_root (a_root r) e (omega arith)
  timestamp-fresh on (a_timestamp t) e l = same-fresh a_timestamp on.timestamp_held on.timestamp_fresh e
  timestamp-fresh on (a_snapshot n) e l = absurd (omega arith)
  timestamp-fresh on (a_targets g) e l = absurd (omega arith)

  snapshot-fresh : LeansOnSnapshot s → (x : Item) → IsHeld s x → rank x ≤ 3 → IsFresh x
  snapshot-fresh on (a_root r) e l = timestamp-fresh on.on_timestamp (a_root r) e (omega arith)
  snapshot-fresh on (a_timestamp t) e l = timestamp-fresh on.on_timestamp (a_timestamp t) e (omega arith)
  snapshot-fresh on (a_snapshot n) e l = same-fresh a_snapshot on.snapshot_held on.snapshot_fresh e
  snapshot-fresh on (a_targets g) e l = absurd (omega arith)

  targets_fresh_lem : LeansOnTargets s → (x : Item) → IsHeld s x → IsFresh x
  targets_fresh_lem on (a_root r) e = snapshot-fresh on.on_snapshot (a_root r) e (omega arith)
  targets_fresh_lem on (a_timestamp t) e = snapshot-fresh on.on_snapshot (a_timestamp t) e (omega arith)
  targets_fresh_lem on (a_snapshot n) e = snapshot-fresh on.on_snapshot (a_snapshot n) e (omega arith)
  targets_fresh_lem on (a_targets g) e = same-fresh a_targets on.targets_held on.targets_fresh e

  -- a call that leans on nothing looks at no date
  looks_nowhere : {c : Call} {X : Type 0} (x : Item) → leans_up_to c ≡ 0 → LooksAt s c x → X
  looks_nowhere (a_root r) z (leans_on e l) = absurd (omega arith)
  looks_nowhere (a_timestamp t) z (leans_on e l) = absurd (omega arith)
  looks_nowhere (a_snapshot n) z (leans_on e l) = absurd (omega arith)
  looks_nowhere (a_targets g) z (leans_on e l) = absurd (omega arith)
  looks_nowhere x z (offers e l) = absurd (omega arith)

  module _ (read : RootRead s) where
    fresh_at : (c : Call) (x : Item) → answer s c ≡ 0 → LooksAt s c x → IsFresh x
    unfolding keep_targets offered
    fresh_at (new_cycle t) x a k = looks_nowhere x refl k
    fresh_at (new_root o) x a k = looks_nowhere x refl k
    fresh_at (new_timestamp o) x a (leans_on e l) = let g = timestamp-good s o read a in root-fresh g.1.on x e l
    fresh_at (new_timestamp o) x a (offers e l) =
        let g = timestamp-good s o read a in same-fresh (λ x. x) (timestamp-offered s o g.0 g.1) g.1.fresh e
    fresh_at (new_snapshot o) x a (leans_on e l) = let g = snapshot-good s o read a in timestamp-fresh g.1.on x e l
    fresh_at (new_snapshot o) x a (offers e l) =
        let g = snapshot-good s o read a in same-fresh (λ x. x) (snapshot-offered s o g.0 g.1) g.1.fresh e
    fresh_at (new_targets o) x a (leans_on e l) = let g = targets-good s o read a in snapshot-fresh g.1.on x e l
    fresh_at (new_targets o) x a (offers e l) =
        let g = targets-good s o read a in same-fresh (λ x. x) (targets-offered s o g.0 g.1) g.1.fresh e
    fresh_at (find q) x a (leans_on e l) = targets_fresh_lem (find-good s q a).1.on x e
    fresh_at (find q) x a (offers e l) = none-not-some e
    fresh_at (ask_key k) x a w = looks_nowhere x refl w
    fresh_at ask_state x a w = looks_nowhere x refl w

    pub found-fresh : (c : Call) (x : Item) → answer s c ≡ 0 → LooksAt s c x → FindsFresh s c x
    found-fresh c x a k = record { looks = k; fresh = fresh_at c x a k }

  -- ## Expired

  abbrev FindsOne : Call → Type 0
  FindsOne c = (x : Item) × FindsExpired s c x

  held-past : {A : Type 0} {c : Call} (item : A → Item) (part : Option A) → ((a : A) → part ≡ Some a → IsHeld s (item a))
      → ((a : A) → rank (item a) ≤ leans_up_to c) → of_held part (λ a. expired (expires_of (item a)) s.start) ≡ true → FindsOne c
  held-past item part held l e =
      let w = held-true part _ e in
      (item w.0, record { looks = leans_on (held w.0 w.1) (l w.0); expired = (expired-exactly _ _).0 w.2 })

  -- the lines of 7, in the order of the roles
  abbrev past : ℕ → Bool
  past zero = of_held s.root (λ r. expired r.expires s.start)
  past (suc zero) = of_held s.timestamp (λ t. expired t.expires s.start)
  past (suc (suc zero)) = of_held s.snapshot (λ n. expired n.expires s.start)
  past (suc (suc (suc zero))) = of_held s.targets (λ g. expired g.expires s.start)
  past (suc (suc (suc (suc k)))) = false

  by-past : (c : Call) (k : ℕ) → k < leans_up_to c → past k ≡ true → FindsOne c
  by-past c zero l e = held-past a_root s.root (λ a q. q) (λ a. omega arith) e
  by-past c (suc zero) l e = held-past a_timestamp s.timestamp (λ a q. q) (λ a. omega arith) e
  by-past c (suc (suc zero)) l e = held-past a_snapshot s.snapshot (λ a q. q) (λ a. omega arith) e
  by-past c (suc (suc (suc zero))) l e = held-past a_targets s.targets (λ a q. q) (λ a. omega arith) e
  by-past c (suc (suc (suc (suc k)))) l e = never (sym e)

  -- the one line of 14
  by-offer : {A : Type 0} (c : Call) (item : A → Item) (rd : Read A) → offered c ≡ what_says item rd → 1 ≤ leans_up_to c → (a : A) (es : List Bytes)
      → rd ≡ says a es → (k : ℕ) → elim k as (λ x. Bool) [ zero ↦ expired (expires_of (item a)) s.start | suc j ↦ false ] ≡ true → FindsOne c
  by-offer c item rd o l a es y zero e =
      (item a, record { looks = offers (o ∙ says_what item y) l; expired = (expired-exactly _ _).0 e })
  by-offer c item rd o l a es y (suc k) e = never (sym e)

  -- ## .. by call

  module _ (o : FileOffer) where
    timestamp-past : (t : Timestamp) (es : List Bytes) (k : ℕ) → condition 7 k (timestamp_table s o t es) ≡ true → FindsOne (new_timestamp o)
    unfolding timestamp_table
    timestamp-past t es zero e = by-past (new_timestamp o) 0 (omega arith) e
    timestamp-past t es (suc k) e = never (sym e)

    snapshot-past : (n : Snapshot) (es : List Bytes) (k : ℕ) → condition 7 k (snapshot_table s o n es) ≡ true → FindsOne (new_snapshot o)
    unfolding snapshot_table
    snapshot-past n es zero e = by-past (new_snapshot o) 0 (omega arith) e
    snapshot-past n es (suc zero) e = by-past (new_snapshot o) 1 (omega arith) e
    snapshot-past n es (suc (suc k)) e = never (sym e)

    targets-past : (g : File (List Image)) (es : List Bytes) (k : ℕ) → condition 7 k (targets_table s o g es) ≡ true → FindsOne (new_targets o)
    unfolding targets_table
    targets-past g es zero e = by-past (new_targets o) 0 (omega arith) e
    targets-past g es (suc zero) e = by-past (new_targets o) 1 (omega arith) e
    targets-past g es (suc (suc zero)) e = by-past (new_targets o) 2 (omega arith) e
    targets-past g es (suc (suc (suc k))) e = never (sym e)

  find_past : (q : Query) (g : File (List Image)) (es : List Bytes) (k : ℕ) → condition 7 k (find_table s q g es) ≡ true → FindsOne (find q)
  unfolding find_table
  find_past q g es zero e = by-past (find q) 0 (omega arith) e
  find_past q g es (suc zero) e = by-past (find q) 1 (omega arith) e
  find_past q g es (suc (suc zero)) e = by-past (find q) 2 (omega arith) e
  find_past q g es (suc (suc (suc zero))) e = by-past (find q) 3 (omega arith) e
  find_past q g es (suc (suc (suc (suc k)))) e = never (sym e)

  -- a line of 7 or of 14 that answered
  module _ {A : Type 0} (c : Call) (rd : Read A) (table : A → List Bytes → List Refusal) where
    by_seven : ((a : A) (es : List Bytes) (k : ℕ) → condition 7 k (table a es) ≡ true → FindsOne c) → judged rd table ≡ 7 → FindsOne c
    by_seven line e = judged_line rd table 7 (omega arith) (omega arith) (λ a es y. line a es) e

    by_fourteen : ((a : A) (es : List Bytes) → rd ≡ says a es → (k : ℕ) → condition 14 k (table a es) ≡ true → FindsOne c) → judged rd table ≡ 14
        → FindsOne c
    by_fourteen line e = judged_line rd table 14 (omega arith) (omega arith) line e

  pub found-expired : (c : Call) → (answer s c ≡ 7) ⊎ (answer s c ≡ 14) → FindsOne c
  unfolding answer offered keep_targets cycle_table root_table timestamp_table snapshot_table targets_table find_table key_table
  found-expired (new_cycle t) (inl e) = never (sym (line_holds (cycle_table s t) 7 (λ z. omega arith) e).1)
  found-expired (new_cycle t) (inr e) = never (sym (line_holds (cycle_table s t) 14 (λ z. omega arith) e).1)
  found-expired (new_root o) (inl e) = by_seven _ (root_in o.file) (root_table s o) (λ a es k q. never (sym q)) e
  found-expired (new_root o) (inr e) = by_fourteen _ (root_in o.file) (root_table s o) (λ a es y k q. never (sym q)) e
  found-expired (new_timestamp o) (inl e) = by_seven _ (timestamp_in o.file) (timestamp_table s o) (timestamp-past o) e
  found-expired (new_timestamp o) (inr e) =
      by_fourteen _ (timestamp_in o.file) (timestamp_table s o) (by-offer _ a_timestamp _ refl (omega arith)) e
  found-expired (new_snapshot o) (inl e) = by_seven _ (snapshot_in o.file) (snapshot_table s o) (snapshot-past o) e
  found-expired (new_snapshot o) (inr e) =
      by_fourteen _ (snapshot_in o.file) (snapshot_table s o) (by-offer _ a_snapshot _ refl (omega arith)) e
  found-expired (new_targets o) (inl e) = by_seven _ (targets_in o.file) (targets_table s o) (targets-past o) e
  found-expired (new_targets o) (inr e) =
      by_fourteen _ (targets_in o.file) (targets_table s o)
      (by-offer (new_targets o) (λ g. a_targets (keep_targets o.file g)) _ refl (omega arith)) e
  found-expired (find q) (inl e) = by_seven _ (targets_in q.file) (find_table s q) (find_past q) e
  found-expired (find q) (inr e) = by_fourteen _ (targets_in q.file) (find_table s q) (λ a es y k w. never (sym w)) e
  found-expired (ask_key k) (inl e) = never (sym (line_holds (key_table s k) 7 (λ z. omega arith) e).1)
  found-expired (ask_key k) (inr e) = never (sym (line_holds (key_table s k) 14 (λ z. omega arith) e).1)
  found-expired ask_state (inl e) = absurd (omega arith)
  found-expired ask_state (inr e) = absurd (omega arith)
