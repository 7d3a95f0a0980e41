-- Demand 2 for the written rules: each call answers 0 exactly when all of its conditions hold, and what it then gives.
use mathlib.Core.Path.{◌≡◌, refl, ap, ◌∙◌}
use Rattle.std.specs.declared.option.Option.TheVariants.{Some}
use mathlib.Core.Logic.{◌↔◌}
use mathlib.Core.Bool.{Bool, true, false}
use mathlib.Core.List.Memᴰ
use mathlib.Core.List.{List, [], ◌∷◌}
use native.Mathlib.Omega.{arith}
use native.Mathlib.Nat.{le_of_lt}
use lib.IntN.{ℤ}
use lib.ListN.{length}
use lib.Signed.{◌≤ℤ◌, ◌<ℤ◌}
use borrow.Author.Tests.{eq-eqb, eqb-true, ltb-false, le-ltb, eqb-false, ne_eqb, leb-false, lt-leb, not-false}
use Rattle.base.specs.Bytes.{Bytes}
use Rattle.base.specs.Hex.{undo}
use Rattle.date.specs.Calendar.{expired, earlier}
use Rattle.rules.specs.Limits.{max_version, key_size}
use Rattle.rules.specs.Records.{Key, Image, File, says}
use Rattle.rules.specs.State.{Root, Timestamp, Snapshot, State, blank, root_in, timestamp_in, snapshot_in, targets_in, keep_targets, Install, RootOffer, FileOffer, Query, new_cycle, new_root, new_timestamp, new_snapshot, new_targets, find, ask_key}
use Rattle.rules.specs.Table.{◌when◌, first, of_held, absent}
use Rattle.rules.specs.Conditions.{stale_snapshot, stale_targets, image_of, key_of}
use Rattle.rules.specs.Steps.{install_table, cycle_table, root_table, timestamp_table, snapshot_table, targets_table, find_table, key_table, install_answer, installed, begun, root_alone, answer, refuses, next, with_start, with_root, with_timestamp, with_snapshot, with_targets, a_root, a_timestamp, a_snapshot, a_targets, offered, started, trusting, after_root}
use Rattle.rules.specs.Asked.{Found, image_table, image_answer, nothing_found, the_image, in_targets, found, zeros, public_of, in_root, public_key}
use Rattle.rules.specs.Words.{Different, IsVersion}
use Rattle.rules.specs.Exactly.{LeansOnRoot, LeansOnTimestamp, LeansOnSnapshot, LeansOnTargets, InstallGood, RootGood, TimestampGood, SnapshotGood, TargetsGood, FindGood, KeyGood, ImageGood, RootRead}
use Rattle.rules.proofs.OptionLaws.{not-absent}
use Rattle.rules.proofs.ListLaws.{not-exactly, same-exactly}
use Rattle.rules.proofs.WordLaws.{row-good, digest-good, version-exactly, fresh-exactly, earlier-exactly, not_earlier, enough_passes, passes_enough, keeps-exactly, matches-exactly}
use Rattle.rules.proofs.RootLaws.{root-different}
use Rattle.rules.proofs.VersionLaws.{root-versions}
use Rattle.rules.proofs.TableLaws.{one-held, ◌&◌, clear_first, no_line, held_test, test_held, judged-says, says-judged}
use Rattle.rules.proofs.NextLaws.{next-none, next-trusting, says_what}

-- ## Root

-- the roles of a root that was read name no key twice
differ : (s : State) {r : Root} → RootRead s → s.root ≡ Some r
    → Different r.root_role.keyids × Different r.timestamp_role.keyids × Different r.snapshot_role.keyids × Different r.targets_role.keyids
differ s {r} read e = let w = read r e in root-different w.0 r w.1 w.2

module _ (s : State) (o : RootOffer) where
  pub root-good : RootRead s → answer s (new_root o) ≡ 0 → (r : Root) × RootGood s o r
  unfolding answer root_table
  root-good read a =
      let j = judged-says (root_in o.file) (root_table s o) a in
      let p = no_line (root_table s o j.file j.entries) refl j.clear in
      let h = (not-absent s.root).0 (p 6 0) in (
        j.file,
        record {
          entries = j.entries;
          reads = j.reads;
          held_row = (row-good _ _).0 (p 5 0);
          own_row = (row-good _ _).0 (p 5 1);
          held = h.0;
          is_held = h.1;
          held_keys = passes_enough _ _ _ (differ s read h.1).0 (held_test _ h.1 (p 9 0));
          own_keys = passes_enough _ _ _ (root-different o.file j.file j.entries j.reads).0 (p 10 0);
          version = (version-exactly _ _).0 (held_test _ h.1 (p 11 0));
        },
      )

  -- a next root would have a version above all that are read
  pub no-next-root : RootRead s → (held : Root) → s.root ≡ Some held → held.version ≡ max_version → ¬ (answer s (new_root o) ≡ 0)
  no-next-root read held e top a =
      let g = root-good read a in
      let new : IsVersion g.0.version = root-versions o.file g.0 g.1.entries g.1.reads _ (Memᴰ.head refl) in
      let one : g.1.held.version ≡ held.version = ap (λ (r : Root). r.version) (one-held g.1.is_held e) in
      omega (arith, new.at_most, g.1.version, one, top)

  pub good-root : (r : Root) → RootGood s o r → answer s (new_root o) ≡ 0
  unfolding answer root_table
  good-root r g =
      says-judged (root_table s o) g.reads
      ((row-good _ _).1 g.held_row
      & (row-good _ _).1 g.own_row
      & (not-absent _).1 (_, g.is_held)
      & rw g.is_held (enough_passes _ _ _ g.held_keys)
      & enough_passes _ _ _ g.own_keys
      & rw g.is_held ((version-exactly _ _).1 g.version)
      & tt)

  pub root-offered : (r : Root) → RootGood s o r → offered (new_root o) ≡ Some (a_root r)
  unfolding offered
  root-offered r g = says_what a_root g.reads

  pub root-after : (r : Root) (g : RootGood s o r) → next s (new_root o) ≡ with_root s g.held r
  unfolding trusting started after_root
  root-after r g = next-trusting s (new_root o) (a_root r) (root-offered r g) (good-root r g) ∙ rw g.is_held

-- ## Timestamp

-- "leans on root": held and not expired
leans_on-root : (s : State) → absent s.root ≡ false → of_held s.root (λ r. expired r.expires s.start) ≡ false → LeansOnRoot s
leans_on-root s held fresh =
    let h = (not-absent s.root).0 held in
    record { root = h.0; root_held = h.1; root_fresh = (fresh-exactly _ _).0 (held_test _ h.1 fresh) }

module _ (s : State) (o : FileOffer) where
  pub timestamp-good : RootRead s → answer s (new_timestamp o) ≡ 0 → (t : Timestamp) × TimestampGood s o t
  unfolding answer timestamp_table
  timestamp-good read a =
      let j = judged-says (timestamp_in o.file) (timestamp_table s o) a in
      let p = no_line (timestamp_table s o j.file j.entries) refl j.clear in
      let on = leans_on-root s (p 6 0) (p 7 0) in (
        j.file,
        record {
          entries = j.entries;
          reads = j.reads;
          row = (row-good _ _).0 (p 5 0);
          on = on;
          keys = passes_enough _ _ _ (differ s read on.root_held).1 (held_test _ on.root_held (p 9 0));
          newer =
              λ h e.
              omega (arith, ltb-false j.file.version h.version (held_test _ e (p 11 0)), eqb-false j.file.version h.version (held_test _ e (p 12 0)));
          not_lower = λ h e. ltb-false _ _ (held_test _ e (p 13 0));
          fresh = (fresh-exactly _ _).0 (p 14 0);
        },
      )

  pub good-timestamp : (t : Timestamp) → TimestampGood s o t → answer s (new_timestamp o) ≡ 0
  unfolding answer timestamp_table
  good-timestamp t g =
      let held = g.on.root_held in
      says-judged (timestamp_table s o) g.reads
      ((row-good _ _).1 g.row
      & (not-absent _).1 (_, held)
      & rw held ((fresh-exactly _ _).1 g.on.root_fresh)
      & rw held (enough_passes _ _ _ g.keys)
      & test_held s.timestamp _ (λ h e. le-ltb _ _ (le_of_lt (g.newer h e)))
      & test_held s.timestamp _ (λ h e. ne_eqb _ _ (λ (q : t.version ≡ h.version). let l = g.newer h e in omega arith))
      & test_held s.timestamp _ (λ h e. le-ltb _ _ (g.not_lower h e))
      & (fresh-exactly _ _).1 g.fresh
      & tt)

  pub timestamp-offered : (t : Timestamp) → TimestampGood s o t → offered (new_timestamp o) ≡ Some (a_timestamp t)
  unfolding offered
  timestamp-offered t g = says_what a_timestamp g.reads

  pub timestamp-after : (t : Timestamp) → TimestampGood s o t → next s (new_timestamp o) ≡ with_timestamp s t
  unfolding trusting started
  timestamp-after t g = next-trusting s (new_timestamp o) (a_timestamp t) (timestamp-offered t g) (good-timestamp t g)

-- ## Snapshot

leans_on-timestamp : (s : State) → LeansOnRoot s → absent s.timestamp ≡ false
    → of_held s.timestamp (λ t. expired t.expires s.start) ≡ false → LeansOnTimestamp s
leans_on-timestamp s on held fresh =
    let h = (not-absent s.timestamp).0 held in
    record {
      on_root = on;
      timestamp = h.0;
      timestamp_held = h.1;
      timestamp_fresh = (fresh-exactly _ _).0 (held_test _ h.1 fresh);
    }

module _ (s : State) (o : FileOffer) where
  pub snapshot-good : RootRead s → answer s (new_snapshot o) ≡ 0 → (n : Snapshot) × SnapshotGood s o n
  unfolding answer snapshot_table
  snapshot-good read a =
      let j = judged-says (snapshot_in o.file) (snapshot_table s o) a in
      let p = no_line (snapshot_table s o j.file j.entries) refl j.clear in
      let on = leans_on-timestamp s (leans_on-root s (p 6 0) (p 7 0)) (p 6 1) (p 7 1) in
      let root = on.on_root.root_held in
      let listed = on.timestamp_held in (
        j.file,
        record {
          entries = j.entries;
          reads = j.reads;
          row = (row-good _ _).0 (p 5 0);
          on = on;
          matches = (matches-exactly _ _ _).0 (held_test _ listed (p 8 0), held_test _ listed (p 8 1));
          keys = passes_enough _ _ _ (differ s read root).2 (held_test _ root (p 9 0));
          version = (version-exactly _ _).0 (held_test _ listed (p 11 0));
          keeps = λ h e. (keeps-exactly _ _).0 (held_test _ e (p 13 0));
          fresh = (fresh-exactly _ _).0 (p 14 0);
        },
      )

  pub good-snapshot : (n : Snapshot) → SnapshotGood s o n → answer s (new_snapshot o) ≡ 0
  unfolding answer snapshot_table
  good-snapshot n g =
      let root = g.on.on_root.root_held in
      let listed = g.on.timestamp_held in
      let m = (matches-exactly _ _ _).1 g.matches in
      says-judged (snapshot_table s o) g.reads
      ((row-good _ _).1 g.row
      & (not-absent _).1 (_, root)
      & (not-absent _).1 (_, listed)
      & rw root ((fresh-exactly _ _).1 g.on.on_root.root_fresh)
      & rw listed ((fresh-exactly _ _).1 g.on.timestamp_fresh)
      & rw listed m.0
      & rw listed m.1
      & rw root (enough_passes _ _ _ g.keys)
      & rw listed ((version-exactly _ _).1 g.version)
      & test_held s.snapshot _ (λ h e. (keeps-exactly _ _).1 (g.keeps h e))
      & (fresh-exactly _ _).1 g.fresh
      & tt)

  pub snapshot-offered : (n : Snapshot) → SnapshotGood s o n → offered (new_snapshot o) ≡ Some (a_snapshot n)
  unfolding offered
  snapshot-offered n g = says_what a_snapshot g.reads

  pub snapshot-after : (n : Snapshot) → SnapshotGood s o n → next s (new_snapshot o) ≡ with_snapshot s n
  unfolding trusting started
  snapshot-after n g = next-trusting s (new_snapshot o) (a_snapshot n) (snapshot-offered n g) (good-snapshot n g)

-- ## Targets

leans_on-snapshot : (s : State) → LeansOnTimestamp s → absent s.snapshot ≡ false → stale_snapshot s ≡ false
    → of_held s.snapshot (λ n. expired n.expires s.start) ≡ false → LeansOnSnapshot s
unfolding stale_snapshot
leans_on-snapshot s on held current fresh =
    let h = (not-absent s.snapshot).0 held in
    record {
      on_timestamp = on;
      snapshot = h.0;
      snapshot_held = h.1;
      snapshot_current = (version-exactly _ _).0 (rw (on.timestamp_held, h.1) at current);
      snapshot_fresh = (fresh-exactly _ _).0 (held_test _ h.1 fresh);
    }

not_stale : (s : State) (on : LeansOnSnapshot s) → stale_snapshot s ≡ false
unfolding stale_snapshot
not_stale s on = rw (on.on_timestamp.timestamp_held, on.snapshot_held) ((version-exactly _ _).1 on.snapshot_current)

module _ (s : State) (o : FileOffer) where
  pub targets-good : RootRead s → answer s (new_targets o) ≡ 0 → (g : File (List Image)) × TargetsGood s o g
  unfolding answer targets_table
  targets-good read a =
      let j = judged-says (targets_in o.file) (targets_table s o) a in
      let p = no_line (targets_table s o j.file j.entries) refl j.clear in
      let on =
      leans_on-snapshot s (leans_on-timestamp s (leans_on-root s (p 6 0) (p 7 0)) (p 6 1) (p 7 1)) (p 6 2) (p 6 3) (p 7 2)
      in
      let root = on.on_timestamp.on_root.root_held in
      let listed = on.snapshot_held in (
        j.file,
        record {
          entries = j.entries;
          reads = j.reads;
          row = (row-good _ _).0 (p 5 0);
          on = on;
          matches = (matches-exactly _ _ _).0 (held_test _ listed (p 8 0), held_test _ listed (p 8 1));
          keys = passes_enough _ _ _ (differ s read root).3 (held_test _ root (p 9 0));
          version = (version-exactly _ _).0 (held_test _ listed (p 11 0));
          fresh = (fresh-exactly _ _).0 (p 14 0);
        },
      )

  pub good-targets : (f : File (List Image)) → TargetsGood s o f → answer s (new_targets o) ≡ 0
  unfolding answer targets_table
  good-targets f g =
      let root = g.on.on_timestamp.on_root.root_held in
      let timestamp = g.on.on_timestamp.timestamp_held in
      let listed = g.on.snapshot_held in
      let m = (matches-exactly _ _ _).1 g.matches in
      says-judged (targets_table s o) g.reads
      ((row-good _ _).1 g.row
      & (not-absent _).1 (_, root)
      & (not-absent _).1 (_, timestamp)
      & (not-absent _).1 (_, listed)
      & not_stale s g.on
      & rw root ((fresh-exactly _ _).1 g.on.on_timestamp.on_root.root_fresh)
      & rw timestamp ((fresh-exactly _ _).1 g.on.on_timestamp.timestamp_fresh)
      & rw listed ((fresh-exactly _ _).1 g.on.snapshot_fresh)
      & rw listed m.0
      & rw listed m.1
      & rw root (enough_passes _ _ _ g.keys)
      & rw listed ((version-exactly _ _).1 g.version)
      & (fresh-exactly _ _).1 g.fresh
      & tt)

  pub targets-offered : (f : File (List Image)) → TargetsGood s o f → offered (new_targets o) ≡ Some (a_targets (keep_targets o.file f))
  unfolding offered
  targets-offered f g = says_what (λ x. a_targets (keep_targets o.file x)) g.reads

  pub targets-after : (f : File (List Image)) → TargetsGood s o f → next s (new_targets o) ≡ with_targets s (keep_targets o.file f)
  unfolding trusting started
  targets-after f g =
      next-trusting s (new_targets o) (a_targets (keep_targets o.file f)) (targets-offered f g) (good-targets f g)

-- ## Find

leans_on-targets : (s : State) → LeansOnSnapshot s → absent s.targets ≡ false → stale_targets s ≡ false
    → of_held s.targets (λ k. expired k.expires s.start) ≡ false → LeansOnTargets s
unfolding stale_targets
leans_on-targets s on held current fresh =
    let h = (not-absent s.targets).0 held in
    record {
      on_snapshot = on;
      targets = h.0;
      targets_held = h.1;
      targets_current = (version-exactly _ _).0 (rw (on.snapshot_held, h.1) at current);
      targets_fresh = (fresh-exactly _ _).0 (held_test _ h.1 fresh);
    }

targets-not_stale : (s : State) (on : LeansOnTargets s) → stale_targets s ≡ false
unfolding stale_targets
targets-not_stale s on = rw (on.on_snapshot.snapshot_held, on.targets_held) ((version-exactly _ _).1 on.targets_current)

module _ (s : State) (q : Query) where
  pub find-good : answer s (find q) ≡ 0 → (i : Image) × FindGood s q i
  unfolding answer find_table
  find-good a =
      let j = judged-says (targets_in q.file) (find_table s q) a in
      let p = no_line (find_table s q j.file j.entries) refl j.clear in
      let on =
      leans_on-targets s
      (leans_on-snapshot s (leans_on-timestamp s (leans_on-root s (p 6 0) (p 7 0)) (p 6 1) (p 7 1)) (p 6 2) (p 6 4) (p 7 2))
      (p 6 3) (p 6 5) (p 7 3)
      in
      let i = (not-absent (image_of q.path j.file.body)).0 (p 15 2) in (
        i.0,
        record {
          file = j.file;
          entries = j.entries;
          reads = j.reads;
          on = on;
          kept = (not-exactly _ (same-exactly _ _)).0 (held_test _ on.targets_held (p 8 0));
          not_empty = leb-false (length q.path) 0 (p 15 0);
          not_long = ltb-false _ _ (p 15 1);
          listed = i.1;
        },
      )

  pub good-find : (i : Image) → FindGood s q i → answer s (find q) ≡ 0
  unfolding answer find_table
  good-find i g =
      let on_snapshot = g.on.on_snapshot in
      let on_timestamp = on_snapshot.on_timestamp in
      let on_root = on_timestamp.on_root in
      says-judged (find_table s q) g.reads
      ((not-absent _).1 (_, on_root.root_held)
      & (not-absent _).1 (_, on_timestamp.timestamp_held)
      & (not-absent _).1 (_, on_snapshot.snapshot_held)
      & (not-absent _).1 (_, g.on.targets_held)
      & not_stale s on_snapshot
      & targets-not_stale s g.on
      & rw on_root.root_held ((fresh-exactly _ _).1 on_root.root_fresh)
      & rw on_timestamp.timestamp_held ((fresh-exactly _ _).1 on_timestamp.timestamp_fresh)
      & rw on_snapshot.snapshot_held ((fresh-exactly _ _).1 on_snapshot.snapshot_fresh)
      & rw g.on.targets_held ((fresh-exactly _ _).1 g.on.targets_fresh)
      & rw g.on.targets_held ((not-exactly _ (same-exactly _ _)).1 g.kept)
      & lt-leb _ _ g.not_empty
      & le-ltb _ _ g.not_long
      & (not-absent _).1 (_, g.listed)
      & tt)

  pub finds : (i : Image) → FindGood s q i → found s q ≡ record { length = i.length; digest = i.digest }
  unfolding found refuses in_targets the_image
  finds i g = rw (good-find i g, g.reads, g.listed)

  pub finds-nothing : ¬ (answer s (find q) ≡ 0) → found s q ≡ nothing_found
  unfolding found refuses
  finds-nothing f = rw (ne_eqb _ _ f)

-- ## Key

module _ (s : State) (k : Bytes) where
  pub key-good : answer s (ask_key k) ≡ 0 → (x : Key) × KeyGood s k x
  unfolding answer key_table
  key-good a =
      let p = no_line (key_table s k) refl a in
      let h = (not-absent s.root).0 (p 6 0) in
      let x = (not-absent (key_of (undo k) h.0.keys)).0 (held_test _ h.1 (p 15 1)) in
      (x.0, record { root = h.0; root_held = h.1; hex = not-false _ (p 15 0); listed = x.1 })

  pub good-key : (x : Key) → KeyGood s k x → answer s (ask_key k) ≡ 0
  unfolding answer key_table
  good-key x g =
      clear_first (key_table s k) ((not-absent _).1 (_, g.root_held) & rw g.hex refl & rw g.root_held ((not-absent _).1 (_, g.listed)) & tt)

  pub key-given : (x : Key) → KeyGood s k x → public_key s k ≡ x.public
  unfolding public_key refuses in_root public_of
  key-given x g = rw (good-key x g, g.root_held, g.listed)

  pub no_key_lem : ¬ (answer s (ask_key k) ≡ 0) → public_key s k ≡ zeros key_size
  unfolding public_key refuses
  no_key_lem f = rw (ne_eqb _ _ f)

-- ## Image

pub image-good : (listed fetched : Found) → image_answer listed fetched ≡ 0 → ImageGood listed fetched
unfolding image_answer image_table
image-good listed fetched a =
    let p = no_line (image_table listed fetched) refl a in
    record {
      listed_digest = (digest-good _).0 (p 5 0);
      fetched_digest = (digest-good _).0 (p 5 1);
      same_length = eqb-true _ _ (not-false _ (p 8 0));
      same_digest = (not-exactly _ (same-exactly _ _)).0 (p 8 1);
    }

pub good-image : (listed fetched : Found) → ImageGood listed fetched → image_answer listed fetched ≡ 0
unfolding image_answer image_table
good-image listed fetched g =
    clear_first (image_table listed fetched)
    ((digest-good _).1 g.listed_digest
    & (digest-good _).1 g.fetched_digest
    & rw (eq-eqb listed.length fetched.length g.same_length) refl
    & (not-exactly _ (same-exactly _ _)).1 g.same_digest
    & tt)

-- ## New cycle

module _ (s : State) (t : ℤ) where
  pub cycle-good : answer s (new_cycle t) ≡ 0 → s.start ≤ℤ t
  unfolding answer cycle_table
  cycle-good a = (not_earlier t s.start).0 (no_line (cycle_table s t) refl a 17 0)

  pub good-cycle : s.start ≤ℤ t → answer s (new_cycle t) ≡ 0
  unfolding answer cycle_table
  good-cycle h = clear_first (cycle_table s t) ((not_earlier t s.start).1 h & tt)

  pub cycle-earlier : (answer s (new_cycle t) ≡ 17) ↔ (t <ℤ s.start)
  unfolding answer cycle_table first
  cycle-earlier = (λ e. (earlier-exactly t s.start).0 (holds (earlier t s.start) e), λ h. rw ((earlier-exactly t s.start).1 h))
    where
      holds : (b : Bool) → first (17 when b ∷ []) ≡ 17 → b ≡ true
      holds true e = refl
      holds false e = absurd (omega arith)

  pub cycle-after : s.start ≤ℤ t → next s (new_cycle t) ≡ with_start s t
  unfolding offered started
  cycle-after h = next-none s (new_cycle t) refl (good-cycle h)

-- ## Install

module _ (o : Install) where
  pub install-good : install_answer o ≡ 0 → (r : Root) × InstallGood o r
  unfolding install_answer install_table
  install-good a =
      let j = judged-says (root_in o.file) (install_table o) a in
      let p = no_line (install_table o j.file j.entries) refl j.clear in (
        j.file,
        record {
          entries = j.entries;
          reads = j.reads;
          row = (row-good _ _).0 (p 5 0);
          own_keys = passes_enough _ _ _ (root-different o.file j.file j.entries j.reads).0 (p 10 0);
        },
      )

  pub good-install : (r : Root) → InstallGood o r → install_answer o ≡ 0
  unfolding install_answer install_table
  good-install r g =
      says-judged (install_table o) g.reads ((row-good _ _).1 g.row & enough_passes _ _ _ g.own_keys & tt)

  pub install-after : (r : Root) (es : List Bytes) → root_in o.file ≡ says r es → install_answer o ≡ 0
      → installed o ≡ root_alone r o.start
  unfolding installed begun
  install-after r es reads a = rw (a, reads)

  pub install-refused : ¬ (install_answer o ≡ 0) → installed o ≡ blank
  unfolding installed
  install-refused f = rw (ne_eqb _ _ f)
