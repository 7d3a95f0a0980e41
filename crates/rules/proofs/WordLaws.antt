-- The paper's words (specs/Words) against the tests that decide them (specs/Conditions).
use mathlib.Core.Path.{◌≡◌, refl, sym, ap}
use mathlib.Core.Logic.{◌↔◌, ⊎_elim}
use Rattle.std.specs.declared.option.Option.{Option}
use Rattle.std.specs.declared.option.Option.TheVariants.{None, Some}
use mathlib.Core.Bool.{Bool, true, false, not, cond, ◌&&◌, or-true}
use mathlib.Core.List.{List, [], ◌∷◌, Memᴰ}
use Prim.Native.Nat.{ℕ, ◌≤◌}
use native.Mathlib.Omega.{arith}
use native.Mathlib.Nat.{le_trans}
use borrow.Author.Tests.{eqb-true, eq-eqb, ltb-false, le-ltb}
use lib.Dec.{T, eqb, ltb}
use lib.IntN.{ℤ}
use lib.ListN.{length}
use lib.Signed.{lt_z, le_z, ◌≤ℤ◌, ◌<ℤ◌, le_z_yes, lt_z_yes, lt_z_no, clash_ℤ}
use Rattle.base.specs.Bytes.{Bytes, bytes, same}
use Rattle.base.proofs.ByteLaws.{same_self, same_true}
use Rattle.base.proofs.TestLaws.{never}
use Rattle.date.specs.Calendar.{expired, earlier}
use Rattle.rules.specs.Limits.{digest_size}
use Rattle.rules.specs.Records.{Role, Listed, Named}
use Rattle.rules.specs.Forms.{is_in}
use Rattle.rules.specs.State.{Root, Snapshot, Row, filter}
use Rattle.rules.specs.Conditions.{any, bad_row, bad_digest, other_version, listed_as, targets_entry, other_length, other_digest, signed, count, too_few, fallen, lost, within, other_keys, rotated, rotates, rotates_targets}
use Rattle.rules.specs.Words.{GoodRow, GoodDigest, Signed, here, later, Different, Signers, Enough, SameKeys, Rotated, Expired, Keeps, Matches}
use Rattle.rules.specs.History.{Rotation, AnyRotation}
use Rattle.rules.proofs.OptionLaws.{none-not-some, some_is, held-false}
use Rattle.rules.proofs.ListLaws.{false-exactly, true-exactly, neither-exactly, both-exactly, either_exactly, not-exactly, same-exactly, any_false, all_true, is-in, no_longer, filtered, filter-different}

-- ## Equal numbers, equal bytes

unequal : (a b : ℕ) → (not (eqb a b) ≡ false) ↔ (a ≡ b)
unequal a b = not-exactly (eqb a b) (eqb-true a b, eq-eqb a b)

unlike : (a b : Bytes) → (not (same a b) ≡ false) ↔ (a ≡ b)
unlike a b = not-exactly (same a b) (same-exactly a b)

-- ## Refusal 5

pub row-good : (es : List Bytes) (row : Row) → (bad_row es row ≡ false) ↔ GoodRow es row
unfolding bad_row
row-good es row =
    let w = neither-exactly (not (eqb (length row) (length es))) (any (λ v. ltb 1 v) row) (unequal (length row) (length es)) (any_false (λ v. ltb 1 v) row) in (
      λ e. record { long = (w.0 e).0; verdicts = λ v m. ltb-false 1 v ((w.0 e).1 v m) },
      λ g. w.1 (g.long, λ v m. le-ltb 1 v (g.verdicts v m)),
    )

pub digest-good : (d : Bytes) → (bad_digest d ≡ false) ↔ GoodDigest d
unfolding bad_digest
digest-good d = unequal (length d) digest_size

-- ## Versions and dates

pub version-exactly : (a b : ℕ) → (other_version a b ≡ false) ↔ (a ≡ b)
unfolding other_version
version-exactly a b = unequal a b

-- a test as a statement
is_true : (b : Bool) → T b ↔ (b ≡ true)
is_true true = (λ t. refl, λ e. tt)
is_true false = (λ t. absurd t, λ e. never (sym e))

pub expired-exactly : (e s : ℤ) → (expired e s ≡ true) ↔ Expired e s
unfolding expired
expired-exactly e s = (λ t. le_z_yes ((is_true (le_z e s)).1 t), λ h. (is_true (le_z e s)).0 h.le)

pub fresh-exactly : (e s : ℤ) → (expired e s ≡ false) ↔ (¬ Expired e s)
fresh-exactly e s = false-exactly (expired e s) (expired-exactly e s)

pub earlier-exactly : (t s : ℤ) → (earlier t s ≡ true) ↔ (t <ℤ s)
unfolding earlier
earlier-exactly t s = (λ e. lt_z_yes ((is_true (lt_z t s)).1 e), λ h. (is_true (lt_z t s)).0 h.lt)

pub not_earlier : (t s : ℤ) → (earlier t s ≡ false) ↔ (s ≤ℤ t)
unfolding earlier
not_earlier t s = (
  λ e. lt_z_no ((is_true (not (lt_z t s))).1 (ap not e)),
  λ h. (false-exactly (earlier t s) (earlier-exactly t s)).1 (λ l. clash_ℤ l h),
)

-- ## Keys

signed_yes : {k : Bytes} {es : List Bytes} {row : Row} → Signed k es row → signed k es row ≡ true
unfolding signed
signed_yes {k} here = rw (same_self k)
signed_yes {k} (later {e} {es} {v} {vs} s) = rw (signed_yes s, or-true (same k e && eqb v 1))

yes_signed : (k : Bytes) (es : List Bytes) (row : Row) → signed k es row ≡ true → Signed k es row
unfolding signed
yes_signed k [] row t = never (sym t)
yes_signed k (e ∷ es) [] t = never (sym t)
yes_signed k (e ∷ es) (v ∷ vs) t =
    let w =
    either_exactly (same k e && eqb v 1) (signed k es vs)
    (both-exactly (same k e) (eqb v 1) (same-exactly k e) (eqb-true v 1, eq-eqb v 1))
    (yes_signed k es vs, signed_yes) in
    ⊎_elim (λ (q : (k ≡ e) × (v ≡ 1)). rw (← q.0, q.1) here) later (w.0 t)

pub signed-exactly : (k : Bytes) (es : List Bytes) (row : Row) → (signed k es row ≡ true) ↔ Signed k es row
signed-exactly k es row = (yes_signed k es row, signed_yes)

module _ (role : Role) (es : List Bytes) (row : Row) where
  -- the keys that count: those of the role that signed
  counting : List Bytes
  counting = filter (λ k. signed k es row) role.keyids

  signers-most : (ks : List Bytes) → Signers role es row ks → length ks ≤ count role es row
  unfolding count
  signers-most ks s =
      no_longer ks (filter (λ k. signed k es row) role.keyids) s.different
      (λ k m. (filtered (λ k. signed k es row) role.keyids k).1 (s.named k m, (signed-exactly k es row).1 (s.signed k m)))

  counting-signers : Different role.keyids → Signers role es row counting
  unfolding counting
  counting-signers d =
      record {
        different = filter-different (λ k. signed k es row) role.keyids d;
        named = λ k m. ((filtered (λ k. signed k es row) role.keyids k).0 m).0;
        signed = λ k m. (signed-exactly k es row).0 ((filtered (λ k. signed k es row) role.keyids k).0 m).1;
      }

  -- the number of different keys of the role that signed
  pub record Counted : Type 0 where
    pub keys : List Bytes
    pub signers : Signers role es row keys
    pub number : count role es row ≡ length keys
    pub most : (ks : List Bytes) → Signers role es row ks → length ks ≤ length keys

  pub count-is : Different role.keyids → Counted
  unfolding count counting
  count-is d = record { keys = counting; signers = counting-signers d; number = refl; most = signers-most }

  pub enough_passes : Enough role es row → too_few role es row ≡ false
  unfolding too_few
  enough_passes h = le-ltb (count role es row) role.threshold (le_trans h.many (signers-most h.keys h.signers))

  pub passes_enough : Different role.keyids → too_few role es row ≡ false → Enough role es row
  unfolding too_few count counting
  passes_enough d e =
      record { keys = counting; signers = counting-signers d; many = ltb-false (count role es row) role.threshold e }

within-exactly : (xs ys : List Bytes) → (within xs ys ≡ true) ↔ ((k : Bytes) → Memᴰ k xs → Memᴰ k ys)
unfolding within
within-exactly xs ys =
    let w = all_true (λ x. is_in x ys) xs in
    (λ e k m. (is-in k ys).0 (w.0 e k m), λ f. w.1 (λ k m. (is-in k ys).1 (f k m)))

same_keys : (old new : Role) → (other_keys old new ≡ false) ↔ SameKeys old new
unfolding other_keys
same_keys old new =
    let w =
    not-exactly (within old.keyids new.keyids && within new.keyids old.keyids)
    (both-exactly (within old.keyids new.keyids) (within new.keyids old.keyids)
    (within-exactly old.keyids new.keyids) (within-exactly new.keyids old.keyids)) in
    (λ e k. ((w.0 e).0 k, (w.0 e).1 k), λ s. w.1 (λ k. (s k).0, λ k. (s k).1))

rotated-exactly : (old new : Role) → (rotated old new ≡ true) ↔ Rotated old new
unfolding rotated
rotated-exactly old new =
    either_exactly (other_keys old new) (not (eqb old.threshold new.threshold))
    (true-exactly (other_keys old new) (same_keys old new))
    (true-exactly (not (eqb old.threshold new.threshold)) (unequal old.threshold new.threshold))

pub rotates-exactly : (old new : Root) → (rotates old new ≡ true) ↔ Rotation old new
unfolding rotates
rotates-exactly old new =
    either_exactly (rotated old.timestamp_role new.timestamp_role) (rotated old.snapshot_role new.snapshot_role)
    (rotated-exactly old.timestamp_role new.timestamp_role) (rotated-exactly old.snapshot_role new.snapshot_role)

pub rotates-targets-exactly : (old new : Root) → (rotates_targets old new ≡ true) ↔ AnyRotation old new
unfolding rotates_targets
rotates-targets-exactly old new =
    either_exactly (rotates old new) (rotated old.targets_role new.targets_role) (rotates-exactly old new)
    (rotated-exactly old.targets_role new.targets_role)

-- ## Lists of names

-- what a list says of a name stands in it
listed-mem : (name : Bytes) (ns : List Named) (l : Listed) → listed_as name ns ≡ Some l
    → (n : Named) × Memᴰ n ns × (n.name ≡ name) × (n.listed ≡ l)
unfolding listed_as
listed-mem name [] l e = none-not-some e
listed-mem name (n ∷ ns) l e = step (same name n.name) refl e (listed-mem name ns l)
  where
    step : (b : Bool) → same name n.name ≡ b → cond b (Some n.listed) (listed_as name ns) ≡ Some l
        → (listed_as name ns ≡ Some l → (m : Named) × Memᴰ m ns × (m.name ≡ name) × (m.listed ≡ l))
        → (m : Named) × Memᴰ m (n ∷ ns) × (m.name ≡ name) × (m.listed ≡ l)
    step true q e more = (n, Memᴰ.head refl, sym (same_true name n.name q), cc)
    step false q e more = let w = more e in (w.0, Memᴰ.tail w.1, w.2, w.3)

still : (n : Named) (o : Option Listed) → (fallen n o ≡ false) ↔ ((l : Listed) × (o ≡ Some l) × (n.listed.version ≤ l.version))
unfolding fallen
still n None = (λ e. never e, λ w. none-not-some w.1)
still n (Some l) = (
  λ e. (l, refl, ltb-false l.version n.listed.version e),
  λ w. rw (some_is w.1) (le-ltb w.0.version n.listed.version w.2),
)

pub keeps-exactly : (old new : List Named) → (lost old new ≡ false) ↔ Keeps old new
unfolding lost
keeps-exactly old new =
    let w = any_false (λ n. fallen n (listed_as n.name new)) old in (
      λ e n m. (still n (listed_as n.name new)).0 (w.0 e n m),
      λ k. w.1 (λ n m. (still n (listed_as n.name new)).1 (k n m)),
    )

pub keeps_trans : (a b c : List Named) → Keeps a b → Keeps b c → Keeps a c
keeps_trans a b c k₁ k₂ n m =
    let w = k₁ n m in
    let g = listed-mem n.name b w.0 w.1 in
    let v = k₂ g.0 g.1 in (
      v.0,
      rw g.2 at v.1,
      le_trans w.2 (rw g.3 at v.2),
    )

-- what is said of `targets.json` does not fall
pub keeps-targets : (a b : Snapshot) → Keeps a.names b.names → (targets_entry a).version ≤ (targets_entry b).version
unfolding targets_entry
keeps-targets a b k = step (listed_as (bytes "targets.json") a.names) refl
  where
    step : (o : Option Listed) → listed_as (bytes "targets.json") a.names ≡ o
        → (elim o as (λ x. Listed) [ None ↦ record { version = 0; length = None; digest = None } | Some l ↦ l ]).version
        ≤ (targets_entry b).version
    step None e = omega arith
    step (Some l) e =
        let g = listed-mem (bytes "targets.json") a.names l e in
        let v = k g.0 g.1 in
        let there : listed_as (bytes "targets.json") b.names ≡ Some v.0 = rw g.2 at v.1 in
        rw there (rw g.3 at v.2)

-- ## As listed

pub matches-exactly : (l : Listed) (n : ℕ) (d : Bytes) → ((other_length l n ≡ false) × (other_digest l d ≡ false)) ↔ Matches l n d
unfolding other_length other_digest
matches-exactly l n d =
    let w = held-false (λ m. n ≡ m) (λ m. not (eqb n m)) l.length (unequal n) in
    let v = held-false (λ e. d ≡ e) (λ e. not (same d e)) l.digest (unlike d) in
    (λ e. record { length-is = w.0 e.0; digest-is = v.0 e.1 }, λ m. (w.1 m.length-is, v.1 m.digest-is))
