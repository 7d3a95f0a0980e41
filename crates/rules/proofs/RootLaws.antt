-- A root that was read: its key table has different keyids, and each kept role has the keyids of the file's role, all different, and a
-- threshold from 1 to their number.
use mathlib.Core.Path.{◌≡◌, refl, sym, ap, ◌∙◌, subst}
use mathlib.Core.Logic.{⊎_elim}
use Rattle.std.specs.declared.option.Option.TheVariants.{Some}
use mathlib.Core.Bool.{Bool, true, false, cond, ◌&&◌}
use mathlib.Core.List.Memᴰ
use mathlib.Core.List.{List, ◌∷◌, map, Memᴰ}
use Prim.Native.Nat.{ℕ, zero, suc, ◌≤◌}
use native.Mathlib.Nat.{le_trans}
use lib.Dec.{leb}
use lib.ListN.{length}
use Rattle.base.specs.Bytes.{Bytes, bytes, same, less}
use Rattle.base.specs.Hex.{is_hex, undo}
use Rattle.base.proofs.TestLaws.{never, both}
use Rattle.base.proofs.OrderLaws.{less_self, less_trans}
use Rattle.canonical_json.specs.Json.{Json, jnull, jtrue, jfalse, num, str, arr, obj, Members, mnil, mcons, Valid, ValidMembers, ValidMore, max_depth}
use Rattle.canonical_json.specs.Fields.{members, lookup, field, count}
use Rattle.rules.specs.Limits.{key_size, max_keys}
use Rattle.rules.specs.Take.{must, unhex, each_named}
use Rattle.rules.specs.Records as records
use Rattle.rules.specs.Records.{Key, Role, File, says}
use Rattle.rules.specs.Forms.{Envelope, envelope, is_in, different, all_of, key, keys, role, root, root_keyids}
use Rattle.rules.specs.Reading.{read_root}
use Rattle.rules.specs.State.{Root, filter, keep_role, keep_root, root_in}
use Rattle.rules.specs.Words.{Different, SameKeys}
use Rattle.rules.proofs.OptionLaws.{none-not-some, some_is, had, kept-is, number-exactly}
use Rattle.rules.proofs.ListLaws.{different-true, all_true, is-in, no_longer, filtered, filter-different}
use Rattle.rules.proofs.HexLaws.{hex-one}
use Rattle.rules.proofs.ReadingLaws.{parsed-exactly, role-file, body_is, kept-says}

-- ## Members of a valid value are valid

abbrev pub ValidSome : Json → Type 0
ValidSome v = (d : ℕ) × Valid v d

lookup-more : (k p : Bytes) (ms : Members) (v : Json) (d : ℕ) → ValidMore p ms d → lookup k ms ≡ Some v → Valid v d
unfolding Valid lookup
lookup-more k p mnil v d h e = none-not-some e
lookup-more k p (mcons n w ms) v d h e = step (same n k) e (lookup-more k n ms v d h.3)
  where
    step : (b : Bool) → cond b (Some w) (lookup k ms) ≡ Some v → (lookup k ms ≡ Some v → Valid v d) → Valid v d
    step true e more = subst (λ (x : Json). Valid x d) (some_is e) h.2
    step false e more = more e

lookup-valid : (k : Bytes) (ms : Members) (v : Json) (d : ℕ) → ValidMembers ms d → lookup k ms ≡ Some v → Valid v d
unfolding Valid lookup
lookup-valid k mnil v d h e = none-not-some e
lookup-valid k (mcons n w ms) v d h e = step (same n k) e
  where
    step : (b : Bool) → cond b (Some w) (lookup k ms) ≡ Some v → Valid v d
    step true e = subst (λ (x : Json). Valid x d) (some_is e) h.1
    step false e = lookup-more k n ms v d h.2 e

pub members-valid : (v : Json) (ms : Members) → ValidSome v → members v ≡ Some ms → (d : ℕ) × ValidMembers ms d
unfolding Valid members
members-valid jnull ms h e = none-not-some e
members-valid jtrue ms h e = none-not-some e
members-valid jfalse ms h e = none-not-some e
members-valid (num s ds) ms h e = none-not-some e
members-valid (str s) ms h e = none-not-some e
members-valid (arr xs) ms h e = none-not-some e
members-valid (obj ns) ms (zero, h) e = absurd h
members-valid (obj ns) ms (suc d, h) e = (d, subst (λ (x : Members). ValidMembers x d) (some_is e) h)

pub field-valid : (k : Bytes) (v w : Json) → ValidSome v → field k v ≡ Some w → ValidSome w
unfolding field
field-valid k v w h e =
    let ms = had _ _ e in
    let m = members-valid v ms.0 h ms.1 in
    (m.0, lookup-valid k ms.0 w m.0 m.1 ms.2)

-- ## The key table

abbrev keyids_in : List Key → List Bytes
keyids_in ks = map (λ (k : Key). k.keyid) ks

pub key-hex : (n : Bytes) (v : Json) (k : Key) → key n v ≡ Some k → (is_hex key_size n ≡ true) × (undo n ≡ k.keyid)
unfolding key unhex
key-hex n v k e =
    let id = had _ _ e in
    let w = kept-is (is_hex key_size n) (undo n) id.1 in
    let a = had _ _ id.2 in
    let b = had _ _ a.2 in
    let c = had _ _ b.2 in
    (w.0, w.1 ∙ ap (λ (x : Key). x.keyid) (some_is c.2))

-- keys whose names come after p: their keyids differ, and each is a hex name above p, undone
record Table (p : Bytes) (ks : List Key) : Type 0 where
  different : Different (keyids_in ks)
  above : (k : Bytes) → Memᴰ k (keyids_in ks) → (n : Bytes) × (less p n ≡ true) × (is_hex key_size n ≡ true) × (undo n ≡ k)

-- one key more, whose name is before theirs
one_more : (n : Bytes) (v : Json) (k : Key) (ks : List Key) → key n v ≡ Some k → Table n ks → Different (k.keyid ∷ keyids_in ks)
one_more n v k ks e t = (not_there, t.different)
  where
    not_there : ¬ (Memᴰ k.keyid (keyids_in ks))
    not_there m =
        let a = t.above k.keyid m in
        let h = key-hex n v k e in
        let n-is : n ≡ a.0 = hex-one key_size n a.0 h.0 a.2 (h.1 ∙ sym a.3) in
        never (sym a.1 ∙ ap (λ (x : Bytes). less n x) (sym n-is) ∙ less_self n)

table_more : (p : Bytes) (ms : Members) (ks : List Key) (d : ℕ) → ValidMore p ms d → each_named key ms ≡ Some ks → Table p ks
unfolding Valid each_named
table_more p mnil ks d h e = subst (Table p) (some_is e) (record { different = tt; above = λ k m. elim m [ ] })
table_more p (mcons n v ms) ks d h e =
    let k = had _ _ e in
    let more = had _ _ k.2 in
    let t = table_more n ms more.0 d h.3 more.1 in
    let x = key-hex n v k.0 k.1 in
    subst (Table p) (some_is more.2)
    (record {
      different = one_more n v k.0 more.0 k.1 t;
      above = λ j m.
          ⊎_elim (λ q. (n, h.0, x.0, x.1 ∙ sym q))
          (λ i. let a = t.above j i in (a.0, less_trans p n a.0 h.0 a.1, a.2, a.3))
          (Memᴰ.cases_cons m);
    })

table-different : (ms : Members) (ks : List Key) (d : ℕ) → ValidMembers ms d → each_named key ms ≡ Some ks → Different (keyids_in ks)
unfolding Valid each_named
table-different mnil ks d h e = subst (λ (x : List Key). Different (keyids_in x)) (some_is e) tt
table-different (mcons n v ms) ks d h e =
    let k = had _ _ e in
    let more = had _ _ k.2 in
    subst (λ (x : List Key). Different (keyids_in x)) (some_is more.2)
    (one_more n v k.0 more.0 k.1 (table_more n ms more.0 d h.2 more.1))

keys-different : (v : Json) (ks : List Key) → ValidSome v → must (bytes "keys") keys v ≡ Some ks → Different (keyids_in ks)
unfolding must keys
keys-different v ks h e =
    let w = had _ _ e in
    let ms = had _ _ w.2 in
    let limited = had _ _ ms.2 in
    let each = had _ _ limited.2 in
    let m = members-valid w.0 ms.0 (field-valid (bytes "keys") v w.0 h w.1) ms.1 in
    let same-members = (kept-is (leb 1 (count ms.0) && leb (count ms.0) max_keys) ms.0 limited.1).1 in
    let all-different = (kept-is (different (map (λ (k : Key). k.public) each.0)) each.0 each.2).1 in
    subst (λ (x : List Key). Different (keyids_in x)) all-different
    (table-different limited.0 each.0 m.0 (subst (λ (x : Members). ValidMembers x m.0) same-members m.1) each.1)

-- ## A role

-- what a role of a file says, by its form
record RoleSays (table : List Bytes) (r : Role) : Type 0 where
  different : Different r.keyids
  listed : (k : Bytes) → Memᴰ k r.keyids → Memᴰ k table
  least : 1 ≤ r.threshold
  most : r.threshold ≤ length r.keyids

role-says : (table : List Bytes) (v : Json) (r : Role) → role table v ≡ Some r → RoleSays table r
unfolding role must
role-says table v r e =
    let xs = had _ _ e in
    let limited = had _ _ xs.2 in
    let ids = had _ _ limited.2 in
    let good = had _ _ ids.2 in
    let threshold = had _ _ good.2 in
    let g = kept-is (different ids.0 && all_of (λ k. is_in k table) ids.0) ids.0 good.1 in
    let w = both (different ids.0) (all_of (λ k. is_in k table) ids.0) g.0 in
    let at = had _ _ threshold.1 in
    let t = (number-exactly 1 (length good.0) at.0 threshold.0).0 at.2 in
    subst (RoleSays table) (some_is threshold.2)
    (record {
      different = subst Different g.1 ((different-true ids.0).0 w.0);
      listed = λ k m. (is-in k table).0 ((all_true (λ k. is_in k table) ids.0).0 w.1 k (subst (λ (l : List Bytes). Memᴰ k l) (sym g.1) m));
      least = t.1;
      most = t.2;
    })

-- what is kept of it
pub record RoleKept (says keeps : Role) : Type 0 where
  pub different : Different keeps.keyids
  pub same-keyids : SameKeys keeps says
  pub same-threshold : keeps.threshold ≡ says.threshold
  pub least : 1 ≤ keeps.threshold
  pub most : keeps.threshold ≤ length keeps.keyids

role_kept_lem : (ks : List Key) (r : Role) → Different (keyids_in ks) → RoleSays (keyids_in ks) r → RoleKept r (keep_role ks r)
unfolding keep_role
role_kept_lem ks r d s =
    let is-kept = filtered (λ k. is_in k r.keyids) (keyids_in ks) in
    let back : (k : Bytes) → Memᴰ k r.keyids → Memᴰ k (filter (λ k. is_in k r.keyids) (keyids_in ks)) =
    λ k m. (is-kept k).1 (s.listed k m, (is-in k r.keyids).1 m) in
    record {
      different = filter-different (λ k. is_in k r.keyids) (keyids_in ks) d;
      same-keyids = λ k. (λ m. (is-in k r.keyids).0 ((is-kept k).0 m).1, back k);
      same-threshold = refl;
      least = s.least;
      most = le_trans s.most (no_longer r.keyids (filter (λ k. is_in k r.keyids) (keyids_in ks)) s.different back);
    }

-- ## The root

pub record RootKept (says : records.Root) (keeps : Root) : Type 0 where
  pub of_root : RoleKept says.root_role keeps.root_role
  pub of_timestamp : RoleKept says.timestamp_role keeps.timestamp_role
  pub of_snapshot : RoleKept says.snapshot_role keeps.snapshot_role
  pub of_targets : RoleKept says.targets_role keeps.targets_role

-- the four roles over one key table
record RootSays (r : records.Root) : Type 0 where
  different : Different (keyids_in r.keys)
  of_root : RoleSays (keyids_in r.keys) r.root_role
  of_timestamp : RoleSays (keyids_in r.keys) r.timestamp_role
  of_snapshot : RoleSays (keyids_in r.keys) r.snapshot_role
  of_targets : RoleSays (keyids_in r.keys) r.targets_role

named-role : (name : Bytes) (table : List Bytes) (roles : Json) (r : Role) → must name (role table) roles ≡ Some r → RoleSays table r
unfolding must
named-role name table roles r e = let w = had _ _ e in role-says table w.0 r w.2

root-says : (v : Json) (r : records.Root) → ValidSome v → root v ≡ Some r → RootSays r
unfolding root
root-says v r h e =
    let consistent = had _ _ e in
    let table = had _ _ consistent.2 in
    let roles = had _ _ table.2 in
    let of_root = had _ _ roles.2 in
    let of_timestamp = had _ _ of_root.2 in
    let of_snapshot = had _ _ of_timestamp.2 in
    let of_targets = had _ _ of_snapshot.2 in
    subst RootSays (some_is of_targets.2)
    (record {
      different = keys-different v table.0 h table.1;
      of_root = named-role _ _ roles.0 of_root.0 of_root.1;
      of_timestamp = named-role _ _ roles.0 of_timestamp.0 of_timestamp.1;
      of_snapshot = named-role _ _ roles.0 of_snapshot.0 of_snapshot.1;
      of_targets = named-role _ _ roles.0 of_targets.0 of_targets.1;
    })

pub signed-valid : (v : Json) (e : Envelope) → ValidSome v → envelope v ≡ Some e → ValidSome e.signed
unfolding envelope
signed-valid v e h q =
    let es = had _ _ q in
    let ms = had _ _ es.2 in
    let signed = had _ _ ms.2 in
    let any = had _ _ signed.2 in
    let start = had _ _ any.2 in
    let m = members-valid v ms.0 h ms.1 in
    subst (λ (x : Envelope). ValidSome x.signed) (some_is start.2)
    (m.0, lookup-valid (bytes "signed") ms.0 signed.0 m.0 m.1 signed.1)

pub root_kept_lem : (file : Bytes) (f : File records.Root) (es : List Bytes) → read_root file ≡ says f es → RootKept f.body (keep_root f)
unfolding read_root keep_root
root_kept_lem file f es h =
    let w = role-file (bytes "root") root root_keyids file f es h in
    let valid : ValidSome w.value = (max_depth, ((parsed-exactly file w.value).0 w.text).0) in
    let s =
    root-says w.envelope-is.signed f.body (signed-valid w.value w.envelope-is valid w.form)
    (body_is (bytes "root") root w.envelope-is.signed f w.role) in
    record {
      of_root = role_kept_lem f.body.keys f.body.root_role s.different s.of_root;
      of_timestamp = role_kept_lem f.body.keys f.body.timestamp_role s.different s.of_timestamp;
      of_snapshot = role_kept_lem f.body.keys f.body.snapshot_role s.different s.of_snapshot;
      of_targets = role_kept_lem f.body.keys f.body.targets_role s.different s.of_targets;
    }

pub kept_same : (file : Bytes) (r : Root) (es : List Bytes) → root_in file ≡ says r es
    → (f : File records.Root) × (read_root file ≡ says f es) × (keep_root f ≡ r) × RootKept f.body r
unfolding root_in
kept_same file r es h =
    let w = kept-says keep_root (read_root file) r es h in
    (w.0, w.1, w.2, subst (RootKept w.0.body) w.2 (root_kept_lem file w.0 es w.1))

pub root-different : (file : Bytes) (r : Root) (es : List Bytes) → root_in file ≡ says r es
    → Different r.root_role.keyids × Different r.timestamp_role.keyids × Different r.snapshot_role.keyids × Different r.targets_role.keyids
root-different file r es h =
    let w = (kept_same file r es h).3 in
    (w.of_root.different, w.of_timestamp.different, w.of_snapshot.different, w.of_targets.different)
