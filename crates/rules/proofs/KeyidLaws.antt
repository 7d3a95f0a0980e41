-- The key rule: every key of a root that was read has the digest of its text as its keyid, so that a keyid stands for one key, unless two
-- texts have one digest.
use mathlib.Core.Path.{◌≡◌, refl, sym, ap, ◌∙◌, subst}
use mathlib.Core.Logic.{◌⊎◌, inl, inr, ⊎_elim}
use Rattle.std.specs.declared.option.Option.TheVariants.{Some}
use Rattle.canonical_json.specs.Options.{bind}
use mathlib.Core.Bool.{Bool, true, false, ◌&&◌}
use mathlib.Core.List.Memᴰ
use mathlib.Core.List.{List, [], map, Memᴰ}
use Prim.Native.Nat.{ℕ}
use lib.Dec.{leb}
use Rattle.base.specs.Bytes.{Bytes, bytes, same}
use Rattle.base.specs.Hex.{undo, hex_of}
use Rattle.base.proofs.TestLaws.{never, both}
use Rattle.base.proofs.ByteLaws.{same_self, same_true}
use Rattle.base.proofs.HexLaws.{undo-hex_of}
use Rattle.sha256.specs.Message.{digest_of}
use Rattle.sha256.proofs.DigestLaws.{digest-bytes}
use Rattle.canonical_json.specs.Json.{Json, Members, mnil, mcons, put, Valid, ValidMembers, ValidMore, max_depth}
use Rattle.canonical_json.specs.Fields.{members, field, count}
use Rattle.canonical_json.proofs.Canonical.{unique}
use Rattle.rules.specs.Limits.{max_keys}
use Rattle.rules.specs.Take.{must, each_named}
use Rattle.rules.specs.Records as records
use Rattle.rules.specs.Records.{Key, says}
use Rattle.rules.specs.Forms.{different, key, keys, keyid_of, own_keyids, own_table, root, root_keyids}
use Rattle.rules.specs.Reading.{read_root}
use Rattle.rules.specs.State.{Root, keep_root, root_in}
use Rattle.rules.specs.Words.{OwnKeyid, Collision}
use Rattle.rules.proofs.OptionLaws.{some_is, had, kept-is}
use Rattle.rules.proofs.ReadingLaws.{parsed-exactly, role-file, body_is, kept-says}
use Rattle.rules.proofs.RootLaws.{ValidSome, members-valid, field-valid, signed-valid, key-hex}

own_key : (n : Bytes) (v : Json) (k : Key) (d : ℕ) → Valid v d → key n v ≡ Some k → same n (keyid_of v) ≡ true → OwnKeyid k
unfolding keyid_of
own_key n v k d h e o =
    let n-is : n ≡ hex_of (digest_of (put v [])) = same_true n (hex_of (digest_of (put v []))) o in
    record {
      value = v;
      depth = d;
      valid = h;
      says = rw n-is at e;
      digest = sym (key-hex n v k e).1 ∙ ap undo n-is ∙ undo-hex_of (digest_of (put v [])) (digest-bytes (put v []));
    }

-- ## The table

abbrev AllOwn : List Key → Type 0
AllOwn ks = (k : Key) → Memᴰ k ks → OwnKeyid k

-- a line, and those after it
own_line : (n : Bytes) (v : Json) (ms : Members) (d : ℕ) → Valid v d
    → ((ks : List Key) → each_named key ms ≡ Some ks → own_keyids ms ≡ true → AllOwn ks)
    → (ks : List Key) → each_named key (mcons n v ms) ≡ Some ks → own_keyids (mcons n v ms) ≡ true → AllOwn ks
unfolding each_named own_keyids
own_line n v ms d h after ks e o k m =
    let x = had _ _ e in
    let more = had _ _ x.2 in
    let w = both (same n (keyid_of v)) (own_keyids ms) o in
    ⊎_elim (λ q. subst OwnKeyid (sym q) (own_key n v x.0 d h x.1 w.0)) (λ i. after more.0 more.1 w.1 k i)
    (Memᴰ.cases_cons (subst (Memᴰ k) (sym (some_is more.2)) m))

none-own : (ks : List Key) → each_named key mnil ≡ Some ks → AllOwn ks
unfolding each_named
none-own ks e k m = elim (subst (Memᴰ k) (sym (some_is e)) m) [ ]

own-more : (p : Bytes) (ms : Members) (d : ℕ) → ValidMore p ms d → (ks : List Key) → each_named key ms ≡ Some ks → own_keyids ms ≡ true → AllOwn ks
unfolding Valid
own-more p mnil d h ks e o = none-own ks e
own-more p (mcons n v ms) d h ks e o = own_line n v ms d h.2 (own-more n ms d h.3) ks e o

own_keys_lem : (ms : Members) (d : ℕ) → ValidMembers ms d → (ks : List Key) → each_named key ms ≡ Some ks → own_keyids ms ≡ true → AllOwn ks
unfolding Valid
own_keys_lem mnil d h ks e o = none-own ks e
own_keys_lem (mcons n v ms) d h ks e o = own_line n v ms d h.1 (own-more n ms d h.2) ks e o

own-table : (v : Json) (ks : List Key) → ValidSome v → must (bytes "keys") keys v ≡ Some ks → root_keyids v ≡ true → AllOwn ks
unfolding must keys root_keyids own_table bind
own-table v ks h e o =
    let w = had (field (bytes "keys") v) keys e in
    let ms = had (members w.0) _ w.2 in
    let limited = had _ _ ms.2 in
    let each = had _ _ limited.2 in
    let m = members-valid w.0 ms.0 (field-valid (bytes "keys") v w.0 h w.1) ms.1 in
    let same-members = (kept-is (leb 1 (count ms.0) && leb (count ms.0) max_keys) ms.0 limited.1).1 in
    let all-different = (kept-is (different (map (λ (k : Key). k.public) each.0)) each.0 each.2).1 in
    let own : own_keyids ms.0 ≡ true = rw (w.1, ms.1) at o in
    subst AllOwn all-different
    (own_keys_lem limited.0 m.0 (subst (λ (x : Members). ValidMembers x m.0) same-members m.1) each.0 each.1
    (subst (λ (x : Members). own_keyids x ≡ true) same-members own))

table_of : (v : Json) (r : records.Root) → root v ≡ Some r → must (bytes "keys") keys v ≡ Some r.keys
unfolding root
table_of v r e =
    let consistent = had _ _ e in
    let table = had _ _ consistent.2 in
    let roles = had _ _ table.2 in
    let of_root = had _ _ roles.2 in
    let of_timestamp = had _ _ of_root.2 in
    let of_snapshot = had _ _ of_timestamp.2 in
    let of_targets = had _ _ of_snapshot.2 in
    table.1 ∙ ap (λ (x : records.Root). Some x.keys) (some_is of_targets.2)

pub root-keyids : (file : Bytes) (r : Root) (es : List Bytes) → root_in file ≡ says r es → (k : Key) → Memᴰ k r.keys → OwnKeyid k
unfolding root_in read_root keep_root
root-keyids file r es h =
    let f = kept-says keep_root (read_root file) r es h in
    let w = role-file (bytes "root") root root_keyids file f.0 es f.1 in
    let v = w.envelope-is.signed in
    let valid = signed-valid w.value w.envelope-is (max_depth, ((parsed-exactly file w.value).0 w.text).0) w.form in
    let table = table_of v f.0.body (body_is (bytes "root") root v f.0 w.role) in
    subst AllOwn (ap (λ (x : Root). x.keys) f.2) (own-table v f.0.body.keys valid table w.own)

-- ## One key for a keyid

pub one_key_lem : (k l : Key) → OwnKeyid k → OwnKeyid l → k.keyid ≡ l.keyid → (k ≡ l) ⊎ Collision
one_key_lem k l a b e = go (same (put a.value []) (put b.value [])) refl
  where
    go : (t : Bool) → same (put a.value []) (put b.value []) ≡ t → (k ≡ l) ⊎ Collision
    go true q =
        let v-is : a.value ≡ b.value =
        unique a.value b.value a.depth b.depth a.valid b.valid (same_true _ _ q) in
        inl (some_is (sym a.says ∙ ap (λ (v : Json). key (keyid_of v) v) v-is ∙ b.says))
    go false q =
        inr
        (record {
          one = put a.value [];
          other = put b.value [];
          differ = λ same_text. never (sym (ap (λ (t : Bytes). same t (put b.value [])) same_text ∙ same_self (put b.value [])) ∙ q);
          digest = sym a.digest ∙ e ∙ b.digest;
        })
