-- A role: its keyids gathered one after the other, and then the threshold.
use mathlib.Core.Path.{◌≡◌, refl, sym, ◌∙◌}
use Rattle.std.specs.declared.option.Option.{Option}
use Rattle.std.specs.declared.option.Option.TheVariants.{None, Some}
use Rattle.canonical_json.specs.Options.{bind}
use mathlib.Core.Bool.{Bool, true, false, ◌&&◌, and-false}
use mathlib.Core.List.{List, [], ◌∷◌, ◌++◌}
use Prim.Native.Nat.{ℕ, ◌+◌, ◌^◌, ◌<◌, ◌≤◌, min}
use lib.Bits.{bit_and, bit_or}
use lib.Dec.{leb}
use lib.ListN.{length, length-append}
use Rattle.base.specs.Bytes.{Bytes, bytes}
use Rattle.canonical_json.specs.Json.{Json, Items}
use Rattle.canonical_json.specs.Fields.{items, field, number, size, keep}
use Rattle.lookup.specs.Place.{Stands, Takes}
use Rattle.lookup.specs.Walk.{FirstElement, NextElement}
use Rattle.lookup.specs.declared.Element.{Element}
use Rattle.lookup.specs.declared.Element.TheVariants as element
use Rattle.lookup.proofs.ItemLaws.{item-stands}
use Rattle.rules.specs.Limits.{max_keys, max_keyids, key_size}
use Rattle.rules.specs.Take.{◌>>=◌, must, each, hex}
use Rattle.rules.specs.Records.{Key, Role}
use Rattle.rules.specs.Forms.{different, role}
use Rattle.rules.specs.State.{keep_role}
use Rattle.records.specs.declared.KeyTable.{KeyTable}
use Rattle.records.specs.View.{view_table, pick}
use Rattle.keys.specs.Signers.{Marks, has_id}
use Rattle.forms.specs.Each.{each_item}
use Rattle.forms.proofs.StepLaws.{stop, on}
use Rattle.forms.proofs.EachLaws.{every, left, left-next, said, ItemsWalk, items-first, items-none, items-few, items-over, items-full, items-broken, items-next}
use Rattle.root_file.specs.Body.{keyids_in, is_naming, Naming, named, naming, role_kept}
use Rattle.root_file.proofs.NamingLaws.{naming-last, naming-front, Names, names-none, names_more, picked, unknown, known, fresh, again}

-- ## Keyids in turn

-- n keyids of the array were read, and their places are marked
pub record Gathered (t : KeyTable) (s : Bytes) (v : Json) (bits n : ℕ) (e : Element) : Type 0 where
  pub ids : List Bytes
  pub walk : ItemsWalk (hex key_size) 1 max_keyids s e n ids (each_item 1 max_keyids (hex key_size) v)
  pub good : is_naming (view_table t) ids ≡ true
  pub number : length ids ≡ n
  pub names : Names t ids bits

module _ (t : KeyTable) (s : Bytes) (v : Json) where
  pub gathered_first : {p : ℕ} (e : Element) → FirstElement s p e → Stands s p v → Gathered t s v 0 0 e
  unfolding is_naming different
  gathered_first e w h = record { ids = []; walk = items-first (hex key_size) 1 max_keyids s e w v h; good = refl; number = refl; names = names-none t }

  whole-none : None ≡ each_item 1 max_keyids (hex key_size) v → None ≡ naming (view_table t) v
  unfolding naming
  whole-none e = sym (stop _ (sym e))

  -- nothing comes of keyids of which those in front are refused
  left-refused : (n : ℕ) (ids : List Bytes) (os : List (Option Bytes)) → is_naming (view_table t) ids ≡ false
      → (left 1 max_keyids n ids os >>= λ ids. keep (is_naming (view_table t) ids) (named (view_table t) ids)) ≡ None
  unfolding left keep bind
  left-refused n ids os e = go (leb 1 (n + length os) && leb (n + length os) max_keyids)
    where
      last : (o : Option (List Bytes)) → ((o >>= λ more. Some (ids ++ more)) >>= λ ids. keep (is_naming (view_table t) ids) (named (view_table t) ids)) ≡ None
      last None = refl
      last (Some more) = rw (naming-front (view_table t) ids more e)

      go : (b : Bool) → ((keep b os >>= λ os. every os >>= λ more. Some (ids ++ more)) >>= λ ids. keep (is_naming (view_table t) ids) (named (view_table t) ids)) ≡ None
      go true = last (every os)
      go false = refl

  module _ (bits n : ℕ) (e : Element) (g : Gathered t s v bits n e) where
    pub no-keyids : ((i : ℕ) → e ≡ element.At i → ⊥) → ((j : ℕ) → e ≡ element.End j → ⊥) → None ≡ naming (view_table t) v
    no-keyids x y = go e refl
      where
        go : (m : Element) → e ≡ m → None ≡ naming (view_table t) v
        go element.NoArray q = whole-none (items-none (hex key_size) 1 max_keyids s e n g.ids _ g.walk q)
        go (element.End j) q = absurd (y j q)
        go (element.At i) q = absurd (x i q)

    pub few-keyids : (j : ℕ) → e ≡ element.End j → n < 1 → None ≡ naming (view_table t) v
    few-keyids j q h = whole-none (items-few (hex key_size) 1 max_keyids s e n g.ids _ g.walk j q h)

    pub naming-is : (j : ℕ) → e ≡ element.End j → 1 ≤ n → n ≤ max_keyids → Some (record { keyids = pick bits 0 (view_table t); number = n }) ≡ naming (view_table t) v
    unfolding naming named keep
    naming-is j q l h =
        let w = items-over (hex key_size) 1 max_keyids s e n g.ids _ g.walk j q l h in
        sym (on _ (sym w) ∙ rw (g.good, ← picked t g.ids bits g.names, g.number))

    module _ (i : ℕ) (q : e ≡ element.At i) where
      pub many-keyids : max_keyids ≤ n → None ≡ naming (view_table t) v
      many-keyids h = whole-none (items-full (hex key_size) 1 max_keyids s e n g.ids _ g.walk i q h)

      pub no-keyid : Takes s i (hex key_size) None → None ≡ naming (view_table t) v
      no-keyid h = whole-none (items-broken (hex key_size) 1 max_keyids s e n g.ids _ g.walk i q h)

      module _ (id : Bytes) (h : Takes s i (hex key_size) (Some id)) (places : ℕ) (m : Marks (min t.count max_keys) (has_id t id) places) where
        -- one keyid more that is refused
        refused : is_naming (view_table t) (g.ids ++ (id ∷ [])) ≡ false → None ≡ naming (view_table t) v
        unfolding naming
        refused f =
            let w : ItemsWalk (hex key_size) 1 max_keyids s (element.At i) n g.ids (each_item 1 max_keyids (hex key_size) v) = rw q at g.walk in
            let d = w.3 ∙ left-next 1 max_keyids n g.ids (hex key_size w.0) (said (hex key_size) w.1) id (sym (h w.0 (item-stands w.2.1))) in
            sym (rw d (left-refused (n + 1) (g.ids ++ (id ∷ [])) (said (hex key_size) w.1) f))

        pub other-keyid : places ≡ 0 → None ≡ naming (view_table t) v
        other-keyid z = refused (naming-last (view_table t) id g.ids g.good ∙ rw (unknown t id places m z, and-false))

        module _ (small : places < 2 ^ 16) (some-place : places ≡ 0 → ⊥) where
          pub same-keyid : (bit_and bits places ≡ 0 → ⊥) → None ≡ naming (view_table t) v
          same-keyid f = refused (naming-last (view_table t) id g.ids g.good ∙ rw (again t id places m g.ids bits g.names small f))

          pub gathered_next : bit_and bits places ≡ 0 → (e' : Element) → NextElement s i e' → Gathered t s v (bit_or bits places) (n + 1) e'
          gathered_next z e' x =
              let k = known t id places m small some-place in
              record {
                ids = g.ids ++ (id ∷ []);
                walk = items-next (hex key_size) 1 max_keyids s e n g.ids _ g.walk i q id h e' x;
                good = naming-last (view_table t) id g.ids g.good ∙ rw (fresh t id places m g.ids bits g.names k z, k);
                number = length-append g.ids (id ∷ []) ∙ rw g.number;
                names = names_more t id places m g.ids bits g.names;
              }

-- ## The threshold

role-by : (keys : List Key) (v : Json) → role_kept keys v ≡
    (must (bytes "keyids") (naming keys) v >>= λ p. must (bytes "threshold") (number 1 p.number) v >>= λ n. Some (record { keyids = p.keyids; threshold = n }))
unfolding role_kept role must naming each_item named is_naming keep_role keyids_in bind keep
role-by keys v = go (field (bytes "keyids") v)
  where
    K : List Bytes
    K = keyids_in keys

    after : Naming → Option Role
    after p = must (bytes "threshold") (number 1 p.number) v >>= λ n. Some (record { keyids = p.keyids; threshold = n })

    read : List Bytes → Option Role
    read ids = must (bytes "threshold") (number 1 (length ids)) v >>= λ n. Some (record { keyids = ids; threshold = n })

    last : (ids : List Bytes) (o : Option ℕ) → ((o >>= λ n. Some (record { keyids = ids; threshold = n })) >>= λ r. Some (keep_role keys r))
        ≡ (o >>= λ n. Some (record { keyids = (named keys ids).keyids; threshold = n }))
    last ids None = refl
    last ids (Some n) = refl

    good : (b : Bool) (ids : List Bytes) → ((keep b ids >>= read) >>= λ r. Some (keep_role keys r)) ≡ (keep b (named keys ids) >>= after)
    good true ids = last ids (must (bytes "threshold") (number 1 (length ids)) v)
    good false ids = refl

    listed : (o : Option (List Bytes)) → ((o >>= λ ids. keep (is_naming keys ids) ids >>= read) >>= λ r. Some (keep_role keys r))
        ≡ ((o >>= λ ids. keep (is_naming keys ids) (named keys ids)) >>= after)
    listed None = refl
    listed (Some ids) = good (is_naming keys ids) ids

    sized : (b : Bool) (xs : Items) → ((keep b xs >>= λ xs. each (hex key_size) xs >>= λ ids. keep (is_naming keys ids) ids >>= read) >>= λ r. Some (keep_role keys r))
        ≡ (((keep b xs >>= each (hex key_size)) >>= λ ids. keep (is_naming keys ids) (named keys ids)) >>= after)
    sized true xs = listed (each (hex key_size) xs)
    sized false xs = refl

    array : (o : Option Items) → ((o >>= λ xs. keep (leb 1 (size xs) && leb (size xs) max_keyids) xs >>= λ xs. each (hex key_size) xs >>= λ ids. keep (is_naming keys ids) ids >>= read) >>= λ r. Some (keep_role keys r))
        ≡ (((o >>= λ xs. keep (leb 1 (size xs) && leb (size xs) max_keyids) xs >>= each (hex key_size)) >>= λ ids. keep (is_naming keys ids) (named keys ids)) >>= after)
    array None = refl
    array (Some xs) = sized (leb 1 (size xs) && leb (size xs) max_keyids) xs

    go : (o : Option Json) → (((o >>= items) >>= λ xs. keep (leb 1 (size xs) && leb (size xs) max_keyids) xs >>= λ xs. each (hex key_size) xs >>= λ ids. keep (is_naming keys ids) ids >>= read) >>= λ r. Some (keep_role keys r))
        ≡ ((o >>= naming keys) >>= after)
    go None = refl
    go (Some w) = array (items w)

module _ (keys : List Key) (v : Json) where
  pub no_naming : None ≡ must (bytes "keyids") (naming keys) v → None ≡ role_kept keys v
  unfolding bind
  no_naming e = rw (role-by keys v, ← e)

  module _ (p : Naming) (e : Some p ≡ must (bytes "keyids") (naming keys) v) where
    pub no-threshold : None ≡ must (bytes "threshold") (number 1 p.number) v → None ≡ role_kept keys v
    unfolding bind
    no-threshold f = rw (role-by keys v, ← e, ← f)

    pub role-is : (n : ℕ) → Some n ≡ must (bytes "threshold") (number 1 p.number) v → Some (record { keyids = p.keyids; threshold = n }) ≡ role_kept keys v
    unfolding bind
    role-is n f = rw (role-by keys v, ← e, ← f)
