-- The key table: its public values from a place on, and the table that the file's keys make.
use mathlib.Core.Path.{◌≡◌, refl, sym, ap, ◌∙◌}
use Rattle.std.specs.declared.option.Option.{Option}
use Rattle.std.specs.declared.option.Option.TheVariants.{None, Some}
use Rattle.canonical_json.specs.Options.{bind}
use mathlib.Core.Bool.{true, false, not, ◌&&◌, ◌||◌}
use mathlib.Core.List.{List, [], ◌∷◌, map}
use Prim.Native.Nat.{ℕ, zero, suc, ◌+◌, ◌-◌, ◌<◌, ◌≤◌}
use native.Mathlib.Omega.{arith}
use native.Mathlib.Numerals.{add-one}
use lib.Dec.{leb}
use lib.ListN.{length, get_or, take, drop, length-drop}
use lib.Seq.{drop-cons, take_all}
use Rattle.std.proofs.Math.ListN.{drop_of_length-le}
use Rattle.std.specs.List.{list_any}
use Rattle.base.specs.Bytes.{Bytes, same}
use Rattle.base.specs.Window.{run}
use Rattle.canonical_json.specs.Json.{Json, Members}
use Rattle.canonical_json.specs.Fields.{members, count, keep}
use Rattle.rules.specs.Limits.{max_keys}
use Rattle.rules.specs.Take.{◌>>=◌, each_named}
use Rattle.rules.specs.Records as rules
use Rattle.rules.specs.Forms.{is_in, different, key, keys}
use Rattle.records.specs.declared.KeyTable.{KeyTable}
use Rattle.records.specs.declared.Key.{Key}
use Rattle.records.specs.View.{view_id, view_key, view_table, key_at, no_key}
use Rattle.forms.proofs.ArrayLaws.{front, front-firsts}
use Rattle.forms.specs.Each.{each_member}
use Rattle.root_file.specs.View.{publics}

-- ## Public values

pub map-run : {A B : Type 0} (g : A → B) (f : ℕ → A) (i n : ℕ) → map g (run f i n) ≡ run (λ j. g (f j)) i n
unfolding run
map-run g f i zero = refl
map-run g f i (suc n) = rw (map-run g f (i + 1) n)

publics-kept : (ks : List Key) → map (λ (k : rules.Key). k.public) (map view_key ks) ≡ publics ks
unfolding publics view_key
publics-kept [] = refl
publics-kept (k ∷ ks) = ap (λ (ps : List Bytes). view_id k.public ∷ ps) (publics-kept ks)

pub publics-of : (t : KeyTable) (ks : List Key) → map view_key ks ≡ view_table t → map (λ (k : rules.Key). k.public) (view_table t) ≡ publics ks
publics-of t ks e = ap (map (λ (k : rules.Key). k.public)) (sym e) ∙ publics-kept ks

-- is x among them?
pub public-any : (x : Bytes) (ks : List Key) → list_any (λ k. same x (view_id k.public)) ks ≡ is_in x (publics ks)
unfolding is_in publics
public-any x [] = refl
public-any x (k ∷ ks) = ap (λ b. same x (view_id k.public) || b) (public-any x ks)

-- do those from place i on differ?
module _ (ks : List Key) (i : ℕ) (h : i < length ks) where
  -- those after it
  after : List Key
  after = take (length ks - (i + 1)) (drop (i + 1) ks)

  after-is : after ≡ drop (i + 1) ks
  unfolding after
  after-is = take_all _ _ (omega (arith, length-drop (i + 1) ks))

  step : different (publics (drop i ks)) ≡ not (is_in (view_id (get_or ks i no_key).public) (publics after)) && different (publics (drop (i + 1) ks))
  unfolding different publics
  step = rw (after-is, add-one, drop-cons ks i no_key)

  pub differ-not : true ≡ is_in (view_id (get_or ks i no_key).public) (publics (take (length ks - (i + 1)) (drop (i + 1) ks))) → false ≡ different (publics (drop i ks))
  unfolding after
  differ-not e = rw (step, ← e)

  pub differ-next : false ≡ is_in (view_id (get_or ks i no_key).public) (publics (take (length ks - (i + 1)) (drop (i + 1) ks)))
      → different (publics (drop i ks)) ≡ different (publics (drop (i + 1) ks))
  unfolding after
  differ-next e = rw (step, ← e)

pub differ-end : (ks : List Key) (i : ℕ) → length ks ≤ i → true ≡ different (publics (drop i ks))
unfolding different publics
differ-end ks i h = rw (drop_of_length-le ks h)

-- ## The file's keys

-- a table that was filled from the front
pub filled : (ks : List Key) (n : ℕ) → n ≤ max_keys → view_table (record { count = n; keys = ks }) ≡ front view_key no_key ks n
unfolding view_table key_at
filled ks n h = front-firsts view_key no_key ks n max_keys h

abbrev distinct : List rules.Key → Option (List rules.Key)
distinct ks = keep (different (map (λ (k : rules.Key). k.public) ks)) ks

keys-by : (v : Json) → keys v ≡ (each_member 1 max_keys key v >>= distinct)
unfolding keys each_member bind
keys-by v = go (members v)
  where
    kept : (o : Option Members) → (o >>= λ ms. each_named key ms >>= distinct) ≡ ((o >>= each_named key) >>= distinct)
    kept None = refl
    kept (Some ms) = refl

    go : (o : Option Members) → (o >>= λ ms. keep (leb 1 (count ms) && leb (count ms) max_keys) ms >>= λ ms. each_named key ms >>= distinct)
        ≡ ((o >>= λ ms. keep (leb 1 (count ms) && leb (count ms) max_keys) ms >>= each_named key) >>= distinct)
    go None = refl
    go (Some ms) = kept (keep (leb 1 (count ms) && leb (count ms) max_keys) ms)

module _ (v : Json) where
  pub no-table : None ≡ each_member 1 max_keys key v → None ≡ keys v
  unfolding bind
  no-table e = rw (keys-by v, ← e)

  module _ (ks : List rules.Key) (e : Some ks ≡ each_member 1 max_keys key v) where
    pub same-publics : false ≡ different (map (λ (k : rules.Key). k.public) ks) → None ≡ keys v
    unfolding bind keep
    same-publics d = rw (keys-by v, ← e, ← d)

    pub table_is : true ≡ different (map (λ (k : rules.Key). k.public) ks) → Some ks ≡ keys v
    unfolding bind keep
    table_is d = rw (keys-by v, ← e, ← d)
