-- Names from a place on: what they say of a name, and whether one was lost; what is listed of a file.
use Rattle.std.proofs.Common.{refl, cond, Bool, Option, Some, None, ◌≡◌, ℕ, ◌+◌, ◌<◌, ◌≤◌, true, false, List, [], ◌∷◌, map, length, get_or, drop, add-one, drop-cons}
use Rattle.std.proofs.Math.ListN.{drop_of_length-le}
use Rattle.std.specs.List.{find}
use borrow.Author.Tests.{lt-ltb, le-ltb}
use Rattle.base.specs.Bytes.{Bytes, bytes, same}
use Rattle.rules.specs.Records as rules
use Rattle.rules.specs.State.{Snapshot}
use Rattle.rules.specs.Conditions.{listed_as, fallen, lost, targets_entry}
use Rattle.records.specs.declared.Named.{Named}
use Rattle.records.specs.View.{view_name, view_listed, view_named, no_named}

module _ (ks : List Named) (i : ℕ) where
  names-next : i < length ks → map view_named (drop i ks) ≡ view_named (get_or ks i no_named) ∷ map view_named (drop (i + 1) ks)
  names-next h = rw (add-one, drop-cons ks i no_named)

  -- ## What they say of the name x

  pub listed-hit : (x : Bytes) → i < length ks → same x (view_name (get_or ks i no_named).name) ≡ true
      → listed_as x (map view_named (drop i ks)) ≡ Some (view_listed (get_or ks i no_named).listed)
  unfolding listed_as view_named
  listed-hit x h e = rw (names-next h, e)

  pub listed-skip : (x : Bytes) → i < length ks → same x (view_name (get_or ks i no_named).name) ≡ false
      → listed_as x (map view_named (drop i ks)) ≡ listed_as x (map view_named (drop (i + 1) ks))
  unfolding listed_as view_named
  listed-skip x h e = rw (names-next h, e)

  pub listed-end : (x : Bytes) → length ks ≤ i → listed_as x (map view_named (drop i ks)) ≡ None
  unfolding listed_as
  listed-end x h = rw (drop_of_length-le ks h)

  -- ## Whether one of them was lost, by what the new names say of it

  module _ (new : List rules.Named) (h : i < length ks) where
    pub lost_gone : listed_as (view_name (get_or ks i no_named).name) new ≡ None → lost (map view_named (drop i ks)) new ≡ true
    unfolding lost fallen view_named
    lost_gone e = rw (names-next h, e)

    pub lost_lower : (l : rules.Listed) → listed_as (view_name (get_or ks i no_named).name) new ≡ Some l → l.version < (get_or ks i no_named).listed.version
        → lost (map view_named (drop i ks)) new ≡ true
    unfolding lost fallen view_named view_listed
    lost_lower l e v = rw (names-next h, e, lt-ltb _ _ v)

    pub lost_not : (l : rules.Listed) → listed_as (view_name (get_or ks i no_named).name) new ≡ Some l → (get_or ks i no_named).listed.version ≤ l.version
        → lost (map view_named (drop i ks)) new ≡ lost (map view_named (drop (i + 1) ks)) new
    unfolding lost fallen view_named view_listed
    lost_not l e v = rw (names-next h, e, le-ltb _ _ v)

  pub lost-end : (new : List rules.Named) → length ks ≤ i → lost (map view_named (drop i ks)) new ≡ false
  unfolding lost
  lost-end new h = rw (drop_of_length-le ks h)

-- ## The name that a search finds

abbrev named : Bytes → Named → Bool
named x n = same x (view_name n.name)

pub listed-find : (x : Bytes) (ks : List Named) (n : Named) → find (named x) ks ≡ Some n → listed_as x (map view_named ks) ≡ Some (view_listed n.listed)
unfolding listed_as view_named
listed-find x [] n e = cc
listed-find x (k ∷ ks) n e = at (same x (view_name k.name)) (find (named x) ks) (listed_as x (map view_named ks)) e (listed-find x ks n)
  where
    at : (b : Bool) (r : Option Named) (o : Option rules.Listed) → cond b (Some k) r ≡ Some n → (r ≡ Some n → o ≡ Some (view_listed n.listed)) → cond b (Some (view_listed k.listed)) o ≡ Some (view_listed n.listed)
    at true r o e f = let h : k ≡ n = cc in rw h
    at false r o e f = f e

pub listed-none : (x : Bytes) (ks : List Named) → find (named x) ks ≡ None → listed_as x (map view_named ks) ≡ None
unfolding listed_as view_named
listed-none x [] e = refl
listed-none x (k ∷ ks) e = at (same x (view_name k.name)) (find (named x) ks) (listed_as x (map view_named ks)) e (listed-none x ks)
  where
    at : (b : Bool) (r : Option Named) (o : Option rules.Listed) → cond b (Some k) r ≡ None → (r ≡ None → o ≡ None) → cond b (Some (view_listed k.listed)) o ≡ None
    at true r o e f = cc
    at false r o e f = f e

-- ## What a snapshot says of `targets.json`

module _ (s : Snapshot) where
  pub entry-some : (l : rules.Listed) → listed_as (bytes "targets.json") s.names ≡ Some l → l ≡ targets_entry s
  unfolding targets_entry
  entry-some l e = rw e

  pub entry-none : listed_as (bytes "targets.json") s.names ≡ None → record { version = 0; length = None; digest = None } ≡ targets_entry s
  unfolding targets_entry
  entry-none e = rw e
