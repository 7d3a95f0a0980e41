-- Signature entries: one entry, and the keyids of all of them.
use mathlib.Core.Path.{◌≡◌, refl, sym, ◌∙◌}
use Rattle.std.specs.declared.option.Option.{Option}
use Rattle.std.specs.declared.option.Option.TheVariants.{None, Some}
use Rattle.canonical_json.specs.Options.{bind}
use mathlib.Core.List.{List, ◌∷◌}
use mathlib.Core.Bool.{Bool, true, false, ◌&&◌}
use Prim.Native.Nat.{ℕ}
use native.Mathlib.Omega.{arith}
use lib.Dec.{leb}
use lib.ListN.{drop}
use borrow.Author.Tests.{le-leb}
use Rattle.base.specs.Bytes.{Bytes, bytes}
use Rattle.base.specs.Hex.{undo}
use Rattle.canonical_json.specs.Json.{Json, Items, inil, icons}
use Rattle.canonical_json.specs.Read.{raw}
use Rattle.canonical_json.specs.Fields.{items, size, keep}
use Rattle.lookup.specs.Place.{Takes, Reads}
use Rattle.rules.specs.Limits.{max_entries, key_size, signature_size}
use Rattle.rules.specs.Take.{◌>>=◌, must, hex, each}
use Rattle.rules.specs.Records.{Entry}
use Rattle.rules.specs.Forms.{entry, entries}
use Rattle.rules.specs.Reading.{keyids_of}
use Rattle.records.specs.View.{view_entries}
use Rattle.forms.specs.Each.{each_item}
use Rattle.envelope.specs.Header.{keyid_of, keyids, entry_in, ReadsEntry}
use Rattle.envelope.specs.declared.EntryAt.{EntryAt}

-- ## One entry

module _ (v : Json) where
  pub no-keyid : None ≡ must (bytes "keyid") (hex key_size) v → None ≡ entry v
  unfolding entry bind
  no-keyid e = rw (← e)

  module _ (keyid : Bytes) (e : Some keyid ≡ must (bytes "keyid") (hex key_size) v) where
    pub no-sig : None ≡ must (bytes "sig") (hex signature_size) v → None ≡ entry v
    unfolding entry bind
    no-sig f = rw (← e, ← f)

    pub entry-is : (sig : Bytes) → Some sig ≡ must (bytes "sig") (hex signature_size) v → Some (record { keyid = keyid; sig = sig }) ≡ entry v
    unfolding entry bind
    entry-is sig f = rw (← e, ← f)

-- no entry, where the form is broken
pub broken-entry : (s : Bytes) (p : ℕ) → Takes s p entry None → ReadsEntry s p None
broken-entry s p t = record { reads = record { means = t; end = tt }; digits = tt }

-- ## Its keyid

module _ (s : Bytes) (v : Json) where
  pub keyid-broken : None ≡ entry v → None ≡ keyid_of v
  unfolding keyid_of bind
  keyid-broken e = rw (← e)

  pub keyid-is : (r : EntryAt) → Some (entry_in s r) ≡ entry v → Some (undo (raw (drop r.keyid s))) ≡ keyid_of v
  unfolding keyid_of entry_in bind
  keyid-is r e = rw (← e)

-- ## All of them

each-keyid : (xs : Items) → (each entry xs >>= λ es. Some (keyids_of es)) ≡ each keyid_of xs
unfolding each keyid_of keyids_of bind
each-keyid inil = refl
each-keyid (icons v vs) = rw (← each-keyid vs) (go (entry v) (each entry vs))
  where
    go : (o : Option Entry) (p : Option (List Entry)) → ((o >>= λ a. p >>= λ more. Some (a ∷ more)) >>= λ es. Some (keyids_of es))
        ≡ ((o >>= λ e. Some e.keyid) >>= λ k. (p >>= λ es. Some (keyids_of es)) >>= λ more. Some (k ∷ more))
    go None p = refl
    go (Some a) None = refl
    go (Some a) (Some es) = refl

pub keyids-each : (v : Json) → keyids v ≡ each_item 0 max_entries keyid_of v
unfolding keyids entries each_item bind keep
keyids-each v = go (items v)
  where
    kept : (b : Bool) (xs : Items) → ((keep b xs >>= each entry) >>= λ es. Some (keyids_of es)) ≡ (keep b xs >>= each keyid_of)
    kept true xs = each-keyid xs
    kept false xs = refl

    go : (o : Option Items) → ((o >>= λ xs. keep (leb (size xs) max_entries) xs >>= each entry) >>= λ es. Some (keyids_of es))
        ≡ (o >>= λ xs. keep (leb 0 (size xs) && leb (size xs) max_entries) xs >>= each keyid_of)
    go None = refl
    go (Some xs) = rw (le-leb 0 (size xs) (omega arith)) (kept (leb (size xs) max_entries) xs)

-- no entries, where the form is broken
pub broken-entries : (s : Bytes) (p : ℕ) → Takes s p (each_item 0 max_entries keyid_of) None → Reads view_entries s p keyids None
broken-entries s p t = record { means = λ v h. t v h ∙ sym (keyids-each v); end = tt }
