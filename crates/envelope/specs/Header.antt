-- Entries by their keyids, and what every role's file says besides its body: parts of the forms of rules, as they are read.
use Rattle.std.specs.Prelude.{◌≡◌, List, Bool, true, ℕ, ℤ, drop}
use Rattle.std.specs.declared.option.Option.{Option}
use Rattle.std.specs.declared.option.Option.TheVariants.{Some}
use Rattle.base.specs.Bytes.{Bytes, bytes}
use Rattle.base.specs.Hex.{is_hex, undo}
use Rattle.canonical_json.specs.Json.{Json}
use Rattle.canonical_json.specs.Read.{raw}
use Rattle.canonical_json.specs.Fields.{text}
use Rattle.lookup.specs.Place.{Reads}
use Rattle.lookup.specs.declared.Spanned.{Spanned}
use Rattle.std.specs.Option.{IfSome}
use Rattle.rules.specs.Limits.{key_size, signature_size}
use Rattle.rules.specs.Take.{◌>>=◌, must, word, date}
use Rattle.rules.specs.Records as rules
use Rattle.rules.specs.Forms as forms
use Rattle.rules.specs.Reading.{keyids_of}
use Rattle.envelope.specs.declared.EntryAt.{EntryAt}
use Rattle.envelope.specs.declared.Header as declared

-- ## Entries

-- the keyid of an entry
unfoldable pub keyid_of : Json → Option Bytes
keyid_of v = forms.entry v >>= λ e. Some e.keyid

-- the keyids of the entries, in file order
unfoldable pub keyids : Json → Option (List Bytes)
keyids v = forms.entries v >>= λ es. Some (keyids_of es)

-- an entry by the places of its digits
unfoldable pub entry_in : Bytes → EntryAt → rules.Entry
entry_in s r = record { keyid = undo (raw (drop r.keyid s)); sig = undo (raw (drop r.sig s)) }

-- digits stand at the places
pub record HexEntry (s : Bytes) (r : EntryAt) : Type 0 where
  pub keyid : is_hex key_size (raw (drop r.keyid s)) ≡ true
  pub sig : is_hex signature_size (raw (drop r.sig s)) ≡ true

-- What a reader promises of the entry at p: what it says and where it ends, and that digits stand at its places.
pub record ReadsEntry (s : Bytes) (p : ℕ) (r : Option (Spanned EntryAt)) : Type 0 where
  pub reads : Reads (entry_in s) s p forms.entry r
  pub digits : IfSome r (λ (e : Spanned EntryAt). HexEntry s e.value)

-- ## Every role

-- whether a "spec_version" is known, where it is a string
unfoldable pub spec_known : Json → Option Bool
spec_known v = text v >>= λ b. Some (forms.known_spec b)

pub record Header : Type 0 where
  pub known : Bool
  pub version : ℕ
  pub expires : ℤ

-- what `file_of` reads before the body: the law `file-by` says how the two make a file
unfoldable pub header : Bytes → Json → Option Header
header type v =
    must (bytes "_type") (word type) v >>= λ _.
    must (bytes "spec_version") spec_known v >>= λ known.
    forms.version v >>= λ version.
    must (bytes "expires") date v >>= λ expires.
    Some (record { known = known; version = version; expires = expires })

unfoldable pub view_header : declared.Header → Header
view_header r = record { known = r.known; version = r.version; expires = r.expires.seconds }
