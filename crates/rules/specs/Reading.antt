-- Reading a file (01, refusals 1 to 4, and A1's 16 "tried between 3 and 4"): from its bytes to what it says. 3 is said before 16 and 4 whatever
-- the order of its members.
use Rattle.std.specs.declared.option.Option.{Option}
use Rattle.std.specs.declared.option.Option.TheVariants.{None, Some}
use Rattle.std.specs.Prelude.{List, [], ◌∷◌, map, Bool, true, cond, leb, length}
use Rattle.base.specs.Bytes.{Bytes, bytes}
use Rattle.canonical_json.specs.Json.{Json, max_depth}
use Rattle.canonical_json.specs.Read.{Got, bad, got, read}
use Rattle.rules.specs.Limits.{max_file}
use Rattle.rules.specs.Records.{Root, Listed, Named, Image, File, Entry, too_long, not_text, bad_form, other_keyid, other_spec, Read, refused, says}
use Rattle.rules.specs.Forms.{Envelope, envelope, known_spec, file_of, root, root_keyids, timestamp, snapshot, targets}

-- ## Text

-- nothing follows the value
unfoldable pub whole : Got Json → Option Json
whole bad = None
whole (got v []) = Some v
whole (got v (b ∷ r)) = None

-- The value of a canonical text. The law `parsed-exactly` says that it is just the valid value that has this text.
unfoldable pub parsed : Bytes → Option Json
parsed file = whole (read max_depth file)

-- ## Refusals 1 to 3: what a form gives of a file, or why it gives nothing

unfoldable pub judged_text : {A : Type 0} → (Json → Read A) → Option Json → Read A
judged_text f None = refused not_text
judged_text f (Some v) = f v

unfoldable pub read_with : {A : Type 0} → (Json → Read A) → Bytes → Read A
read_with f file = cond (leb (length file) max_file) (judged_text f (parsed file)) (refused too_long)

unfoldable pub keyids_of : List Entry → List Bytes
keyids_of es = map (λ (e : Entry). e.keyid) es

-- ## The envelope alone: "Looking in asks only for the envelope, refusals 1 to 3"

unfoldable pub opened : Option Envelope → Read Envelope
opened None = refused bad_form
opened (Some e) = says e (keyids_of e.entries)

unfoldable pub read_envelope : Bytes → Read Envelope
read_envelope file = read_with (λ v. opened (envelope v)) file

-- ## A role's file

-- what the file says with its entries' keyids, where its spec_version is known
unfoldable pub known : {A : Type 0} → Envelope → File A → Read (File A)
known e f = cond (known_spec f.spec_version) (says f (keyids_of e.entries)) (refused other_spec)

-- where its key table has the keyids of its keys
unfoldable pub spoken : {A : Type 0} → Envelope → Bool → Option (File A) → Read (File A)
spoken e own None = refused bad_form
spoken e own (Some f) = cond own (known e f) (refused other_keyid)

unfoldable pub in_envelope : {A : Type 0} → (Json → Option (File A)) → (Json → Bool) → Option Envelope → Read (File A)
in_envelope form keyids None = refused bad_form
in_envelope form keyids (Some e) = spoken e (keyids e.signed) (form e.signed)

-- the file of a role, by its "_type", the form of its body and the test of its key table
unfoldable pub read_as : {A : Type 0} → Bytes → (Json → Option A) → (Json → Bool) → Bytes → Read (File A)
read_as type body keyids file = read_with (λ v. in_envelope (file_of type body) keyids (envelope v)) file

-- a role whose files have no key table
abbrev pub no_table : Json → Bool
no_table v = true

unfoldable pub read_root : Bytes → Read (File Root)
read_root file = read_as (bytes "root") root root_keyids file

unfoldable pub read_timestamp : Bytes → Read (File Listed)
read_timestamp file = read_as (bytes "timestamp") timestamp no_table file

unfoldable pub read_snapshot : Bytes → Read (File (List Named))
read_snapshot file = read_as (bytes "snapshot") snapshot no_table file

unfoldable pub read_targets : Bytes → Read (File (List Image))
read_targets file = read_as (bytes "targets") targets no_table file
