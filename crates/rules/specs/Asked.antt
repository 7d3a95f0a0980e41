-- What the calls give besides an answer and a state: find, key, image, look, entry (01, "Text" and "Steps"). A refusal gives zeros.
use Rattle.std.specs.declared.option.Option.{Option}
use Rattle.std.specs.declared.option.Option.TheVariants.{None, Some}
use Rattle.std.specs.Prelude.{Bool, cond, not, ◌&&◌, List, [], ◌∷◌, ℕ, zero, suc, eqb, leb, length, take, drop, replicate}
use Rattle.base.specs.Bytes.{Bytes, same}
use Rattle.base.specs.Hex.{undo}
use Rattle.rules.specs.Limits.{digest_size, key_size, signature_size}
use Rattle.rules.specs.Records.{Key, Image, File, Entry, Read, refused, says}
use Rattle.rules.specs.Forms.{Envelope}
use Rattle.rules.specs.Reading.{read_envelope}
use Rattle.rules.specs.State.{Root, State, targets_in, Query, find, ask_key}
use Rattle.rules.specs.Table.{Refusal, ◌when◌, first}
use Rattle.rules.specs.Conditions.{bad_digest, image_of, key_of}
use Rattle.rules.specs.Search.{paths, compared}
use Rattle.rules.specs.Steps.{fault_number, answer, refuses}

abbrev pub zeros : ℕ → Bytes
zeros n = replicate n 0

-- ## Find: "Success gives length and sha256; a refusal gives zeros"

pub record Found : Type 0 where
  pub length : ℕ
  pub digest : Bytes

unfoldable pub nothing_found : Found
nothing_found = record { length = 0; digest = zeros digest_size }

unfoldable pub the_image : Option Image → Found
the_image None = nothing_found
the_image (Some i) = record { length = i.length; digest = i.digest }

unfoldable pub in_targets : Bytes → Read (File (List Image)) → Found
in_targets path (refused f) = nothing_found
in_targets path (says g es) = the_image (image_of path g.body)

unfoldable pub found : State → Query → Found
found s q = cond (refuses (find q) (answer s (find q))) nothing_found (in_targets q.path (targets_in q.file))

-- A2: how many names the search compared
unfoldable pub compared_in : Bytes → Read (File (List Image)) → ℕ
compared_in path (refused f) = 0
compared_in path (says g es) = compared path (paths g.body)

-- a refusal of "1 to 8", with which nothing is searched
unfoldable pub unsearched : ℕ → Bool
unsearched n = leb 1 n && leb n 8

-- the number is given with 0 and 15; "with a refusal of 1 to 8 it is 0"
unfoldable pub compared_by : State → Query → ℕ
compared_by s q = cond (unsearched (answer s (find q))) 0 (compared_in q.path (targets_in q.file))

-- ## Key: "a held root's public key by keyid (32 bytes)"

unfoldable pub public_of : Option Key → Bytes
public_of None = zeros key_size
public_of (Some k) = k.public

unfoldable pub in_root : Bytes → Option Root → Bytes
in_root k None = zeros key_size
in_root k (Some r) = public_of (key_of (undo k) r.keys)

unfoldable pub public_key : State → Bytes → Bytes
public_key s k = cond (refuses (ask_key k) (answer s (ask_key k))) (zeros key_size) (in_root k s.root)

-- ## Image (5, 8): "the found length and digest against the fetched ones"

unfoldable pub image_table : Found → Found → List Refusal
image_table listed fetched =
    5 when bad_digest listed.digest
    ∷ 5 when bad_digest fetched.digest
    ∷ 8 when not (eqb listed.length fetched.length)
    ∷ 8 when not (same listed.digest fetched.digest)
    ∷ []

unfoldable pub image_answer : Found → Found → ℕ
image_answer listed fetched = first (image_table listed fetched)

-- ## Look (1 to 3): "the signed part of the caller's own bytes .. with the number of signature entries"; "A refused look gives an empty
-- part and 0"

pub record Look : Type 0 where
  pub answer : ℕ
  pub start : ℕ
  pub length : ℕ
  pub entries : ℕ

unfoldable pub look_of : Read Envelope → Look
look_of (refused f) = record { answer = fault_number f; start = 0; length = 0; entries = 0 }
look_of (says e ks) = record { answer = 0; start = e.start; length = e.length; entries = length e.entries }

unfoldable pub look : Bytes → Look
look file = look_of (read_envelope file)

-- the part itself: "the signed part of the caller's own bytes, not a copy"
unfoldable pub signed_part : Bytes → Bytes
signed_part file = take (look file).length (drop (look file).start file)

-- ## Entry (1 to 3, 15): "its place counted from 0"; "32 and 64 bytes, the hex undone"

pub record EntryAsked : Type 0 where
  pub answer : ℕ
  pub keyid : Bytes
  pub sig : Bytes

unfoldable pub no_entry : ℕ → EntryAsked
no_entry n = record { answer = n; keyid = zeros key_size; sig = zeros signature_size }

unfoldable pub nth : {A : Type 0} → ℕ → List A → Option A
nth i [] = None
nth zero (x ∷ xs) = Some x
nth (suc i) (x ∷ xs) = nth i xs

unfoldable pub the_entry : Option Entry → EntryAsked
the_entry None = no_entry 15
the_entry (Some e) = record { answer = 0; keyid = e.keyid; sig = e.sig }

unfoldable pub entry_in : ℕ → Read Envelope → EntryAsked
entry_in i (refused f) = no_entry (fault_number f)
entry_in i (says e ks) = the_entry (nth i e.entries)

unfoldable pub entry_at : Bytes → ℕ → EntryAsked
entry_at file i = entry_in i (read_envelope file)
