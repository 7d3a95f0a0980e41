-- What an opened file says, and a role's file when it is read.
use Rattle.std.specs.Prelude.{◌≡◌, [], length}
use Rattle.std.specs.declared.option.Option.{Option}
use Rattle.std.specs.declared.option.Option.TheVariants.{None, Some}
use Rattle.std.specs.declared.result.Result.{Result}
use Rattle.std.specs.declared.result.Result.TheVariants.{Ok, Err}
use Rattle.base.specs.Bytes.{Bytes}
use Rattle.canonical_json.specs.Json.{Json, put}
use Rattle.canonical_json.specs.Fields.{members}
use Rattle.lookup.specs.Place.{Stands}
use Rattle.rules.specs.Take.{◌>>=◌}
use Rattle.rules.specs.Records as rules
use Rattle.rules.specs.Records.{Read, refused, says}
use Rattle.rules.specs.Forms.{Envelope, envelope}
use Rattle.rules.specs.Reading.{keyids_of}
use Rattle.records.specs.View.{view_entries}
use Rattle.envelope.specs.declared.Fault.{Fault}
use Rattle.envelope.specs.declared.Fault.TheVariants.{TooLong, NotText, BadForm, OtherKeyid, OtherSpec}
use Rattle.envelope.specs.declared.Signed.{Signed}
use Rattle.envelope.specs.declared.Opened.{Opened}

-- ## The envelope

-- an object
unfoldable pub object : Json → Option (Unit {0})
object v = members v >>= λ _. Some tt

-- r is the opened envelope e, whose signed value stands in the file at its place
pub record IsOpen (file : Bytes) (r : Opened) (e : Envelope) : Type 0 where
  pub start : r.start ≡ e.start
  pub size : e.length ≡ length (put e.signed [])
  pub keyids : view_entries r.entries ≡ keyids_of e.entries
  pub stands : Stands file r.start e.signed

-- r is the opened envelope o, or says that there is none
abbrev pub EnvelopeOf : Bytes → Option Opened → Option Envelope → Type 0
EnvelopeOf file r None = r ≡ None
EnvelopeOf file r (Some e) = (o : Opened) × (r ≡ Some o) × IsOpen file o e

-- what is promised of a canonical file: its value stands at its beginning
abbrev pub Unfolds : Bytes → Option Opened → Type 0
Unfolds file r = (v : Json) → Stands file 0 v → EnvelopeOf file r (envelope v)

-- ## Reading's refusals

abbrev pub view_fault : Fault → rules.Fault
view_fault TooLong = rules.too_long
view_fault NotText = rules.not_text
view_fault BadForm = rules.bad_form
view_fault OtherKeyid = rules.other_keyid
view_fault OtherSpec = rules.other_spec

-- r is the opened envelope, or the refusal
abbrev pub Opens : Bytes → Result Opened Fault → Read Envelope → Type 0
Opens file r (refused g) = (f : Fault) × (r ≡ Err f) × (view_fault f ≡ g)
Opens file r (says e ks) = (o : Opened) × (r ≡ Ok o) × IsOpen file o e

-- ## A role's file, read: the refusal, or what it says

unfoldable pub view_read : {T A : Type 0} → (T → A) → Result (Signed T) Fault → Read A
view_read view (Ok r) = says (view r.signed) (view_entries r.entries)
view_read view (Err f) = refused (view_fault f)
