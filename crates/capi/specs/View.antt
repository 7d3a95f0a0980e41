-- What the exported structs stand for in the paper's records: an answer is its number.
use Rattle.base.specs.Window.{window}
use Rattle.rules.specs.Limits.{signature_size}
use Rattle.rules.specs.Asked.{Found, Look, EntryAsked}
use Rattle.records.specs.View.{view_id}
use Rattle.capi.specs.declared.Image.{Image}
use Rattle.capi.specs.declared.Looked.{Looked}
use Rattle.capi.specs.declared.EntryRead.{EntryRead}

unfoldable pub view_image : Image → Found
view_image r = record { length = r.length; digest = view_id r.digest }

unfoldable pub view_look : Looked → Look
view_look r = record { answer = r.answer; start = r.start; length = r.length; entries = r.entries }

unfoldable pub view_entry_read : EntryRead → EntryAsked
view_entry_read r = record { answer = r.answer; keyid = view_id r.keyid; sig = window r.sig 0 signature_size }
