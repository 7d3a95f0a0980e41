-- What the answers stand for in the paper's records.
use Rattle.std.specs.Prelude.{ℕ}
use Rattle.std.specs.declared.result.Result.{Result}
use Rattle.std.specs.declared.result.Result.TheVariants.{Ok, Err}
use Rattle.base.specs.Window.{window}
use Rattle.rules.specs.Limits.{signature_size}
use Rattle.rules.specs.Asked.{Look, EntryAsked, no_entry}
use Rattle.answers.specs.Number.{refusal_number, number_of}
use Rattle.answers.specs.declared.Refusal.{Refusal}
use Rattle.records.specs.View.{view_id}
use Rattle.inspect.specs.declared.Looked.{Looked}
use Rattle.inspect.specs.declared.EntryRead.{EntryRead}

unfoldable pub view_look : Looked → Look
view_look r = record { answer = number_of r.answer; start = r.start; length = r.length; entries = r.entries }

-- a refused look
unfoldable pub no_look : ℕ → Look
no_look n = record { answer = n; start = 0; length = 0; entries = 0 }

unfoldable pub view_looked : Result Looked Refusal → Look
view_looked (Ok r) = view_look r
view_looked (Err e) = no_look (refusal_number e)

unfoldable pub view_entry_read : EntryRead → EntryAsked
view_entry_read r =
    record { answer = number_of r.answer; keyid = view_id r.keyid; sig = window r.sig 0 signature_size }

unfoldable pub view_asked : Result EntryRead Refusal → EntryAsked
view_asked (Ok r) = view_entry_read r
view_asked (Err e) = no_entry (refusal_number e)
