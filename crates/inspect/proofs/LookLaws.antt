-- Looking in: from an opened envelope to the answer and the number of entries; the signed part lies in the file.
use mathlib.Core.Path.{◌≡◌, refl, sym, ap, ◌∙◌}
use mathlib.Core.List.{List, map}
use Prim.Native.Nat.{ℕ, ◌+◌, ◌-◌, ◌≤◌}
use native.Mathlib.Omega.{arith}
use lib.ListN.{length, take, drop, length-map}
use Rattle.base.specs.Bytes.{Bytes}
use Rattle.lookup.specs.Place.{EndsAt}
use Rattle.std.specs.declared.option.Option.TheVariants.{None, Some}
use Rattle.std.specs.declared.result.Result.TheVariants.{Ok, Err}
use Rattle.lookup.proofs.StandsLaws.{end-found, end_is}
use Rattle.lookup.proofs.PlacedLaws.{value-length}
use Rattle.rules.specs.Records.{Entry, Read, refused, says}
use Rattle.rules.specs.Forms.{Envelope}
use Rattle.rules.specs.Reading.{keyids_of, read_envelope}
use Rattle.rules.specs.Asked.{Look, look_of, look, signed_part}
use Rattle.rules.proofs.ReadingLaws.{signed_part_lem}
use Rattle.rules.specs.Steps.{fault_number}
use Rattle.records.specs.declared.Id.{Id}
use Rattle.records.specs.View.{view_id, view_entries}
use Rattle.envelope.specs.declared.Opened.{Opened}
use Rattle.envelope.specs.declared.Fault.{Fault}
use Rattle.envelope.specs.Open.{IsOpen, view_fault, Opens}
use Rattle.envelope.proofs.OpenLaws.{opened-refused, opened-says}
use Rattle.inspect.specs.View.{no_look}

-- ## The answer

-- the entries are as many as their keyids
counted : (ids : List Id) (read : List Entry) → map view_id ids ≡ keyids_of read → length ids ≡ length read
unfolding keyids_of
counted ids read e = sym (length-map ids _) ∙ ap length e ∙ length-map read _

-- by its parts
looks : (answer start length entries : ℕ) (l : Look) → answer ≡ l.answer → start ≡ l.start → length ≡ l.length → entries ≡ l.entries
    → record { answer = answer; start = start; length = length; entries = entries } ≡ l
looks answer start length entries l a s n e = rw (a, s, n, e)

-- an accepted look
abbrev seen : ℕ → ℕ → ℕ → Look
seen start length entries = record { answer = 0; start = start; length = length; entries = entries }

module _ (file : Bytes) where
  pub look-refused : (f : Fault) → Opens file (Err f) (read_envelope file) → no_look (fault_number (view_fault f)) ≡ look file
  unfolding look look_of no_look
  look-refused f w = rw (opened-refused file f w)

  module _ (o : Opened) (w : Opens file (Ok o) (read_envelope file)) where
    -- what the look gives, by the envelope that was opened
    opens : (e : Envelope) × IsOpen file o e × (look file ≡ seen e.start e.length (length e.entries))
    unfolding look look_of
    opens = let s = opened-says file o w in (s.0, s.3, rw s.2 refl)

    -- its signed part ends
    pub look-endless : {X : Type 0} → EndsAt file o.start None → X
    look-endless x = let s = opens in absurd (end-found file o.start s.0.signed s.1.stands x refl)

    pub look_is : (end : ℕ) → EndsAt file o.start (Some end) → (ids : List Id) → map view_id ids ≡ view_entries o.entries
        → seen o.start (end - o.start) (length ids) ≡ look file
    look_is end x ids k =
        let s = opens in
        let e = s.0 in
        let i = end_is file o.start e.signed s.1.stands x end refl in
        let m = value-length file o.start e.signed s.1.stands in
        let z = s.1.size in
        looks 0 o.start (end - o.start) (length ids) (seen e.start e.length (length e.entries)) refl s.1.start (omega arith) (counted ids e.entries (k ∙ s.1.keyids))
        ∙ sym s.2

-- ## The part

part-inside : (file : Bytes) → (look file).start + (look file).length ≤ length file
unfolding look look_of
part-inside file = go (read_envelope file) refl
  where
    go : (e : Read Envelope) → read_envelope file ≡ e → (look_of e).start + (look_of e).length ≤ length file
    go (refused f) q = omega arith
    go (says e ks) q = (signed_part_lem file e ks q).inside

module _ (file : Bytes) (l : Look) (w : l ≡ look file) where
  pub inside : l.start + l.length ≤ length file
  inside = rw w (part-inside file)

  pub part-is : take (l.start + l.length - l.start) (drop l.start file) ≡ signed_part file
  unfolding signed_part
  part-is = rw w (ap (λ (n : ℕ). take n (drop (look file).start file)) (past (look file).start (look file).length))
    where
      past : (a n : ℕ) → a + n - a ≡ n
      past a n = omega arith
