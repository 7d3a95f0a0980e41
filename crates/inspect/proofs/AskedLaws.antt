-- One entry: refused with its file, not there, or the entry that stands at the place that was found.
use mathlib.Core.Path.{◌≡◌, refl, sym, ap, ◌∙◌}
use Rattle.std.specs.declared.option.Option.{Option}
use Rattle.std.specs.declared.option.Option.TheVariants.{None, Some}
use Rattle.std.specs.declared.result.Result.TheVariants.{Ok, Err}
use Rattle.canonical_json.specs.Options.{bind}
use mathlib.Core.List.{List, []}
use Prim.Native.Nat.{ℕ, zero, suc}
use Rattle.base.specs.Bytes.{Bytes, bytes}
use Rattle.canonical_json.specs.Json.{Json, Items, inil, icons}
use Rattle.lookup.specs.Place.{Stands, Finds, Takes}
use Rattle.rules.specs.Take.{must, each}
use Rattle.rules.specs.Records.{Entry}
use Rattle.rules.specs.Forms.{Envelope, entry, entries, envelope}
use Rattle.rules.specs.Reading.{read_envelope}
use Rattle.rules.specs.Asked.{no_entry, nth, the_entry, entry_in, entry_at}
use Rattle.rules.proofs.OptionLaws.{none-not-some, some_is, had, kept-is}
use Rattle.rules.proofs.ReadingLaws.{parsed-exactly, envelope_of}
use Rattle.rules.specs.Steps.{fault_number}
use Rattle.envelope.specs.declared.Opened.{Opened}
use Rattle.envelope.specs.declared.Fault.{Fault}
use Rattle.envelope.specs.Open.{view_fault, Opens}
use Rattle.envelope.proofs.OpenLaws.{opened-refused, opened-says}
use Rattle.forms.proofs.StepLaws.{on}
use Rattle.std.specs.Option.{option_map, ok_or}
use Rattle.answers.specs.declared.Refusal.{Refusal}
use Rattle.inspect.specs.declared.EntryRead.{EntryRead}
use Rattle.inspect.specs.View.{view_entry_read, view_asked}
use Rattle.inspect.specs.Elements.{elements, element_at, asked_entry}

-- ## Entries and the elements that they are read in

-- p is what the element o says: none where there is none
abbrev Reads : {A : Type 0} → (Json → Option A) → Option Json → Option A → Type 0
Reads f None p = p ≡ None
Reads {A} f (Some u) p = (a : A) × (f u ≡ Some a) × (p ≡ Some a)

each-nth : {A : Type 0} (f : Json → Option A) (xs : Items) (ys : List A) → each f xs ≡ Some ys → (i : ℕ) → Reads f (nth i (elements xs)) (nth i ys)
unfolding each nth elements
each-nth f inil ys e i = rw (← some_is e) refl
each-nth f (icons v vs) ys e zero =
    let a = had _ _ e in
    let more = had _ _ a.2 in
    rw (← some_is more.2) (a.0, a.1, refl)
each-nth f (icons v vs) ys e (suc i) =
    let a = had _ _ e in
    let more = had _ _ a.2 in
    rw (← some_is more.2) (each-nth f vs more.0 more.1 i)

entry-nth : (v : Json) (es : List Entry) → must (bytes "signatures") entries v ≡ Some es → (i : ℕ)
    → Reads entry (must (bytes "signatures") (element_at i) v) (nth i es)
unfolding must entries element_at
entry-nth v es e i =
    let w = had _ _ e in
    let xs = had _ _ w.2 in
    let k = had _ _ xs.2 in
    let all : xs.0 ≡ k.0 = (kept-is _ _ k.1).1 in
    rw (on _ w.1, on _ xs.1, all) (each-nth entry k.0 es k.2 i)

-- the entries of an envelope
entries-of : (v : Json) (e : Envelope) → envelope v ≡ Some e → must (bytes "signatures") entries v ≡ Some e.entries
unfolding envelope
entries-of v e h =
    let es = had _ _ h in
    let ms = had _ _ es.2 in
    let signed = had _ _ ms.2 in
    let any = had _ _ signed.2 in
    let start = had _ _ any.2 in
    es.1 ∙ ap (λ (x : Envelope). Some x.entries) (some_is start.2)

-- ## The entry that is given

module _ (v : Json) where
  pub asked-no : None ≡ entry v → None ≡ asked_entry v
  unfolding asked_entry bind
  asked-no e = rw (← e)

  pub asked-is : (k s : Bytes) → Some (record { keyid = k; sig = s }) ≡ entry v → Some (the_entry (Some (record { keyid = k; sig = s }))) ≡ asked_entry v
  unfolding asked_entry bind
  asked-is k s e = rw (← e)

-- ## The answer

module _ (file : Bytes) (place : ℕ) where
  pub asked-refused : (f : Fault) → Opens file (Err f) (read_envelope file) → no_entry (fault_number (view_fault f)) ≡ entry_at file place
  unfolding entry_at entry_in
  asked-refused f w = rw (opened-refused file f w)

  module _ (o : Opened) (w : Opens file (Ok o) (read_envelope file)) where
    -- what the envelope says of the place
    said : (v : Json) × Stands file 0 v × (es : List Entry) × (must (bytes "signatures") entries v ≡ Some es) × (entry_at file place ≡ the_entry (nth place es))
    unfolding entry_at entry_in
    said =
        let s = opened-says file o w in
        let d = envelope_of file s.0 s.1 s.2 in
        let t = (parsed-exactly file d.value).0 d.text in
        (d.value, record { rest = []; text = t.1; free = tt; valid = t.0 }, s.0.entries, entries-of d.value s.0 d.form, rw s.2 refl)

    pub asked-none : Finds file 0 (must (bytes "signatures") (element_at place)) None → no_entry 15 ≡ entry_at file place
    unfolding the_entry
    asked-none f =
        let s = said in
        let k : nth place s.2 ≡ None = rw (f s.0 s.1) at (entry-nth s.0 s.2 s.3 place) in
        sym (s.4 ∙ rw k refl)

    module _ (x : ℕ) (f : Finds file 0 (must (bytes "signatures") (element_at place)) (Some x)) where
      -- the element is an entry
      there : (u : Json) × Stands file x u × (a : Entry) × (entry u ≡ Some a) × (entry_at file place ≡ the_entry (Some a))
      there =
          let s = said in
          let p = f s.0 s.1 in
          let k : Reads entry (Some p.0) (nth place s.2) = rw p.1 at (entry-nth s.0 s.2 s.3 place) in
          (p.0, p.2, k.0, k.1, s.4 ∙ ap the_entry k.2)

      pub asked-some : (r : Option EntryRead) → Takes file x asked_entry (option_map view_entry_read r) → (e : Refusal) → view_asked (ok_or r e) ≡ entry_at file place
      unfolding asked_entry view_asked bind
      asked-some None t e = let u = there in none-not-some (t u.0 u.1 ∙ on _ u.3)
      asked-some (Some y) t e = let u = there in some_is (t u.0 u.1 ∙ on _ u.3) ∙ sym u.4
