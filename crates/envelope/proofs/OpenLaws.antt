-- Opening a file, step by step: refusals 1 to 3, the signed part and the keyids.
use mathlib.Core.Path.{◌≡◌, refl, sym, ap, ◌∙◌}
use Rattle.std.specs.declared.option.Option.{Option}
use Rattle.std.specs.declared.option.Option.TheVariants.{None, Some}
use Rattle.canonical_json.specs.Options.{bind}
use mathlib.Core.List.{List, []}
use Prim.Native.Nat.{ℕ, ◌<◌, ◌≤◌}
use lib.ListN.{length}
use borrow.Author.Tests.{le-leb, lt-leb}
use Rattle.std.specs.declared.result.Result.{Result}
use Rattle.std.specs.declared.result.Result.TheVariants.{Ok, Err}
use Rattle.std.specs.Option.{ok_or}
use Rattle.base.specs.Bytes.{Bytes, bytes}
use Rattle.canonical_json.specs.Json.{Json, Members, put, Canonical, max_depth}
use Rattle.canonical_json.specs.Fields.{members, lookup, field, place_of}
use Rattle.lookup.specs.Place.{Stands, Takes, FindsMember}
use Rattle.rules.specs.Limits.{max_file}
use Rattle.rules.specs.Take.{◌>>=◌, must}
use Rattle.base.proofs.TestLaws.{never}
use Rattle.rules.specs.Records.{Entry, Read, refused, says}
use Rattle.rules.specs.Forms.{Envelope, entries, envelope}
use Rattle.rules.specs.Reading.{parsed, judged_text, read_with, keyids_of, opened, read_envelope}
use Rattle.rules.proofs.OptionLaws.{none-not-some, some_is}
use Rattle.rules.proofs.ReadingLaws.{parsed-exactly}
use Rattle.records.specs.View.{view_entries}
use Rattle.forms.proofs.StepLaws.{stop}
use Rattle.envelope.specs.Header.{keyids}
use Rattle.envelope.specs.Open.{object, IsOpen, EnvelopeOf, Unfolds, view_fault, Opens}
use Rattle.envelope.specs.declared.Fault.{Fault}
use Rattle.envelope.specs.declared.Fault.TheVariants.{TooLong, NotText, BadForm}
use Rattle.envelope.specs.declared.Opened.{Opened}

-- ## The envelope's steps

moved : {s : Bytes} {v : Json} {x y : ℕ} → x ≡ y → Stands s y v → Stands s x v
moved e h = rw e h

abbrev enveloped : List Entry → Json → ℕ → Envelope
enveloped es w x = record { entries = es; signed = w; start = x; length = length (put w []) }

module _ (v : Json) where
  must-keyids : (k : Bytes) → must k keyids v ≡ (must k entries v >>= λ es. Some (keyids_of es))
  unfolding must keyids bind
  must-keyids k = go (field k v)
    where
      go : (o : Option Json) → (o >>= keyids) ≡ ((o >>= entries) >>= λ es. Some (keyids_of es))
      go None = refl
      go (Some w) = refl

  lost : (o : Option (List Entry)) → None ≡ (o >>= λ es. Some (keyids_of es)) → o ≡ None
  unfolding bind
  lost None e = refl
  lost (Some es) e = none-not-some e

  pub no-keyids : None ≡ must (bytes "signatures") keyids v → None ≡ envelope v
  unfolding envelope
  no-keyids e = sym (stop _ (lost (must (bytes "signatures") entries v) (e ∙ must-keyids (bytes "signatures"))))

  entries-there : (ks : List Bytes) → Some ks ≡ must (bytes "signatures") keyids v
      → (es : List Entry) × (must (bytes "signatures") entries v ≡ Some es) × (ks ≡ keyids_of es)
  unfolding bind
  entries-there ks e = go (must (bytes "signatures") entries v) refl (e ∙ must-keyids (bytes "signatures"))
    where
      go : (o : Option (List Entry)) → must (bytes "signatures") entries v ≡ o → Some ks ≡ (o >>= λ es. Some (keyids_of es))
          → (es : List Entry) × (must (bytes "signatures") entries v ≡ Some es) × (ks ≡ keyids_of es)
      go None p e = none-not-some (sym e)
      go (Some es) p e = (es, p, some_is e)

  pub no_signed : field (bytes "signed") v ≡ None → None ≡ envelope v
  unfolding envelope field bind
  no_signed e = go (must (bytes "signatures") entries v) (members v) e
    where
      go : (m : Option (List Entry)) (o : Option Members) → bind o (lookup (bytes "signed")) ≡ None
          → None ≡ (m >>= λ es. o >>= λ ms. lookup (bytes "signed") ms >>= λ signed. members signed >>= λ _. place_of (bytes "signed") ms >>= λ start. Some (enveloped es signed start))
      go None o e = refl
      go (Some es) None e = refl
      go (Some es) (Some ms) e = rw e refl

  module _ (w : Json) (x : ℕ) (e : field (bytes "signed") v ≡ Some w) (f : Some x ≡ (members v >>= place_of (bytes "signed"))) where
    signed-there : envelope v ≡ (must (bytes "signatures") entries v >>= λ es. object w >>= λ _. Some (enveloped es w x))
    unfolding envelope field object bind
    signed-there = go (must (bytes "signatures") entries v) (members v) e f
      where
        last : (es : List Entry) (p : Option Members) → (p >>= λ _. Some (enveloped es w x)) ≡ ((p >>= λ _. Some (tt {0})) >>= λ _. Some (enveloped es w x))
        last es None = refl
        last es (Some ms) = refl

        go : (m : Option (List Entry)) (o : Option Members) → bind o (lookup (bytes "signed")) ≡ Some w → Some x ≡ (o >>= place_of (bytes "signed"))
            → (m >>= λ es. o >>= λ ms. lookup (bytes "signed") ms >>= λ signed. members signed >>= λ _. place_of (bytes "signed") ms >>= λ start. Some (enveloped es signed start))
            ≡ (m >>= λ es. object w >>= λ _. Some (enveloped es w x))
        go None o e f = refl
        go (Some es) None e f = none-not-some e
        go (Some es) (Some ms) e f = rw (e, ← f) (last es (members w))

    pub signed-other : None ≡ object w → None ≡ envelope v
    unfolding bind
    signed-other n = rw signed-there (go (must (bytes "signatures") entries v))
      where
        go : (m : Option (List Entry)) → None ≡ (m >>= λ es. object w >>= λ _. Some (enveloped es w x))
        go None = refl
        go (Some es) = rw (← n) refl

    pub signed-object : Some tt ≡ object w → (es : List Entry) → must (bytes "signatures") entries v ≡ Some es → Some (enveloped es w x) ≡ envelope v
    unfolding bind
    signed-object n es m = rw (signed-there, m, ← n) refl

-- ## The envelope of a file

module _ (file : Bytes) where
  -- nothing, where the form is broken
  broken : Takes file 0 envelope None → Unfolds file None
  broken t v h = rw (← t v h) refl

  pub opens_unsigned : Takes file 0 (must (bytes "signatures") keyids) None → Unfolds file None
  opens_unsigned t = broken (λ v h. no-keyids v (t v h))

  pub opens-nothing : FindsMember file 0 (bytes "signed") None → Unfolds file None
  opens-nothing w = broken (λ v h. no_signed v (w.means v h))

  module _ (start : ℕ) (w : FindsMember file 0 (bytes "signed") (Some start)) where
    place : (v : Json) → Stands file 0 v → Some start ≡ (members v >>= place_of (bytes "signed"))
    unfolding place_of
    place v h = w.place v h

    pub opens_scalar : Takes file start object None → Unfolds file None
    opens_scalar o = broken (λ v h. let signed = w.means v h in signed-other v signed.0 start signed.1 (place v h) (o signed.0 signed.2))

    pub opens-all : Takes file start object (Some tt) → (r : Opened) → r.start ≡ start → Takes file 0 (must (bytes "signatures") keyids) (Some (view_entries r.entries))
        → Unfolds file (Some r)
    opens-all o r a t v h =
        let signed = w.means v h in
        let es = entries-there v (view_entries r.entries) (t v h) in
        rw (← signed-object v signed.0 start signed.1 (place v h) (o signed.0 signed.2) es.0 es.1)
        (r, refl, record { start = a; size = refl; keyids = es.2; stands = moved a signed.2 })

-- ## The file

unparsed : (file : Bytes) → (Canonical max_depth file → ⊥) → parsed file ≡ None
unparsed file n = go (parsed file) refl
  where
    go : (o : Option Json) → parsed file ≡ o → parsed file ≡ None
    go None e = e
    go (Some v) e = let w = (parsed-exactly file v).0 e in absurd (n (v, w.0, w.1))

module _ (file : Bytes) where
  pub opens-long : max_file < length file → Opens file (Err TooLong) (read_envelope file)
  unfolding read_envelope read_with
  opens-long h = rw (lt-leb (length file) max_file h) (TooLong, refl, refl)

  module _ (fits : length file ≤ max_file) where
    pub opens-other : (Canonical max_depth file → ⊥) → Opens file (Err NotText) (read_envelope file)
    unfolding read_envelope read_with judged_text
    opens-other n = rw (le-leb (length file) max_file fits, unparsed file n) (NotText, refl, refl)

    module _ (c : Canonical max_depth file) where
      reads : read_envelope file ≡ opened (envelope c.0)
      unfolding read_envelope read_with judged_text
      reads = rw (le-leb (length file) max_file fits, (parsed-exactly file c.0).1 (c.1, c.2))

      here : Stands file 0 c.0
      here = record { rest = []; text = c.2; free = tt; valid = c.1 }

      -- the envelope's answer, or the refusal
      pub opens-form : (o : Option Opened) → Unfolds file o → Opens file (ok_or o BadForm) (read_envelope file)
      unfolding opened
      opens-form o w = rw reads (go o (envelope c.0) (w c.0 here))
        where
          go : (o : Option Opened) (e : Option Envelope) → EnvelopeOf file o e → Opens file (ok_or o BadForm) (opened e)
          go o None q = rw q (BadForm, refl, refl)
          go o (Some e) q = rw q.1 (q.0, refl, q.2)

-- ## What the result says

fault_is : {f g : Fault} → Path (Result Opened Fault) (Err f) (Err g) → f ≡ g
fault_is e = cc

opened_is : {o p : Opened} → Path (Result Opened Fault) (Ok o) (Ok p) → o ≡ p
opened_is e = cc

ok-not-err : {X : Type 0} {o : Opened} {f : Fault} → Path (Result Opened Fault) (Ok o) (Err f) → X
ok-not-err e = never (cc)

module _ (file : Bytes) where
  -- the file is refused
  pub opened-refused : (f : Fault) → Opens file (Err f) (read_envelope file) → read_envelope file ≡ refused (view_fault f)
  opened-refused f w = go (read_envelope file) w
    where
      go : (x : Read Envelope) → Opens file (Err f) x → x ≡ refused (view_fault f)
      go (refused g) q = rw (← q.2) (ap (λ (y : Fault). refused (view_fault y)) (sym (fault_is q.1)))
      go (says e ks) q = ok-not-err (sym q.1)

  -- the envelope that was opened
  pub opened-says : (o : Opened) → Opens file (Ok o) (read_envelope file) → (e : Envelope) × (ks : List Bytes) × (read_envelope file ≡ says e ks) × IsOpen file o e
  opened-says o w = go (read_envelope file) w
    where
      go : (x : Read Envelope) → Opens file (Ok o) x → (e : Envelope) × (ks : List Bytes) × (x ≡ says e ks) × IsOpen file o e
      go (refused f) q = ok-not-err q.1
      go (says e ks) q = (e, ks, refl, rw (opened_is q.1) q.2)
