-- A role's file: from the envelope, its header, its body and its key table to what the file says. 3 is said before 16, and 16 before 4.
-- The laws `role-refused`, `role-broken`, `role_headless`, `role-keyids`, `role-other` and `role-says` are the ways out of a function that reads the
-- file of a role.
use mathlib.Core.Path.{◌≡◌, refl, sym, ap, ◌∙◌}
use Rattle.std.specs.declared.option.Option.{Option}
use Rattle.std.specs.declared.option.Option.TheVariants.{None, Some}
use Rattle.canonical_json.specs.Options.{bind}
use mathlib.Core.List.{List}
use mathlib.Core.Bool.{Bool, true, false, cond}
use Prim.Native.Nat.{ℕ}
use lib.Dec.{leb}
use lib.IntN.{ℤ}
use lib.ListN.{length}
use Rattle.std.specs.declared.result.Result.TheVariants.{Ok, Err}
use Rattle.base.specs.Bytes.{Bytes}
use Rattle.canonical_json.specs.Json.{Json}
use Rattle.lookup.specs.Place.{Takes, Tests}
use Rattle.rules.specs.Limits.{max_file}
use Rattle.rules.specs.Records.{File, too_long, bad_form, other_keyid, other_spec, Read, refused, says}
use Rattle.rules.specs.Forms.{Envelope, envelope, known_spec, file_of}
use Rattle.rules.specs.Reading.{parsed, judged_text, read_with, keyids_of, opened, read_envelope, known, spoken, in_envelope, read_as}
use Rattle.rules.specs.State.{kept}
use Rattle.records.specs.View.{view_entries}
use Rattle.envelope.specs.Header.{Header, header}
use Rattle.envelope.specs.Open.{IsOpen, Opens, view_fault, view_read}
use Rattle.envelope.specs.declared.Fault.{Fault}
use Rattle.envelope.specs.declared.Fault.TheVariants.{BadForm, OtherKeyid, OtherSpec}
use Rattle.envelope.specs.declared.Signed.{Signed}
use Rattle.envelope.specs.declared.Opened.{Opened}
use Rattle.envelope.proofs.OpenLaws.{opened-refused, opened-says}
use Rattle.envelope.proofs.HeaderLaws.{file, no-file, no_body, file-by}

-- ## From the envelope, the header and a body to what the file says

module _ {A : Type 0} (e : Envelope) (spec : Bytes) (n : ℕ) (x : ℤ) (b : A) where
  spoken-keyids : spoken e false (Some (file spec n x b)) ≡ refused other_keyid
  unfolding spoken
  spoken-keyids = refl

  spoken-other : known_spec spec ≡ false → spoken e true (Some (file spec n x b)) ≡ refused other_spec
  unfolding spoken known
  spoken-other k = rw k refl

  spoken-known : known_spec spec ≡ true → (ks : List Bytes) → ks ≡ keyids_of e.entries → spoken e true (Some (file spec n x b)) ≡ says (file spec n x b) ks
  unfolding spoken known
  spoken-known k ks q = rw (k, q) refl

module _ {A : Type 0} (type : Bytes) (body : Json → Option A) (keyids : Json → Bool) where
  unfoldable after : Read Envelope → Read (File A)
  after (refused f) = refused f
  after (says e ks) = spoken e (keyids e.signed) (file_of type body e.signed)

  by-envelope : (bytes : Bytes) → read_as type body keyids bytes ≡ after (read_envelope bytes)
  unfolding read_as read_envelope read_with judged_text in_envelope opened after
  by-envelope bytes = go (leb (length bytes) max_file) (parsed bytes)
    where
      inner : (e : Option Envelope) → in_envelope (file_of type body) keyids e ≡ after (opened e)
      inner None = refl
      inner (Some e) = refl

      go : (b : Bool) (o : Option Json) → cond b (judged_text (λ v. in_envelope (file_of type body) keyids (envelope v)) o) (refused too_long)
          ≡ after (cond b (judged_text (λ v. opened (envelope v)) o) (refused too_long))
      go false o = refl
      go true None = refl
      go true (Some v) = inner (envelope v)

  module _ (bytes : Bytes) where
    -- the file is refused
    pub refused_as : (f : Fault) → Opens bytes (Err f) (read_envelope bytes) → read_as type body keyids bytes ≡ refused (view_fault f)
    unfolding after
    refused_as f w = by-envelope bytes ∙ rw (opened-refused bytes f w) refl

    module _ (o : Opened) (w : Opens bytes (Ok o) (read_envelope bytes)) where
      -- the envelope that was opened
      pub open_as : (e : Envelope) × IsOpen bytes o e × (read_as type body keyids bytes ≡ spoken e (keyids e.signed) (file_of type body e.signed))
      unfolding after
      open_as = let s = opened-says bytes o w in (s.0, s.3, by-envelope bytes ∙ rw s.2 refl)

      lacks-header : Takes bytes o.start (header type) None → read_as type body keyids bytes ≡ refused bad_form
      unfolding spoken
      lacks-header t =
          let d = open_as in
          d.2 ∙ rw (← no-file type body d.0.signed (t d.0.signed d.1.stands)) refl

      lacks-body : Takes bytes o.start body None → read_as type body keyids bytes ≡ refused bad_form
      unfolding spoken
      lacks-body t =
          let d = open_as in
          d.2 ∙ rw (← no_body type body d.0.signed (t d.0.signed d.1.stands)) refl

      module _ (h : Header) (t : Takes bytes o.start (header type) (Some h)) (b : A) (u : Takes bytes o.start body (Some b)) where
        module _ (own : Bool) (r : Tests bytes o.start keyids own) where
          has-file : (e : Envelope) × IsOpen bytes o e × ((spec : Bytes) × (known_spec spec ≡ h.known) × (read_as type body keyids bytes ≡ spoken e own (Some (file spec h.version h.expires b))))
          unfolding bind
          has-file =
              let d = open_as in
              let v = d.0.signed in
              let f = file-by type body v h (t v d.1.stands) in
              let k : file_of type body v ≡ Some (file f.0 h.version h.expires b) = f.2 ∙ rw (← u v d.1.stands) refl in
              (d.0, d.1, (f.0, f.1, d.2 ∙ rw (← r v d.1.stands, k) refl))

        other-keyids : Tests bytes o.start keyids false → read_as type body keyids bytes ≡ refused other_keyid
        other-keyids r = let f = has-file false r in f.2.2 ∙ spoken-keyids f.0 f.2.0 h.version h.expires b

        module _ (r : Tests bytes o.start keyids true) where
          other-spec : h.known ≡ false → read_as type body keyids bytes ≡ refused other_spec
          other-spec k = let f = has-file true r in f.2.2 ∙ spoken-other f.0 f.2.0 h.version h.expires b (f.2.1 ∙ k)

          says-file : h.known ≡ true → (spec : Bytes) × (read_as type body keyids bytes ≡ says (file spec h.version h.expires b) (view_entries o.entries))
          says-file k = let f = has-file true r in (f.2.0, f.2.2 ∙ spoken-known f.0 f.2.0 h.version h.expires b (f.2.1 ∙ k) _ f.1.keyids)

-- ## The ways out of a function that reads a role's file, of which `keep_it` is kept

module _ {A B T : Type 0} (type : Bytes) (body : Json → Option A) (keyids : Json → Bool) (keep_it : File A → B) (view : T → B) (bytes : Bytes) where
  said-refused : (f : Fault) → read_as type body keyids bytes ≡ refused (view_fault f) → view_read view (Err f) ≡ kept keep_it (read_as type body keyids bytes)
  unfolding view_read kept
  said-refused f s = rw s refl

  -- at opening
  pub role-refused : (f : Fault) → Opens bytes (Err f) (read_envelope bytes) → view_read view (Err f) ≡ kept keep_it (read_as type body keyids bytes)
  role-refused f w = said-refused f (refused_as type body keyids bytes f w)

  module _ (o : Opened) (w : Opens bytes (Ok o) (read_envelope bytes)) where
    -- a broken body
    pub role-broken : Takes bytes o.start body None → view_read view (Err BadForm) ≡ kept keep_it (read_as type body keyids bytes)
    role-broken t = said-refused BadForm (lacks-body type body keyids bytes o w t)

    -- a broken header
    pub role_headless : Takes bytes o.start (header type) None → view_read view (Err BadForm) ≡ kept keep_it (read_as type body keyids bytes)
    role_headless t = said-refused BadForm (lacks-header type body keyids bytes o w t)

    module _ (a : A) (t : Takes bytes o.start body (Some a)) (h : Header) (u : Takes bytes o.start (header type) (Some h)) where
      -- a keyid of the key table that is not its key's
      pub role-keyids : Tests bytes o.start keyids false → view_read view (Err OtherKeyid) ≡ kept keep_it (read_as type body keyids bytes)
      role-keyids r = said-refused OtherKeyid (other-keyids type body keyids bytes o w h u a t r)

      module _ (r : Tests bytes o.start keyids true) where
        -- an unknown spec_version
        pub role-other : h.known ≡ false → view_read view (Err OtherSpec) ≡ kept keep_it (read_as type body keyids bytes)
        role-other k = said-refused OtherSpec (other-spec type body keyids bytes o w h u a t r k)

        -- all well
        pub role-says : h.known ≡ true → (b : Signed T) → ((spec : Bytes) → view b.signed ≡ keep_it (file spec h.version h.expires a))
            → view_entries b.entries ≡ view_entries o.entries → view_read view (Ok b) ≡ kept keep_it (read_as type body keyids bytes)
        unfolding view_read kept
        role-says k b m e =
            let s = says-file type body keyids bytes o w h u a t r k in
            ap (λ (x : B). says x (view_entries b.entries)) (m s.0) ∙ ap (λ (ks : List Bytes). says (keep_it (file s.0 h.version h.expires a)) ks) e
            ∙ sym (ap (λ (x : Read (File A)). kept keep_it x) s.1)
