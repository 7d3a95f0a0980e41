-- The one text of an entry with no members but "keyid" and "sig": it is read as that entry.
use mathlib.Core.Path.{◌≡◌, refl, sym, ap, ◌∙◌}
use mathlib.Core.List.{◌++◌}
use Rattle.std.specs.declared.option.Option.TheVariants.{Some}
use Rattle.canonical_json.specs.Options.{bind}
use mathlib.Core.Bool.{true}
use Prim.Native.Nat.{ℕ, ◌+◌, ◌*◌, ◌≤◌, ◌<◌}
use lib.ListN.{length, take, drop}
use Rattle.base.specs.Bytes.{Bytes, bytes, same, less}
use Rattle.base.specs.Hex.{is_hex, all_hex, undo}
use Rattle.canonical_json.specs.Lead.{wf, lead_of}
use Rattle.canonical_json.specs.Json.{put, put_bytes, Valid, max_depth}
use Rattle.canonical_json.specs.Read.{got, read, raw}
use Rattle.canonical_json.specs.Fields.{field, members, lookup, text, keep}
use Rattle.canonical_json.proofs.Rfc.{to_rfc}
use Rattle.canonical_json.proofs.Complete.{complete-object}
use Rattle.std.specs.declared.option.Option.TheVariants.{Some}
use Rattle.lookup.proofs.StandsLaws.{takes_of, ends_of}
use Rattle.rules.specs.Limits.{key_size, signature_size}
use Rattle.rules.specs.Take.{must, hex, unhex}
use Rattle.rules.specs.Forms.{entry}
use Rattle.forms.specs.View.{digits_at}
use Rattle.forms.proofs.TextLaws.{put-hex, hex-valid, digits-hex, digits-text, digits-raw, digits-is}
use Rattle.envelope.specs.Header.{entry_in, ReadsEntry}
use Rattle.envelope.specs.Plain.{plain_entry, opening, between, closing}
use Rattle.envelope.specs.declared.EntryAt.{EntryAt}

module _ (keyid sig q : Bytes) (h : all_hex keyid ≡ true) (k : all_hex sig ≡ true) where
  plain-text : put (plain_entry keyid sig) q ≡ opening ++ (keyid ++ (between ++ (sig ++ (closing ++ q))))
  unfolding plain_entry put put_bytes
  plain-text =
      ap (λ (x : Bytes). opening ++ x) (put-hex keyid _ h ∙ ap (λ (x : Bytes). keyid ++ (between ++ x)) (put-hex sig (closing ++ q) k))

  plain-valid : Valid (plain_entry keyid sig) max_depth
  unfolding plain_entry Valid wf lead_of less
  plain-valid = (to_rfc (bytes "keyid") refl, hex-valid keyid h, (refl, to_rfc (bytes "sig") refl, hex-valid sig k, tt))

-- what it says
plain-says : (keyid sig : Bytes) → is_hex key_size keyid ≡ true → is_hex signature_size sig ≡ true → Some (record { keyid = undo keyid; sig = undo sig }) ≡ entry (plain_entry keyid sig)
unfolding plain_entry entry must hex unhex field members lookup text keep bind same
plain-says keyid sig h k = rw (h, k) refl

module _ (s : Bytes) (p e : ℕ) (r : EntryAt)
    (before : drop p s ≡ opening ++ drop r.keyid s)
    (keyid : digits_at key_size s r.keyid ≡ true)
    (middle : drop (r.keyid + key_size * 2) s ≡ between ++ drop r.sig s)
    (sig : digits_at signature_size s r.sig ≡ true)
    (after : drop (r.sig + signature_size * 2) s ≡ closing ++ drop e s) where
  id_text : Bytes
  id_text = take (key_size * 2) (drop r.keyid s)

  sig_text : Bytes
  sig_text = take (signature_size * 2) (drop r.sig s)

  plain-read : read max_depth (drop p s) ≡ got (plain_entry id_text sig_text) (drop e s)
  unfolding plain_entry id_text sig_text
  plain-read =
      let h = digits-hex key_size s r.keyid keyid in
      let k = digits-hex signature_size s r.sig sig in
      let t : drop p s ≡ put (plain_entry id_text sig_text) (drop e s) =
      before
      ∙ ap (λ (x : Bytes). opening ++ x) (digits-text key_size s r.keyid keyid ∙ ap (λ (x : Bytes). id_text ++ x) (middle
      ∙ ap (λ (x : Bytes). between ++ x) (digits-text signature_size s r.sig sig ∙ ap (λ (x : Bytes). sig_text ++ x) after)))
      ∙ sym (plain-text id_text sig_text (drop e s) h k) in
      ap (read max_depth) t ∙ complete-object _ max_depth (drop e s) (plain-valid id_text sig_text (drop e s) h k)

  pub plain-reads : p < e → e ≤ length s → ReadsEntry s p (Some (record { value = r; end = Some e }))
  unfolding entry_in id_text sig_text
  plain-reads lo hi =
      let k = digits-is key_size s r.keyid keyid in
      let g = digits-is signature_size s r.sig sig in
      record {
        reads = record {
          means =
              takes_of s p _ _ plain-read entry _
              (ap (λ (x : Bytes). Some (record { keyid = undo x; sig = undo (raw (drop r.sig s)) })) (digits-raw key_size s r.keyid keyid)
              ∙ ap (λ (x : Bytes). Some (record { keyid = undo id_text; sig = undo x })) (digits-raw signature_size s r.sig sig)
              ∙ plain-says id_text sig_text (ap (is_hex key_size) (sym (digits-raw key_size s r.keyid keyid)) ∙ k)
              (ap (is_hex signature_size) (sym (digits-raw signature_size s r.sig sig)) ∙ g));
          end = ends_of s p _ _ plain-read e refl lo hi;
        };
        digits = record { keyid = k; sig = g };
      }
