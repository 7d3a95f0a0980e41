-- The one text of an image with no members but "hashes" and "length", and no hash but "sha256": it is read as that image.
use mathlib.Core.Path.{◌≡◌, refl, sym, ap, ◌∙◌}
use mathlib.Core.List.{[], ◌∷◌, ◌++◌}
use Rattle.std.specs.declared.option.Option.TheVariants.{Some}
use Rattle.canonical_json.specs.Options.{bind}
use mathlib.Core.Bool.{true, false}
use Prim.Native.Nat.{ℕ, ◌+◌, ◌-◌, ◌*◌, ◌<◌}
use Prim.Native.Char.{code}
use native.Mathlib.Omega.{arith}
use lib.ListN.{length, take, drop, get_or, length-drop, length-append}
use lib.Seq.{drop-drop, drop_at}
use Rattle.base.specs.Bytes.{Bytes, bytes, same, less}
use Rattle.base.specs.Hex.{is_hex, all_hex, undo}
use Rattle.base.proofs.TestLaws.{never}
use Rattle.base.proofs.PlaceLaws.{at-cons}
use Rattle.canonical_json.specs.Lead.{wf, lead_of}
use Rattle.canonical_json.specs.Json.{num, put, put_bytes, Valid, valid_num, max_depth}
use Rattle.canonical_json.specs.Read.{Got, bad, got, end_of, number, read}
use Rattle.canonical_json.specs.Fields as fields
use Rattle.canonical_json.specs.Fields.{field, members, lookup, text, keep}
use Rattle.std.specs.declared.option.Option.TheVariants.{Some}
use Rattle.canonical_json.proofs.Says.{says_of}
use Rattle.canonical_json.proofs.NumberLaws.{number_sound}
use Rattle.canonical_json.proofs.Puts.{put-num}
use Rattle.canonical_json.proofs.Rfc.{to_rfc}
use Rattle.canonical_json.proofs.Complete.{complete-object}
use Rattle.lookup.specs.Leaves.{number_in}
use Rattle.lookup.proofs.NumberLaws.{number_of}
use Rattle.lookup.proofs.StandsLaws.{takes_of, ends_of}
use Rattle.rules.specs.Limits.{digest_size, max_length}
use Rattle.rules.specs.Take.{must, hex, unhex}
use Rattle.rules.specs.Forms.{sha256}
use Rattle.forms.specs.View.{digits_at}
use Rattle.forms.proofs.TextLaws.{put-hex, hex-valid, digits-hex, digits-text, digits-raw, digits-is}
use Rattle.targets_file.specs.View.{description, described, ReadsImage}
use Rattle.targets_file.specs.Plain.{plain_image, opening, between, PlainLength}

-- ## Its length

-- the digits of a number that ends at e
record Written (s : Bytes) (p e : ℕ) : Type 0 where
  digits : Bytes
  valid : valid_num false digits ≡ true
  text : drop p s ≡ digits ++ drop e s
  after : p < e

some-digit : (ds : Bytes) → valid_num false ds ≡ true → 0 < length ds
some-digit [] v = never (sym v)
some-digit (b ∷ ds) v = omega arith

written : (s : Bytes) (p e : ℕ) → Some e ≡ end_of (length s) (number false (drop p s)) → Written s p e
written s p e x = go (number false (drop p s)) refl x
  where
    go : (g : Got Bytes) → number false (drop p s) ≡ g → Some e ≡ end_of (length s) g → Written s p e
    go bad k x = let z : ◌≡◌ {A = ℕ} 0 1 = cc in absurd (omega arith)
    go (got ds q) k x =
        let w = says_of (rw k at (number_sound false (drop p s))) in
        let l : length s - p ≡ length ds + length q = sym (length-drop p s) ∙ ap length w.0 ∙ length-append ds q in
        let n = some-digit ds w.1 in
        let f : e ≡ length s - length q = cc in
        let m : e ≡ p + length ds = omega arith in
        record {
          digits = ds;
          valid = w.1;
          text = w.0 ∙ ap (λ (y : Bytes). ds ++ y) (sym (ap (λ (y : ℕ). drop y s) m ∙ sym (drop-drop (length ds) p s) ∙ ap (λ (y : Bytes). drop (length ds) y) w.0 ∙ drop_at ds q (length ds) refl));
          after = omega arith;
        }

pub plain-length : (s : Bytes) (p e n : ℕ) → Some e ≡ end_of (length s) (number false (drop p s)) → e < length s → get_or s e 0 ≡ code "}"
    → Some n ≡ number_in 0 max_length (drop p s) → PlainLength s p n (e + 1)
unfolding Valid
plain-length s p e n x h b k =
    let w = written s p e x in
    let a = w.after in
    let t : drop p s ≡ w.digits ++ (code "}" ∷ drop (e + 1) s) = w.text ∙ ap (λ (y : Bytes). w.digits ++ y) (at-cons s e h ∙ ap (λ (c : ℕ). c ∷ drop (e + 1) s) b) in
    record {
      within = (omega arith, omega arith);
      written = w.digits;
      valid = w.valid;
      text = t;
      is = k ∙ number_of 0 max_length s p (num false w.digits) (record { rest = code "}" ∷ drop (e + 1) s; text = t ∙ sym (put-num false w.digits _); free = refl; valid = w.valid });
    }

-- ## Its text

module _ (hash written q : Bytes) (h : all_hex hash ≡ true) (v : valid_num false written ≡ true) where
  plain-text : put (plain_image hash written) q ≡ opening ++ (hash ++ (between ++ (written ++ (code "}" ∷ q))))
  unfolding plain_image put put_bytes
  plain-text = ap (λ (x : Bytes). opening ++ x) (put-hex hash (between ++ (written ++ (code "}" ∷ q))) h)

  plain-valid : Valid (plain_image hash written) max_depth
  unfolding plain_image Valid wf lead_of less
  plain-valid = (to_rfc (bytes "hashes") refl, (to_rfc (bytes "sha256") refl, hex-valid hash h, tt), (refl, to_rfc (bytes "length") refl, v, tt))

-- what it says
plain-says : (hash written : Bytes) → is_hex digest_size hash ≡ true → (n : ℕ) → Some n ≡ fields.number 0 max_length (num false written)
    → Some (record { length = n; digest = undo hash }) ≡ description (plain_image hash written)
unfolding plain_image description must sha256 hex unhex field members lookup text keep bind same
plain-says hash written h n e = rw (← e, h) refl

module _ (s : Bytes) (p i q n past : ℕ)
    (before : drop p s ≡ opening ++ drop i s)
    (digits : digits_at digest_size s i ≡ true)
    (after : drop (i + digest_size * 2) s ≡ between ++ drop q s)
    (w : PlainLength s q n past) where
  hash : Bytes
  hash = take (digest_size * 2) (drop i s)

  plain-read : read max_depth (drop p s) ≡ got (plain_image hash w.written) (drop past s)
  unfolding plain_image hash
  plain-read =
      let rest = drop past s in
      let h = digits-hex digest_size s i digits in
      let t : drop p s ≡ put (plain_image hash w.written) rest =
      before
      ∙ ap (λ (x : Bytes). opening ++ x) (digits-text digest_size s i digits ∙ ap (λ (x : Bytes). hash ++ x) (after ∙ ap (λ (x : Bytes). between ++ x) w.text))
      ∙ sym (plain-text hash w.written rest h w.valid) in
      ap (read max_depth) t ∙ complete-object _ max_depth rest (plain-valid hash w.written rest h w.valid)

  pub plain-image : p < q → ReadsImage s p (Some (record { value = record { length = n; digest = i }; end = Some past }))
  unfolding described hash
  plain-image ahead =
      let d = digits-raw digest_size s i digits in
      let is = digits-is digest_size s i digits in
      record {
        reads = record {
          means =
              takes_of s p _ _ plain-read description _
              (ap (λ (x : Bytes). Some (record { length = n; digest = undo x })) d
              ∙ plain-says hash w.written (ap (is_hex digest_size) (sym d) ∙ is) n w.is);
          end = ends_of s p _ _ plain-read past refl (let a = w.within.0 in omega arith) w.within.1;
        };
        digits = is;
      }
