-- A file of which something is made while its body is read: the same as when it is made of the whole body afterwards.
use mathlib.Core.Path.{◌≡◌, refl}
use Rattle.std.specs.declared.option.Option.{Option}
use Rattle.std.specs.declared.option.Option.TheVariants.{None, Some}
use Rattle.canonical_json.specs.Options.{bind}
use mathlib.Core.Bool.{Bool, true, false, cond}
use Prim.Native.Nat.{ℕ}
use lib.Dec.{leb}
use lib.IntN.{ℤ}
use lib.ListN.{length}
use Rattle.base.specs.Bytes.{Bytes, bytes}
use Rattle.canonical_json.specs.Json.{Json}
use Rattle.canonical_json.specs.Fields.{text}
use Rattle.rules.specs.Limits.{max_file}
use Rattle.rules.specs.Take.{◌>>=◌, must, word, date}
use Rattle.rules.specs.Records.{File, too_long, other_spec, refused, says}
use Rattle.rules.specs.Forms.{Envelope, envelope, version, known_spec, file_of}
use Rattle.rules.specs.Reading.{parsed, judged_text, read_with, keyids_of, known, spoken, in_envelope, read_as}
use Rattle.rules.specs.State.{kept}

abbrev mapped : {A B : Type 0} → (A → B) → File A → File B
mapped g f = record { spec_version = f.spec_version; version = f.version; expires = f.expires; body = g f.body }

module _ {A B C : Type 0} (type : Bytes) (body : Json → Option A) (keyids : Json → Bool) (g : A → B) (h : File B → C) where
  abbrev then : Json → Option B
  then v = body v >>= λ a. Some (g a)

  file-then : (v : Json) → file_of type then v ≡ (file_of type body v >>= λ f. Some (mapped g f))
  unfolding file_of bind
  file-then v = go (must (bytes "_type") (word type) v) (must (bytes "spec_version") text v) (version v) (must (bytes "expires") date v) (body v)
    where
      go : (t : Option (Unit {0})) (s : Option Bytes) (n : Option ℕ) (x : Option ℤ) (b : Option A)
          → (t >>= λ _. s >>= λ s. n >>= λ n. x >>= λ x. (b >>= λ a. Some (g a)) >>= λ b. Some (record { spec_version = s; version = n; expires = x; body = b }))
          ≡ ((t >>= λ _. s >>= λ s. n >>= λ n. x >>= λ x. b >>= λ b. Some (record { spec_version = s; version = n; expires = x; body = b })) >>= λ f. Some (mapped g f))
      go None s n x b = refl
      go (Some t) None n x b = refl
      go (Some t) (Some s) None x b = refl
      go (Some t) (Some s) (Some n) None b = refl
      go (Some t) (Some s) (Some n) (Some x) None = refl
      go (Some t) (Some s) (Some n) (Some x) (Some b) = refl

  spoken-then : (e : Envelope) (own : Bool) (o : Option (File A))
      → kept (λ f. h (mapped g f)) (spoken e own o) ≡ kept h (spoken e own (o >>= λ f. Some (mapped g f)))
  unfolding spoken known kept bind
  spoken-then e own None = refl
  spoken-then e false (Some f) = refl
  spoken-then e true (Some f) = go (known_spec f.spec_version)
    where
      go : (b : Bool) → kept (λ f. h (mapped g f)) (cond b (says f (keyids_of e.entries)) (refused other_spec))
          ≡ kept h (cond b (says (mapped g f) (keyids_of e.entries)) (refused other_spec))
      go true = refl
      go false = refl

  pub read-then : (file : Bytes) → kept (λ f. h (mapped g f)) (read_as type body keyids file) ≡ kept h (read_as type then keyids file)
  unfolding read_as read_with judged_text in_envelope kept
  read-then file = go (leb (length file) max_file) (parsed file)
    where
      inner : (e : Option Envelope) → kept (λ f. h (mapped g f)) (in_envelope (file_of type body) keyids e) ≡ kept h (in_envelope (file_of type then) keyids e)
      inner None = refl
      inner (Some e) = rw (file-then e.signed) (spoken-then e (keyids e.signed) (file_of type body e.signed))

      go : (b : Bool) (o : Option Json) → kept (λ f. h (mapped g f)) (cond b (judged_text (λ v. in_envelope (file_of type body) keyids (envelope v)) o) (refused too_long))
          ≡ kept h (cond b (judged_text (λ v. in_envelope (file_of type then) keyids (envelope v)) o) (refused too_long))
      go false o = refl
      go true None = refl
      go true (Some v) = inner (envelope v)
