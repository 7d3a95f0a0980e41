-- The header, step by step, and how a header and a body make a role's file.
use mathlib.Core.Path.{◌≡◌, refl, sym}
use Rattle.std.specs.declared.option.Option.{Option}
use Rattle.std.specs.declared.option.Option.TheVariants.{None, Some}
use Rattle.canonical_json.specs.Options.{bind}
use mathlib.Core.List.{[], ◌∷◌}
use mathlib.Core.Bool.{Bool, true, false, and-true}
use Prim.Native.Nat.{ℕ}
use lib.Dec.{eqb}
use lib.IntN.{ℤ}
use lib.ListN.{take}
use borrow.Author.Tests.{ne_eqb}
use Rattle.base.specs.Bytes.{Bytes, bytes, same}
use Rattle.canonical_json.specs.Json.{Json}
use Rattle.canonical_json.specs.Fields.{text, field, keep}
use Rattle.rules.specs.Take.{◌>>=◌, must, word, date}
use Rattle.rules.specs.Records.{File}
use Rattle.rules.specs.Forms.{version, known_spec, file_of}
use Rattle.rules.proofs.OptionLaws.{none-not-some, some_is}
use Rattle.envelope.specs.Header.{Header, header, spec_known}

-- ## spec_version

-- begins with `1.`
module _ (t : Bytes) where
  pub dot_none : t ≡ [] → false ≡ same (take 2 t) (bytes "1.")
  unfolding same
  dot_none e = rw e refl

  module _ (a : ℕ) (u : Bytes) (e : t ≡ a ∷ u) where
    pub dot_first : (a ≡ 49 → ⊥) → false ≡ same (take 2 t) (bytes "1.")
    unfolding same
    dot_first n = rw (e, ne_eqb a 49 n) refl

    pub dot_short : a ≡ 49 → u ≡ [] → false ≡ same (take 2 t) (bytes "1.")
    unfolding same
    dot_short f g = rw (e, f, g) refl

    pub dot_is : a ≡ 49 → (b : ℕ) (w : Bytes) → u ≡ b ∷ w → eqb b 46 ≡ same (take 2 t) (bytes "1.")
    unfolding same
    dot_is f b w g = rw (e, f, g) (sym (and-true (eqb b 46)))

pub spec-one : (t : Bytes) → true ≡ same t (bytes "1") → true ≡ known_spec t
unfolding known_spec
spec-one t e = rw (← e) refl

pub spec_dot : (t : Bytes) → false ≡ same t (bytes "1") → (x : Bool) → x ≡ same (take 2 t) (bytes "1.") → x ≡ known_spec t
unfolding known_spec
spec_dot t e x f = rw (← e) f

-- ## The header

module _ (type : Bytes) (v : Json) (typed : Bool) (e : keep typed tt ≡ must (bytes "_type") (word type) v) where
  pub no_type : typed ≡ false → None ≡ header type v
  unfolding header bind keep
  no_type q = rw (← e, q)

  module _ (q : typed ≡ true) where
    pub no-spec : None ≡ must (bytes "spec_version") spec_known v → None ≡ header type v
    unfolding header bind keep
    no-spec f = rw (← e, q, ← f)

    module _ (known : Bool) (f : Some known ≡ must (bytes "spec_version") spec_known v) where
      pub no-version : None ≡ version v → None ≡ header type v
      unfolding header bind keep
      no-version g = rw (← e, q, ← f, ← g)

      module _ (n : ℕ) (g : Some n ≡ version v) where
        pub no_date : None ≡ must (bytes "expires") date v → None ≡ header type v
        unfolding header bind keep
        no_date h = rw (← e, q, ← f, ← g, ← h)

        pub header_is : (t : ℤ) → Some t ≡ must (bytes "expires") date v → Some (record { known = known; version = n; expires = t }) ≡ header type v
        unfolding header bind keep
        header_is t h = rw (← e, q, ← f, ← g, ← h)

-- ## A role's file: what the header leaves to the body, and the spec_version that is told as known or not

abbrev head : Bool → ℕ → ℤ → Header
head known n x = record { known = known; version = n; expires = x }

abbrev pub file : {A : Type 0} → Bytes → ℕ → ℤ → A → File A
file t n x b = record { spec_version = t; version = n; expires = x; body = b }

-- a header's steps and a file's steps go together: T is told of both
module _ {A : Type 0} (body : Option A) (T : Option Header → Option (File A) → Type 0)
    (lacks : T None None) (has : (t : Bytes) (n : ℕ) (x : ℤ) → T (Some (head (known_spec t) n x)) (body >>= λ b. Some (file t n x b))) where
  together : (o : Option (Unit {0})) (w : Option Json) (n : Option ℕ) (x : Option ℤ)
      → T (o >>= λ _. (w >>= λ w. text w >>= λ t. Some (known_spec t)) >>= λ known. n >>= λ n. x >>= λ x. Some (head known n x))
      (o >>= λ _. (w >>= text) >>= λ t. n >>= λ n. x >>= λ x. body >>= λ b. Some (file t n x b))
  unfolding bind
  together None w n x = lacks
  together (Some o) None n x = lacks
  together (Some o) (Some w) n x = spec (text w) n x
    where
      spec : (t : Option Bytes) (n : Option ℕ) (x : Option ℤ)
          → T ((t >>= λ t. Some (known_spec t)) >>= λ known. n >>= λ n. x >>= λ x. Some (head known n x))
          (t >>= λ t. n >>= λ n. x >>= λ x. body >>= λ b. Some (file t n x b))
      spec None n x = lacks
      spec (Some t) None x = lacks
      spec (Some t) (Some n) None = lacks
      spec (Some t) (Some n) (Some x) = has t n x

module _ {A : Type 0} (type : Bytes) (body : Json → Option A) (v : Json) where
  steps : (T : Option Header → Option (File A) → Type 0) → T None None
      → ((t : Bytes) (n : ℕ) (x : ℤ) → T (Some (head (known_spec t) n x)) (body v >>= λ b. Some (file t n x b))) → T (header type v) (file_of type body v)
  unfolding header file_of spec_known must
  steps T lacks has = together (body v) T lacks has (must (bytes "_type") (word type) v) (field (bytes "spec_version") v) (version v) (must (bytes "expires") date v)

  pub no-file : None ≡ header type v → None ≡ file_of type body v
  no-file = steps (λ h f. None ≡ h → None ≡ f) (λ e. refl) (λ t n x e. none-not-some e)

  pub no_body : None ≡ body v → None ≡ file_of type body v
  unfolding bind
  no_body e = steps (λ h f. None ≡ f) refl (λ t n x. rw (← e) refl)

  pub file-by : (h : Header) → Some h ≡ header type v
      → (t : Bytes) × (known_spec t ≡ h.known) × (file_of type body v ≡ (body v >>= λ b. Some (file t h.version h.expires b)))
  file-by h =
      steps (λ o f. Some h ≡ o → (t : Bytes) × (known_spec t ≡ h.known) × (f ≡ (body v >>= λ b. Some (file t h.version h.expires b))))
      (λ e. none-not-some (sym e))
      (λ t n x e. let q = some_is e in (t, rw q refl, rw q refl))
