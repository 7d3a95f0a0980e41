-- Reading: `parsed` gives just the valid value that has this text; what a file that was read consists of; and the part that is handed
-- back is the signed value's text in the caller's file.
use mathlib.Core.Path.{◌≡◌, refl, sym, ap, ◌∙◌, subst}
use mathlib.Core.Logic.{◌↔◌}
use Rattle.std.specs.declared.option.Option.{Option}
use Rattle.std.specs.declared.option.Option.TheVariants.{None, Some}
use mathlib.Core.Bool.{Bool, true, false, cond}
use mathlib.Core.List.{List, [], ◌∷◌, ◌++◌, append_assoc}
use Prim.Native.Nat.{ℕ, ◌+◌, ◌≤◌, ◌<◌}
use native.Mathlib.Omega.{arith}
use borrow.Author.Tests.{leb-true, le-leb, lt-leb}
use lib.Dec.{leb}
use lib.ListN.{length, take, drop, length-append}
use lib.Seq.{take_at, drop_at}
use Rattle.base.specs.Bytes.{Bytes, bytes, same}
use Rattle.canonical_json.specs.Json.{Json, jnull, jtrue, jfalse, num, str, arr, obj, Members, mnil, mcons, put, put_members, put_more_members, put_str, Valid, Canonical, max_depth}
use Rattle.canonical_json.specs.Read.{Got, bad, got, read}
use Rattle.canonical_json.specs.Fields.{members, lookup, place_from, place_of}
use Rattle.canonical_json.proofs.Says.{says_of}
use Rattle.canonical_json.proofs.Sound.{read_sound, Wrote}
use Rattle.canonical_json.proofs.Complete.{complete}
use Rattle.canonical_json.proofs.Puts.{put-str, put-obj, members-cons, more-members-cons}
use Rattle.canonical_json.proofs.Slices.{put-split}
use Rattle.rules.specs.Limits.{max_file}
use Rattle.base.proofs.TestLaws.{never}
use Rattle.rules.specs.Records.{File, Fault, Read, refused, says, too_long, not_text, bad_form, other_keyid, other_spec}
use Rattle.rules.specs.Forms.{Envelope, envelope, known_spec, file_of}
use Rattle.rules.specs.State.{kept}
use Rattle.rules.specs.Table.{Refusal, absent}
use Rattle.rules.specs.Reading.{whole, parsed, judged_text, read_with, keyids_of, opened, read_envelope, known, spoken, in_envelope, read_as}
use Rattle.rules.specs.Steps.{fault_number, judged}
use Rattle.rules.proofs.OptionLaws.{none-not-some, some_is, had, not-absent}

-- ## Text

whole_is : (g : Got Json) (v : Json) → whole g ≡ Some v → g ≡ got v []
unfolding whole
whole_is bad v e = none-not-some e
whole_is (got w []) v e = rw (some_is e)
whole_is (got w (b ∷ r)) v e = none-not-some e

pub parsed-exactly : (file : Bytes) (v : Json) → (parsed file ≡ Some v) ↔ (Valid v max_depth × (file ≡ put v []))
unfolding parsed whole
parsed-exactly file v = (there, back)
  where
    there : whole (read max_depth file) ≡ Some v → Valid v max_depth × (file ≡ put v [])
    there e =
        let w : Wrote max_depth file v [] = says_of (rw (whole_is (read max_depth file) v e) at (read_sound max_depth file)) in
        (w.1, w.0)

    back : Valid v max_depth × (file ≡ put v []) → whole (read max_depth file) ≡ Some v
    back w = rw (w.1, complete v max_depth [] w.0 tt)

pub canonical_exactly : (file : Bytes) → (absent (parsed file) ≡ false) ↔ Canonical max_depth file
canonical_exactly file = (there, λ c. (not-absent (parsed file)).1 (c.0, (parsed-exactly file c.0).1 (c.1, c.2)))
  where
    there : absent (parsed file) ≡ false → Canonical max_depth file
    there e =
        let v = (not-absent (parsed file)).0 e in
        let w = (parsed-exactly file v.0).0 v.1 in
        (v.0, w.0, w.1)

-- ## "32,768 bytes may pass, 32,769 is 1"

module _ {A : Type 0} (f : Json → Read A) (file : Bytes) where
  pub too_long_lem : 32768 < length file → (table : A → List Bytes → List Refusal) → judged (read_with f file) table ≡ 1
  unfolding read_with judged fault_number
  too_long_lem h table = rw (lt-leb (length file) max_file h)

  pub not-too_long : length file ≤ 32768 → read_with f file ≡ judged_text f (parsed file)
  unfolding read_with
  not-too_long h = rw (le-leb (length file) max_file h)

-- ## What a file that was read consists of

refused-not-says : {A X : Type 0} {f : Fault} {a : A} {es : List Bytes} → Path (Read A) (refused f) (says a es) → X
refused-not-says e = never (cc)

-- it is not too long, and its value has the form
pub record ValueOf {A : Type 0} (f : Json → Read A) (file : Bytes) (a : A) (es : List Bytes) : Type 0 where
  pub value : Json
  pub fits : length file ≤ max_file
  pub text : parsed file ≡ Some value
  pub form : f value ≡ says a es

pub value_of : {A : Type 0} (f : Json → Read A) (file : Bytes) (a : A) (es : List Bytes) → read_with f file ≡ says a es → ValueOf f file a es
unfolding read_with judged_text
value_of {A} f file a es e = step (leb (length file) max_file) refl (parsed file) refl e
  where
    step : (b : Bool) → leb (length file) max_file ≡ b → (o : Option Json) → parsed file ≡ o
        → cond b (judged_text f o) (refused too_long) ≡ says a es → ValueOf f file a es
    step true q None p e = refused-not-says e
    step true q (Some v) p e = record { value = v; fits = leb-true (length file) max_file q; text = p; form = e }
    step false q o p e = refused-not-says e

-- the envelope of a file that was looked into
pub record EnvelopeOf (file : Bytes) (e : Envelope) : Type 0 where
  pub value : Json
  pub text : parsed file ≡ Some value
  pub form : envelope value ≡ Some e

pub envelope_of : (file : Bytes) (e : Envelope) (ks : List Bytes) → read_envelope file ≡ says e ks → EnvelopeOf file e
unfolding read_envelope opened
envelope_of file e ks h =
    let w = value_of (λ v. opened (envelope v)) file e ks h in
    step w.value w.text (envelope w.value) refl w.form
  where
    step : (v : Json) → parsed file ≡ Some v → (o : Option Envelope) → envelope v ≡ o → opened o ≡ says e ks → EnvelopeOf file e
    step v p None q h = refused-not-says h
    step v p (Some d) q h = let d-is : d ≡ e = cc in record { value = v; text = p; form = rw d-is at q }

-- a file of which none of 1 to 3 holds
pub record Formed {A : Type 0} (type : Bytes) (body : Json → Option A) (file : Bytes) : Type 0 where
  pub value : Json
  pub envelope-is : Envelope
  pub contents : File A
  pub fits : length file ≤ max_file
  pub text : parsed file ≡ Some value
  pub form : envelope value ≡ Some envelope-is
  pub role : file_of type body envelope-is.signed ≡ Some contents

-- what reading a role's file comes to: one of 1 to 3, or else it is the keyids and the spec_version that decide
pub data Outcome {A : Type 0} (type : Bytes) (body : Json → Option A) (keyids : Json → Bool) (file : Bytes) : Read (File A) → Type 0 where
  unformed : {x : Fault} → ¬ (x ≡ other_keyid) → Outcome type body keyids file (refused x)
  formed : (w : Formed type body file)
      → Outcome type body keyids file (cond (keyids w.envelope-is.signed) (known w.envelope-is w.contents) (refused other_keyid))

pub outcome : {A : Type 0} (type : Bytes) (body : Json → Option A) (keyids : Json → Bool) (file : Bytes)
    → Outcome type body keyids file (read_as type body keyids file)
unfolding read_as read_with judged_text in_envelope spoken
outcome {A} type body keyids file = values (leb (length file) max_file) refl (parsed file) refl
  where
    speaks : (v : Json) (e : Envelope) → length file ≤ max_file → parsed file ≡ Some v → envelope v ≡ Some e
        → (o : Option (File A)) → file_of type body e.signed ≡ o → Outcome type body keyids file (spoken e (keyids e.signed) o)
    speaks v e l p q None r = unformed {x = bad_form} (λ (z : bad_form ≡ other_keyid). never (cc))
    speaks v e l p q (Some g) r =
        formed (record { value = v; envelope-is = e; contents = g; fits = l; text = p; form = q; role = r })

    opens : (v : Json) → length file ≤ max_file → parsed file ≡ Some v → (o : Option Envelope) → envelope v ≡ o
        → Outcome type body keyids file (in_envelope (file_of type body) keyids o)
    opens v l p None q = unformed {x = bad_form} (λ (z : bad_form ≡ other_keyid). never (cc))
    opens v l p (Some e) q = speaks v e l p q (file_of type body e.signed) refl

    values : (b : Bool) → leb (length file) max_file ≡ b → (o : Option Json) → parsed file ≡ o
        → Outcome type body keyids file (cond b (judged_text (λ v. in_envelope (file_of type body) keyids (envelope v)) o) (refused too_long))
    values true l None p = unformed {x = not_text} (λ (z : not_text ≡ other_keyid). never (cc))
    values true l (Some v) p = opens v (leb-true (length file) max_file l) p (envelope v) refl
    values false l o p = unformed {x = too_long} (λ (z : too_long ≡ other_keyid). never (cc))

-- a role's file that was read
pub record RoleFile {A : Type 0} (type : Bytes) (body : Json → Option A) (keyids : Json → Bool) (file : Bytes) (f : File A) (es : List Bytes) : Type 0 where
  pub value : Json
  pub envelope-is : Envelope
  pub text : parsed file ≡ Some value
  pub form : envelope value ≡ Some envelope-is
  pub role : file_of type body envelope-is.signed ≡ Some f
  pub own : keyids envelope-is.signed ≡ true
  pub spec : known_spec f.spec_version ≡ true
  pub signers : keyids_of envelope-is.entries ≡ es

pub role-file : {A : Type 0} (type : Bytes) (body : Json → Option A) (keyids : Json → Bool) (file : Bytes) (f : File A) (es : List Bytes)
    → read_as type body keyids file ≡ says f es → RoleFile type body keyids file f es
unfolding known
role-file {A} type body keyids file f es h = go (outcome type body keyids file) h
  where
    knows : (w : Formed type body file) (own : Bool) → keyids w.envelope-is.signed ≡ own → (b : Bool) → known_spec w.contents.spec_version ≡ b
        → cond own (cond b (says w.contents (keyids_of w.envelope-is.entries)) (refused other_spec)) (refused other_keyid) ≡ says f es
        → RoleFile type body keyids file f es
    knows w true o true k h =
        let f-is : w.contents ≡ f = cc in
        record {
          value = w.value;
          envelope-is = w.envelope-is;
          text = w.text;
          form = w.form;
          role = rw f-is at w.role;
          own = o;
          spec = rw f-is at k;
          signers = cc;
        }
    knows w true o false k h = refused-not-says h
    knows w false o b k h = refused-not-says h

    go : {rd : Read (File A)} → Outcome type body keyids file rd → rd ≡ says f es → RoleFile type body keyids file f es
    go (unformed n) h = refused-not-says h
    go (formed w) h = knows w (keyids w.envelope-is.signed) refl (known_spec w.contents.spec_version) refl h

-- the body of a role's file
pub body_is : {A : Type 0} (type : Bytes) (body : Json → Option A) (v : Json) (f : File A) → file_of type body v ≡ Some f → body v ≡ Some f.body
unfolding file_of
body_is type body v f e =
    let t = had _ _ e in
    let spec = had _ _ t.2 in
    let version = had _ _ spec.2 in
    let expires = had _ _ version.2 in
    let b = had _ _ expires.2 in
    b.1 ∙ ap Some (ap (λ (x : File _). x.body) (some_is b.2))

-- a reading of what is kept is one of what the file says
pub kept-says : {A B : Type 0} (f : A → B) (g : Read A) (b : B) (es : List Bytes) → kept f g ≡ says b es → (a : A) × (g ≡ says a es) × (f a ≡ b)
unfolding kept
kept-says f (refused x) b es e = never (cc)
kept-says f (says a ks) b es e = let ks-is : ks ≡ es = cc in (a, ap (says a) ks-is, cc)

-- ## The signed part

str-split : (s r : Bytes) → put_str s r ≡ put_str s [] ++ r
str-split s r = rw (put-str, put-str) at (put-split (str s) r)

-- the text from place p on has the value v at place start
record Placed (p start : ℕ) (v : Json) (text : Bytes) : Type 0 where
  before : Bytes
  rest : Bytes
  place : start ≡ p + length before
  is : text ≡ before ++ put v rest

-- after q and a colon
at_first : (p : ℕ) (v : Json) (rest q text : Bytes) → text ≡ q ++ (58 ∷ put v rest) → Placed p (p + length q + 1) v text
at_first p v rest q text e =
    record {
      before = q ++ (58 ∷ []);
      rest = rest;
      place = simp length-append (omega arith);
      is = rw append_assoc e;
    }

-- after q, a colon, u and a comma
at-later : (p start : ℕ) (v : Json) (q u text below : Bytes) → text ≡ q ++ (58 ∷ (u ++ (44 ∷ below)))
    → Placed (p + length q + 1 + length u + 1) start v below → Placed p start v text
at-later p start v q u text below e b =
    record {
      before = q ++ (58 ∷ (u ++ (44 ∷ b.before)));
      rest = b.rest;
      place = simp length-append (omega (arith, b.place));
      is = rw (e, b.is) (simp append_assoc);
    }

-- where a member is found, more members are written as members are, after a comma
more : (k : Bytes) (ms : Members) (v : Json) (r : Bytes) → lookup k ms ≡ Some v → put_more_members ms r ≡ 44 ∷ put_members ms r
unfolding lookup
more k mnil v r e = none-not-some e
more k (mcons n w ms) v r e = rw (more-members-cons, members-cons)

placed : (k : Bytes) (ms : Members) (p start : ℕ) (v : Json) (r : Bytes) → lookup k ms ≡ Some v → place_from p k ms ≡ Some start
    → Placed p start v (put_members ms r)
unfolding lookup place_from
placed k mnil p start v r e h = none-not-some e
placed k (mcons n w ms) p start v r e h =
    step (same n k) e h (placed k ms (p + length (put_str n []) + 1 + length (put w []) + 1) start v r)
  where
    step : (b : Bool) → cond b (Some w) (lookup k ms) ≡ Some v
        → cond b (Some (p + length (put_str n []) + 1)) (place_from (p + length (put_str n []) + 1 + length (put w []) + 1) k ms) ≡ Some start
        → (lookup k ms ≡ Some v → place_from (p + length (put_str n []) + 1 + length (put w []) + 1) k ms ≡ Some start
        → Placed (p + length (put_str n []) + 1 + length (put w []) + 1) start v (put_members ms r))
        → Placed p start v (put_members (mcons n w ms) r)
    step true e h below =
        rw (← some_is h, ← some_is e)
        (at_first p w (put_more_members ms r) (put_str n []) (put_members (mcons n w ms) r)
        (members-cons n w ms r ∙ str-split n (58 ∷ put w (put_more_members ms r))))
    step false e h below =
        at-later p start v (put_str n []) (put w []) (put_members (mcons n w ms) r) (put_members ms r)
        (members-cons n w ms r ∙ ap (λ (t : Bytes). put_str n (58 ∷ put w t)) (more k ms v r e) ∙ ap (λ (t : Bytes). put_str n (58 ∷ t)) (put-split w (44 ∷ put_members ms r))
        ∙ str-split n (58 ∷ (put w [] ++ (44 ∷ put_members ms r))))
        (below e h)

-- the signed value's text in the file
pub record SignedPart (file : Bytes) (e : Envelope) : Type 0 where
  pub part : take e.length (drop e.start file) ≡ put e.signed []
  pub inside : e.start + e.length ≤ length file

part_of : (file before rest u : Bytes) (start : ℕ) → file ≡ before ++ (u ++ rest) → start ≡ length before
    → (take (length u) (drop start file) ≡ u) × (start + length u ≤ length file)
part_of file before rest u start e h =
    (rw (e, drop_at before (u ++ rest) start (sym h)) (take_at u rest (length u) refl), rw e (simp length-append (omega arith)))

is-object : (v : Json) (ms : Members) → members v ≡ Some ms → v ≡ obj ms
unfolding members
is-object jnull ms e = none-not-some e
is-object jtrue ms e = none-not-some e
is-object jfalse ms e = none-not-some e
is-object (num s ds) ms e = none-not-some e
is-object (str s) ms e = none-not-some e
is-object (arr xs) ms e = none-not-some e
is-object (obj ns) ms e = rw (some_is e)

object-part : (k : Bytes) (ms : Members) (v : Json) (start : ℕ) → lookup k ms ≡ Some v → place_of k ms ≡ Some start
    → (take (length (put v [])) (drop start (put (obj ms) [])) ≡ put v []) × (start + length (put v []) ≤ length (put (obj ms) []))
unfolding place_of
object-part k ms v start e h =
    let w = placed k ms 1 start v (125 ∷ []) e h in
    part_of (put (obj ms) []) (123 ∷ w.before) w.rest (put v []) start
    (put-obj ms [] ∙ ap (λ (t : Bytes). 123 ∷ t) (w.is ∙ ap (λ (t : Bytes). w.before ++ t) (put-split v w.rest)))
    (omega (arith, w.place))

envelope-part : (v : Json) (e : Envelope) → envelope v ≡ Some e → SignedPart (put v []) e
unfolding envelope
envelope-part v e h =
    let es = had _ _ h in
    let ms = had _ _ es.2 in
    let signed = had _ _ ms.2 in
    let any = had _ _ signed.2 in
    let start = had _ _ any.2 in
    let p = object-part (bytes "signed") ms.0 signed.0 start.0 signed.1 start.1 in
    subst (λ (x : Json). SignedPart (put x []) e) (sym (is-object v ms.0 ms.1))
    (subst (λ (x : Envelope). SignedPart (put (obj ms.0) []) x) (some_is start.2) (record { part = p.0; inside = p.1 }))

pub signed_part_lem : (file : Bytes) (e : Envelope) (ks : List Bytes) → read_envelope file ≡ says e ks → SignedPart file e
signed_part_lem file e ks h =
    let w = envelope_of file e ks h in
    rw ((parsed-exactly file w.value).0 w.text).1 (envelope-part w.value e w.form)
