-- The reader accepts the canonical texts and no others, and no text has two values.
use mathlib.Core.Path.{◌≡◌, sym, ap, ◌∙◌}
use mathlib.Core.List.{[]}
use mathlib.Core.Bool.{true, false}
use mathlib.Core.Logic.{◌↔◌}
use Prim.Native.Nat.{ℕ, ◌+◌}
use native.Mathlib.Omega.{arith}
use lib.ListN.{length, drop}
use lib.Dec.{eqb}
use lib.Seq.{drop-length}
use borrow.Author.Tests.{eqb-true, eq-eqb}
use Rattle.base.specs.Bytes.{Bytes}
use Rattle.base.proofs.TestLaws.{never}
use Rattle.canonical_json.specs.Json.{Json, put, Valid, Canonical}
use Rattle.canonical_json.specs.Read.{got, end_of, read}
use Rattle.std.specs.declared.option.Option.TheVariants.{None, Some}
use Rattle.canonical_json.proofs.Rest.{located, read_fits}
use Rattle.canonical_json.proofs.Says.{says_of}
use Rattle.canonical_json.proofs.Sound.{read_sound, Wrote}
use Rattle.canonical_json.proofs.Complete.{complete}
use Rattle.canonical_json.proofs.Deeper.{deeper-by}

-- soundness: a text that is read to its end is canonical
pub to_canonical : (d : ℕ) (s : Bytes) → end_of (length s) (read d s) ≡ Some (length s) → Canonical d s
to_canonical d s e =
    let l = located s 0 (length s) (read_fits d (drop 0 s)) e in
    let w : Wrote d s l.value (drop (length s) s) = says_of (rw l.is at (read_sound d s)) in
    (l.value, w.1, w.0 ∙ ap (λ (r : Bytes). put l.value r) (drop-length s))

-- completeness: a canonical text is read to its end
pub of_canonical : (d : ℕ) (s : Bytes) → Canonical d s → end_of (length s) (read d s) ≡ Some (length s)
of_canonical d s c =
    let k : read d s ≡ got c.0 [] = ap (λ (t : Bytes). read d t) c.2 ∙ complete c.0 d [] c.1 tt in
    rw k (ap Some (omega arith))

-- two values with one text are equal, to whatever depths they are valid
pub unique : (v w : Json) (d e : ℕ) → Valid v d → Valid w e → put v [] ≡ put w [] → v ≡ w
unique v w d e g h q =
    let c : d + e ≡ e + d = omega arith in
    let a : read (d + e) (put v []) ≡ got v [] = complete v (d + e) [] (deeper-by v d e g) tt in
    let b : read (e + d) (put w []) ≡ got w [] = complete w (e + d) [] (deeper-by w e d h) tt in
    cc

-- ## The two answers of `is_canonical`

pub verdict-no : (d : ℕ) (s : Bytes) → end_of (length s) (read d s) ≡ None → (false ≡ true) ↔ Canonical d s
verdict-no d s e = (λ z. never (sym z), λ c. let h = of_canonical d s c in cc)

pub verdict-end : (d : ℕ) (s : Bytes) (e : ℕ) → end_of (length s) (read d s) ≡ Some e → (eqb e (length s) ≡ true) ↔ Canonical d s
verdict-end d s e h = (
  λ z. to_canonical d s (h ∙ ap Some (eqb-true e (length s) z)),
  λ c. let k = of_canonical d s c in let j : e ≡ length s = cc in eq-eqb e (length s) j,
)

-- what the check of `is_canonical` may use
pub ruleset verdict_rules = (verdict-no, verdict-end)
