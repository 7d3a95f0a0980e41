-- Fixed bytes at a place of the text.
use mathlib.Core.Path.{◌≡◌, refl, sym, ◌∙◌}
use mathlib.Core.List.{◌++◌}
use mathlib.Core.Bool.{Bool, true, false}
use Prim.Native.Nat.{ℕ, ◌≤◌, ◌+◌, ◌-◌}
use lib.ListN.{length, take, drop}
use lib.Dec.{eqb}
use lib.Seq.{drop-drop}
use Rattle.std.specs.List.{starts_with}
use Rattle.std.proofs.lemmas.Bool.Decides.{Decides-eqb}
use Rattle.std.proofs.lemmas.List.{take_rest}
use Rattle.std.proofs.lemmas.Slice.Eq.{starts_is}
use Rattle.base.specs.Bytes.{Bytes}
use Rattle.base.proofs.TestLaws.{never}
use Rattle.canonical_json.specs.Read.{Got, bad, got, end_of, word}
use Rattle.std.specs.declared.option.Option.TheVariants.{None, Some}
use Rattle.canonical_json.proofs.Place.{ends_at}
use Rattle.canonical_json.proofs.NumberLaws.{word_sound, word-complete}
use Rattle.canonical_json.proofs.Says.{Says, says-got}

module _ (r : Bool) (s w : Bytes) (i : ℕ) (is : r ≡ starts_with eqb (take (length s - i) (drop i s)) w) where
  laws : (r ≡ true → drop i s ≡ w ++ drop (length w) (drop i s)) × ((rest : Bytes) → drop i s ≡ w ++ rest → r ≡ true)
  laws = starts_is Decides-eqb (drop i s) w r (rw take_rest at is)

  pub stands : r ≡ true → i + length w ≤ length s → end_of (length s) (word w (drop i s)) ≡ Some (i + length w)
  stands e h = rw (laws.0 e, word-complete, drop-drop) (ends_at s (i + length w) (tt {0}) h)

  pub differs : r ≡ false → end_of (length s) (word w (drop i s)) ≡ None
  differs e = go (word w (drop i s)) (word_sound w (drop i s))
    where
      go : (g : Got (Unit {0})) → Says (λ (x : Unit {0}) (q : Bytes). drop i s ≡ w ++ q) g → end_of (length s) g ≡ None
      go bad q = refl
      go (got a q) (says-got p) = never (sym (laws.1 q p) ∙ e)
