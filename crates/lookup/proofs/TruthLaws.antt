-- true and false at a place of the text.
use mathlib.Core.Path.{◌≡◌, refl, ◌∙◌}
use Rattle.std.specs.declared.option.Option.{Option}
use Rattle.std.specs.declared.option.Option.TheVariants.{None, Some}
use mathlib.Core.Bool.{Bool, true, false, cond}
use Prim.Native.Nat.{ℕ, ◌≤◌, ◌<◌}
use lib.ListN.{length, drop, get_or}
use borrow.Author.Tests.{ne_eqb}
use Rattle.base.specs.Bytes.{Bytes}
use Rattle.base.proofs.PlaceLaws.{at-cons, at-end}
use Rattle.canonical_json.specs.Json.{Json, jnull, jtrue, jfalse, num, str, arr, obj}
use Rattle.canonical_json.specs.Fields.{truth}
use Rattle.lookup.specs.Place.{Stands, Takes}
use Rattle.lookup.specs.Leaves.{truth_in}
use Rattle.lookup.proofs.FirstByte.{begins_with}
use Rattle.lookup.proofs.StandsLaws.{front}

module _ (s : Bytes) (p : ℕ) where
  pub truth-cut : length s ≤ p → None ≡ truth_in (drop p s)
  unfolding truth_in
  truth-cut h = rw (at-end s p h)

  pub truth-true : p < length s → get_or s p 0 ≡ 116 → Some true ≡ truth_in (drop p s)
  unfolding truth_in
  truth-true h e = rw (at-cons s p h, e)

  pub truth-false : p < length s → get_or s p 0 ≡ 102 → Some false ≡ truth_in (drop p s)
  unfolding truth_in
  truth-false h e = rw (at-cons s p h, e)

  pub truth-not : p < length s → (get_or s p 0 ≡ 116 → ⊥) → (get_or s p 0 ≡ 102 → ⊥) → None ≡ truth_in (drop p s)
  unfolding truth_in
  truth-not h e f = rw (at-cons s p h, ne_eqb _ _ e, ne_eqb _ _ f)

-- what the check of `truth_at` may use
pub ruleset truth_rules = (truth-cut, truth-true, truth-false, truth-not)

pub truth_of : (s : Bytes) (p : ℕ) (v : Json) → Stands s p v → truth_in (drop p s) ≡ truth v
unfolding truth_in truth
truth_of s p v h = let b = front s p v h in rw (b.is, b.with 116 refl, b.with 102 refl) (go v)
  where
    go : (v : Json) → cond (begins_with 116 v) (Some true) (cond (begins_with 102 v) (Some false) None) ≡ truth v
    go jnull = refl
    go jtrue = refl
    go jfalse = refl
    go (num true ds) = refl
    go (num false ds) = refl
    go (str b) = refl
    go (arr xs) = refl
    go (obj ms) = refl

pub truth_takes : (s : Bytes) (p : ℕ) (o : Option Bool) → o ≡ truth_in (drop p s) → Takes s p truth o
truth_takes s p o e v h = e ∙ truth_of s p v h
