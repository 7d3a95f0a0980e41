-- The search for members, one or several in one walk.
use mathlib.Core.Path.{◌≡◌, refl, sym}
use Rattle.std.specs.declared.option.Option.{Option}
use Rattle.std.specs.declared.option.Option.TheVariants.{None, Some}
use Rattle.canonical_json.specs.Options.{bind}
use mathlib.Core.Bool.{Bool, true, false}
use Prim.Native.Nat.{ℕ, ◌+◌}
use lib.ListN.{drop}
use Rattle.base.specs.Bytes.{Bytes, same}
use Rattle.canonical_json.specs.Json.{Json}
use Rattle.canonical_json.specs.Read.{raw}
use Rattle.canonical_json.specs.Fields.{members, field, place_from}
use Rattle.lookup.specs.Place.{Stands, PlaceOf, FindsMember, note}
use Rattle.lookup.specs.Walk.{FirstMember, NextMember}
use Rattle.lookup.specs.declared.Member.{Member}
use Rattle.lookup.specs.declared.Member.TheVariants.{End, At}
use Rattle.lookup.proofs.LookupLaws.{Sought, sought_first, sought_end, sought_here, sought_next}
use Rattle.lookup.proofs.PlacedLaws.{Placed, placed_first, placed_end, placed-here, placed-next}

-- ## One name of several

module _ (b : Bool) (x : ℕ) (f : Option ℕ) where
  pub note-here : f ≡ None → true ≡ b → Some x ≡ note b x f
  unfolding note
  note-here q e = rw (q, ← e) refl

  pub note-other : f ≡ None → false ≡ b → None ≡ note b x f
  unfolding note
  note-other q e = rw (q, ← e) refl

  pub note-before : (y : ℕ) → f ≡ Some y → Some y ≡ note b x f
  unfolding note
  note-before y q = rw q refl

-- what the check of `noted` may use
pub ruleset note_rules = (note-here, note-other, note-before)

-- f was found of the name k, or the members left at m decide
abbrev pub Noted : Bytes → Bytes → Member → Option ℕ → Option Json → Option ℕ → Type 0
Noted s k m None o q = Sought s k m o × Placed s k m q
Noted s k m (Some x) o q = PlaceOf s (Some x) o × (Some x ≡ q)

abbrev pub Seeks : Bytes → ℕ → Bytes → Member → Option ℕ → Type 0
Seeks s p k m f = (v : Json) → Stands s p v → Noted s k m f (field k v) (bind (members v) (place_from (p + 1) k))

module _ (s : Bytes) (p : ℕ) (k : Bytes) (m : Member) where
  pub seeks_first : FirstMember s p m → Seeks s p k m None
  seeks_first w v h = (sought_first s k w v h, placed_first s k p m w v h)

  pub seeks_here : Seeks s p k m None → (i j : ℕ) → m ≡ At i j → true ≡ same (raw (drop i s)) k → FindsMember s p k (Some j)
  seeks_here w i j q e = record { means = λ v h. sought_here s k m _ (w v h).0 i j q e; place = λ v h. placed-here s k m _ (w v h).1 i j q e }

  module _ (f : Option ℕ) (w : Seeks s p k m f) where
    -- what was found when the walk is over
    finds : ((o : Option Json) → Sought s k m o → o ≡ None) → ((q : Option ℕ) → Placed s k m q → None ≡ q) → (f : Option ℕ) → Seeks s p k m f → FindsMember s p k f
    finds a b None w = record { means = λ v h. a _ (w v h).0; place = λ v h. b _ (w v h).1 }
    finds a b (Some x) w = record { means = λ v h. (w v h).0; place = λ v h. (w v h).1 }

    pub seeks_end : (e : ℕ) → m ≡ End e → FindsMember s p k f
    seeks_end e q = finds (λ o t. sought_end s k m o t e q) (λ o t. placed_end s k m o t e q) f w

    pub seeks_next : (i j : ℕ) → m ≡ At i j → (x : Member) → NextMember s j x → (r : Option ℕ) → r ≡ note (same (raw (drop i s)) k) j f → Seeks s p k x r
    unfolding note
    seeks_next i j q x n r e = rw e (go f w (same (raw (drop i s)) k) refl)
      where
        go : (f : Option ℕ) → Seeks s p k m f → (b : Bool) → same (raw (drop i s)) k ≡ b → Seeks s p k x (note b j f)
        go None w true t = λ v h. (sought_here s k m _ (w v h).0 i j q (sym t), placed-here s k m _ (w v h).1 i j q (sym t))
        go None w false t = λ v h. (sought_next s k m _ (w v h).0 i j q (sym t) n, placed-next s k m _ (w v h).1 i j q (sym t) x n)
        go (Some y) w b t = w
