-- The search that stops answers as the whole search on rising names, and the names of a targets file rise; what number find gives.
use mathlib.Core.Path.{◌≡◌, refl, sym, ap, ◌∙◌, subst}
use Rattle.std.specs.declared.option.Option.{Option}
use Rattle.std.specs.declared.option.Option.TheVariants.{None, Some}
use mathlib.Core.Logic.{◌⊎◌, inl, inr}
use mathlib.Core.Bool.{Bool, true, false, cond, ◌&&◌, ◌||◌}
use mathlib.Core.List.{List, [], ◌∷◌}
use Prim.Native.Nat.{ℕ, suc, ◌+◌}
use native.Mathlib.Omega.{arith}
use borrow.Author.Tests.{eqb-true, le-leb, ltb-true, ltb-false, lt-ltb, le-ltb}
use lib.Dec.{leb, ltb, eqb}
use lib.ListN.{length}
use Rattle.base.specs.Bytes.{Bytes, bytes, same, less}
use Rattle.base.proofs.TestLaws.{never}
use Rattle.base.proofs.ByteLaws.{same_true, same-sym}
use Rattle.base.proofs.OrderLaws.{less_trans, less-differs}
use Rattle.canonical_json.specs.Json.{Json, Members, mnil, mcons, Valid, ValidMembers, ValidMore, max_depth}
use Rattle.canonical_json.specs.Fields.{keep, count}
use Rattle.rules.specs.Limits.{max_targets}
use Rattle.rules.specs.Take.{name_of, each_named, must}
use Rattle.rules.specs.Records.{Image, File, Read, refused, says}
use Rattle.rules.specs.Forms.{image, images, targets}
use Rattle.rules.specs.Reading.{no_table, read_targets}
use Rattle.rules.specs.State.{filter, State, targets_in, Query, find}
use Rattle.rules.specs.Table.{first}
use Rattle.rules.specs.Conditions.{image_of}
use Rattle.rules.specs.Search.{paths, smaller, compared, after, stopping, searched, Above, Rising}
use Rattle.rules.specs.Steps.{find_table, fault_number, judged, answer}
use Rattle.rules.specs.Asked.{compared_in, unsearched, compared_by}
use Rattle.rules.proofs.OptionLaws.{some_is, had, kept-is}
use Rattle.rules.proofs.TableLaws.{first-every}
use Rattle.rules.proofs.ReadingLaws.{parsed-exactly, role-file, body_is}
use Rattle.rules.proofs.RootLaws.{ValidSome, members-valid, field-valid, signed-valid}

-- ## Rising names

-- a name above one that is not smaller than the path: it is not smaller either, nor the path itself
module _ (path p n : Bytes) (rises : less p n ≡ true) (beyond : less p path ≡ false) where
  not-smaller : less n path ≡ false
  not-smaller = go (less n path) refl
    where
      go : (b : Bool) → less n path ≡ b → less n path ≡ false
      go true e = never (sym (less_trans p n path rises e) ∙ beyond)
      go false e = e

  not-path : same path n ≡ false
  not-path = go (same path n) refl
    where
      go : (b : Bool) → same path n ≡ b → same path n ≡ false
      go true e = never (sym rises ∙ ap (less p) (sym (same_true path n e)) ∙ beyond)
      go false e = e

-- ## The early stop

-- of names above one that is not smaller than the path none is smaller, and none is the path
none-smaller : (path p : Bytes) (is : List Image) → Above p (paths is) → less p path ≡ false → smaller path (paths is) ≡ 0
unfolding smaller filter Above paths
none-smaller path p [] r b = refl
none-smaller path p (i ∷ is) r b =
    let n = not-smaller path p i.path r.0 b in
    rw n (none-smaller path i.path is r.1 n)

none-listed : (path p : Bytes) (is : List Image) → Above p (paths is) → less p path ≡ false → image_of path is ≡ None
unfolding image_of Above paths
none-listed path p [] r b = refl
none-listed path p (i ∷ is) r b =
    rw (not-path path p i.path r.0 b) (none-listed path i.path is r.1 (not-smaller path p i.path r.0 b))

above-rising : (p : Bytes) (ns : List Bytes) → Above p ns → Rising ns
unfolding Above Rising
above-rising p [] r = tt
above-rising p (n ∷ ns) r = r.1

-- one name more, and one more that is smaller
one_more : (k n : ℕ) → 1 + (k + cond (ltb k n) 1 0) ≡ suc k + cond (ltb (suc k) (suc n)) 1 0
one_more k n = go (ltb k n) refl
  where
    go : (b : Bool) → ltb k n ≡ b → 1 + (k + cond b 1 0) ≡ suc k + cond (ltb (suc k) (suc n)) 1 0
    go true e = let l = ltb-true k n e in rw (lt-ltb (suc k) (suc n) (omega arith)) (omega arith)
    go false e = let l = ltb-false k n e in rw (le-ltb (suc k) (suc n) (omega arith)) (omega arith)

pub early_stop : (path : Bytes) (is : List Image) → Rising (paths is) → stopping path is ≡ searched path is
unfolding stopping searched compared smaller filter image_of paths Rising after keep
early_stop path [] r = refl
early_stop path (i ∷ is) r = go (less i.path path) refl (early_stop path is (above-rising i.path (paths is) r))
  where
    differs : (n : Bytes) → less n path ≡ true → same path n ≡ false
    differs n h = same-sym path n ∙ less-differs n path h

    kept : (b : Bool) → keep b i ≡ cond b (Some i) None
    kept true = refl
    kept false = refl

    go : (b : Bool) → less i.path path ≡ b → stopping path is ≡ searched path is → stopping path (i ∷ is) ≡ searched path (i ∷ is)
    go true e more =
        rw (e, differs i.path e, more)
        (ap (λ (n : ℕ). record { image = image_of path is; compared = n }) (one_more (smaller path (paths is)) (length (paths is))))
    go false e more =
        rw (e, none-smaller path i.path is r e, none-listed path i.path is r e, lt-ltb 0 (suc (length (paths is))) (omega arith))
        (ap (λ (o : Option Image). record { image = o; compared = 1 }) (kept (same path i.path)))

-- ## The names of a targets file

image-path : (n : Bytes) (v : Json) (i : Image) → image n v ≡ Some i → n ≡ i.path
unfolding image name_of
image-path n v i e =
    let name = had _ _ e in
    let long = had _ _ name.2 in
    let digest = had _ _ long.2 in
    (kept-is _ n name.1).1 ∙ ap (λ (x : Image). x.path) (some_is digest.2)

-- the names of members, in the text's order
unfoldable names_of : Members → List Bytes
names_of mnil = []
names_of (mcons n v ms) = n ∷ names_of ms

more_rise : (p : Bytes) (ms : Members) (d : ℕ) → ValidMore p ms d → Above p (names_of ms)
unfolding Valid Above names_of
more_rise p mnil d h = tt
more_rise p (mcons n v ms) d h = (h.0, more_rise n ms d h.3)

members_rise : (ms : Members) (d : ℕ) → ValidMembers ms d → Rising (names_of ms)
unfolding Valid Rising names_of
members_rise mnil d h = tt
members_rise (mcons n v ms) d h = more_rise n ms d h.2

-- an image has its member's name
images-named : (ms : Members) (is : List Image) → each_named image ms ≡ Some is → names_of ms ≡ paths is
unfolding each_named names_of paths
images-named mnil is e = ap paths (some_is e)
images-named (mcons n v ms) is e =
    let i = had _ _ e in
    let more = had _ _ i.2 in
    rw (image-path n v i.0 i.1, images-named ms more.0 more.1) (ap paths (some_is more.2))

pub images-rise : (v : Json) (is : List Image) → ValidSome v → images v ≡ Some is → Rising (paths is)
unfolding images
images-rise v is h e =
    let ms = had _ _ e in
    let limited = had _ _ ms.2 in
    let m = members-valid v ms.0 h ms.1 in
    let same-members = (kept-is (leb (count ms.0) max_targets) ms.0 limited.1).1 in
    let valid = subst (λ (x : Members). ValidMembers x m.0) same-members m.1 in
    subst Rising (images-named limited.0 is limited.2) (members_rise limited.0 m.0 valid)

pub targets-rise : (file : Bytes) (g : File (List Image)) (es : List Bytes) → targets_in file ≡ says g es → Rising (paths g.body)
unfolding targets_in read_targets targets must
targets-rise file g es h =
    let w = role-file (bytes "targets") targets no_table file g es h in
    let body = had _ _ (body_is (bytes "targets") targets w.envelope-is.signed g w.role) in
    let valid = signed-valid w.value w.envelope-is (max_depth, ((parsed-exactly file w.value).0 w.text).0) w.form in
    images-rise body.0 g.body (field-valid (bytes "targets") w.envelope-is.signed body.0 valid body.1) body.2

-- ## The number that find gives

-- a refusal of find is one of 1 to 8, or 15
refusal_of : (n : ℕ) → leb n 8 || eqb n 15 ≡ true → ¬ (n ≡ 0) → ¬ (n ≡ 15) → unsearched n ≡ true
unfolding unsearched
refusal_of n u z f = go (leb n 8) refl u
  where
    go : (b : Bool) → leb n 8 ≡ b → b || eqb n 15 ≡ true → leb 1 n && leb n 8 ≡ true
    go true e u = rw (le-leb 1 n (omega arith), e) refl
    go false e u = absurd (f (eqb-true n 15 u))

module _ (s : State) (q : Query) where
  pub not-searched : ¬ (answer s (find q) ≡ 0) → ¬ (answer s (find q) ≡ 15) → compared_by s q ≡ 0
  unfolding compared_by compared_in answer judged find_table
  not-searched = go (targets_in q.file)
    where
      unread : (b : Bool) → ◌≡◌ {A = ℕ} (cond b 0 0) 0
      unread true = refl
      unread false = refl

      go : (rd : Read (File (List Image))) → ¬ (judged rd (find_table s q) ≡ 0) → ¬ (judged rd (find_table s q) ≡ 15)
          → cond (unsearched (judged rd (find_table s q))) 0 (compared_in q.path rd) ≡ 0
      go (refused x) z f = unread (unsearched (fault_number x))
      go (says g es) z f = rw (refusal_of (first (find_table s q g es)) (first-every (λ n. leb n 8 || eqb n 15) (find_table s q g es) refl refl) z f) refl

  pub was_searched : (g : File (List Image)) (es : List Bytes) → targets_in q.file ≡ says g es → (answer s (find q) ≡ 0) ⊎ (answer s (find q) ≡ 15)
      → compared_by s q ≡ compared q.path (paths g.body)
  unfolding compared_by compared_in unsearched
  was_searched g es e (inl n) = rw (n, e) refl
  was_searched g es e (inr n) = rw (n, e) refl

-- the search that stops, of any targets file
pub find-stops : (file path : Bytes) (g : File (List Image)) (es : List Bytes) → targets_in file ≡ says g es → stopping path g.body ≡ searched path g.body
find-stops file path g es e = early_stop path g.body (targets-rise file g es e)
