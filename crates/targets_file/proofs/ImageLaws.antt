-- An image, a list of images that is read in one pass, and the image of a path in it.
use mathlib.Core.Path.{◌≡◌, refl, sym, ap, ◌∙◌}
use mathlib.Core.List.{List, [], ◌∷◌, ◌++◌}
use mathlib.Core.Logic.{◌⊎◌, inl, inr}
use Rattle.std.specs.Option.{option_map}
use Rattle.std.specs.Ordering.{is_lt, is_eq}
use Rattle.std.specs.declared.cmp.Ordering.{Ordering}
use Rattle.std.specs.declared.option.Option.{Option}
use Rattle.std.specs.declared.option.Option.TheVariants.{None, Some}
use Rattle.canonical_json.specs.Options.{bind}
use mathlib.Core.Bool.{Bool, true, false, cond, not, and-false, ◌&&◌}
use Prim.Native.Nat.{ℕ, ◌+◌, ◌≤◌, ◌<◌}
use native.Mathlib.Omega.{arith}
use lib.Dec.{leb}
use lib.ListN.{length, drop}
use borrow.Author.Tests.{le-leb, lt-leb}
use Rattle.base.specs.Bytes.{Bytes, bytes, same, less}
use Rattle.base.proofs.TestLaws.{never}
use Rattle.base.proofs.ByteLaws.{same-sym}
use Rattle.base.proofs.OrderLaws.{less-differs}
use Rattle.canonical_json.specs.Json.{Json, Members, Valid, max_depth}
use Rattle.canonical_json.specs.Read.{raw}
use Rattle.canonical_json.specs.Fields.{members, field, count, keep, number}
use Rattle.lookup.specs.Place.{Stands, Takes}
use Rattle.lookup.specs.Walk.{FirstMember, NextMember}
use Rattle.lookup.specs.Leaves.{order_of}
use Rattle.lookup.specs.declared.Spanned.{Spanned}
use Rattle.lookup.proofs.StringLaws.{order_less, order_same}
use Rattle.lookup.specs.declared.Member.{Member}
use Rattle.lookup.specs.declared.Member.TheVariants as member
use Rattle.rules.specs.Limits.{max_length, max_targets, max_path}
use Rattle.rules.specs.Take.{◌>>=◌, must, name_of, each_named}
use Rattle.rules.specs.Records.{Image}
use Rattle.rules.specs.Forms.{sha256, image, images}
use Rattle.rules.specs.Search.{stopping, after, searched}
use Rattle.rules.specs.Asked.{Found}
use Rattle.rules.proofs.SearchLaws.{early_stop, images-rise}
use Rattle.forms.specs.Each.{each_member}
use Rattle.forms.proofs.EachLaws.{MembersWalk, members-first, members-none, members-over, members-full, members-broken, members-next}
use Rattle.targets_file.specs.View.{description, described, ReadsImage, ReadsNamed, image_as, found_of, listing, listing_in, Sought, view_search, listed, view_listing}
use Rattle.targets_file.specs.Pass.{going, comparing, with_image, seek, OneMore}
use Rattle.targets_file.specs.declared.ImageAt.{ImageAt}
use Rattle.targets_file.specs.declared.Search.{Search}

-- ## An image, step by step

abbrev found : ℕ → Bytes → Found
found n d = record { length = n; digest = d }

abbrev under : Bytes → Found → Image
under t f = record { path = t; length = f.length; digest = f.digest }

module _ (v : Json) where
  pub no-length : None ≡ must (bytes "length") (number 0 max_length) v → None ≡ description v
  unfolding description bind
  no-length e = rw (← e)

  module _ (n : ℕ) (e : Some n ≡ must (bytes "length") (number 0 max_length) v) where
    pub no-digest : None ≡ must (bytes "hashes") sha256 v → None ≡ description v
    unfolding description bind
    no-digest f = rw (← e, ← f)

    pub description-is : (d : Bytes) → Some d ≡ must (bytes "hashes") sha256 v → Some (found n d) ≡ description v
    unfolding description bind
    description-is d f = rw (← e, ← f)

module _ (t : Bytes) (v : Json) where
  pub path-out : (length t < 1) ⊎ (max_path < length t) → None ≡ image t v
  unfolding image name_of keep bind
  path-out (inl h) = rw (lt-leb 1 (length t) h)
  path-out (inr h) = rw (lt-leb (length t) max_path h, and-false)

  -- a name of its form, and what is said under it
  named-image : 1 ≤ length t → length t ≤ max_path → image t v ≡ (description v >>= λ f. Some (under t f))
  unfolding image description name_of keep bind
  named-image lo hi = rw (le-leb 1 (length t) lo, le-leb (length t) max_path hi) (go (must (bytes "length") (number 0 max_length) v) (must (bytes "hashes") sha256 v))
    where
      go : (n : Option ℕ) (d : Option Bytes) → (n >>= λ n. d >>= λ d. Some (under t (found n d))) ≡ ((n >>= λ n. d >>= λ d. Some (found n d)) >>= λ f. Some (under t f))
      go None d = refl
      go (Some n) None = refl
      go (Some n) (Some d) = refl

module _ (s : Bytes) (i p : ℕ) where
  pub reads-named : (r : Option (Spanned ImageAt)) → 1 ≤ length (raw (drop i s)) → length (raw (drop i s)) ≤ max_path → ReadsImage s p r → ReadsNamed s i p r
  unfolding image_as described bind
  reads-named r lo hi w = record {
    reads = record {
      means = λ v h.
          as-named r
          ∙ ap (λ (o : Option Found). o >>= λ f. Some (under (raw (drop i s)) f)) (w.reads.means v h)
          ∙ sym (named-image (raw (drop i s)) v lo hi);
      end = w.reads.end;
    };
    digits = w.digits;
  }
    where
      as-named : (r : Option (Spanned ImageAt)) → option_map (λ (x : Spanned ImageAt). image_as s (raw (drop i s)) x.value) r
          ≡ (option_map (λ (x : Spanned ImageAt). described s x.value) r >>= λ f. Some (under (raw (drop i s)) f))
      as-named None = refl
      as-named (Some x) = refl

  -- no image, where the form is broken
  pub broken-name : Takes s p (image (raw (drop i s))) None → ReadsNamed s i p None
  broken-name t = record { reads = record { means = t; end = tt }; digits = tt }

pub broken-image : (s : Bytes) (p : ℕ) → Takes s p description None → ReadsImage s p None
broken-image s p t = record { reads = record { means = t; end = tt }; digits = tt }

-- ## The search

with-over : (path : Bytes) (r : Sought) (i : Image) → r.over ≡ true → with_image path r i ≡ r
unfolding with_image
with-over path r i o = ap (λ (b : Bool). cond b r (comparing path r i)) o

with-next : (path : Bytes) (r : Sought) (i : Image) → r.over ≡ false → with_image path r i ≡ comparing path r i
unfolding with_image
with-next path r i o = ap (λ (b : Bool). cond b r (comparing path r i)) o

-- past a smaller name it goes on
compare_smaller : (path : Bytes) (n : ℕ) (i : Image) → less i.path path ≡ true → comparing path (going n) i ≡ going (n + 1)
unfolding comparing going keep
compare_smaller path n i e = rw (e, same-sym path i.path, less-differs i.path path e) refl

-- once it is over it stays as it is
seek-over : (path : Bytes) (r : Sought) (is : List Image) → r.over ≡ true → seek path r is ≡ r
unfolding seek
seek-over path r [] o = refl
seek-over path r (i ∷ is) o = ap (λ (x : Sought). seek path x is) (with-over path r i o) ∙ seek-over path r is o

seek-last : (path : Bytes) (r : Sought) (is : List Image) (i : Image) → seek path r (is ++ (i ∷ [])) ≡ with_image path (seek path r is) i
unfolding seek
seek-last path r [] i = refl
seek-last path r (x ∷ is) i = seek-last path (with_image path r x) is i

-- while it is not over, every name was compared
with_all : (path : Bytes) (r : Sought) (i : Image) (n : ℕ) → (r.over ≡ false → r.compared ≡ n)
    → (with_image path r i).over ≡ false → (with_image path r i).compared ≡ n + 1
unfolding comparing
with_all path r i n all h = go r.over refl
  where
    go : (b : Bool) → r.over ≡ b → (with_image path r i).compared ≡ n + 1
    go true o = never (sym o ∙ sym (ap (λ (x : Sought). x.over) (with-over path r i o)) ∙ h)
    go false o = ap (λ (x : Sought). x.compared) (with-next path r i o) ∙ ap (λ (c : ℕ). c + 1) (all o)

-- after n smaller names it finds what the search that stops does, and compared n more
abbrev Stops : Bytes → ℕ → List Image → Type 0
Stops path n is = listed (seek path (going n) is) ≡ record { image = found_of (stopping path is).image; compared = n + (stopping path is).compared }

seek_stops : (path : Bytes) (n : ℕ) (is : List Image) → Stops path n is
unfolding seek going with_image comparing stopping after listed found_of keep bind
seek_stops path n [] = ap (λ (k : ℕ). record { image = None; compared = k }) (omega arith)
seek_stops path n (i ∷ is) = go (less i.path path) refl (seek_stops path (n + 1) is)
  where
    found-is : (b : Bool) → keep b (found i.length i.digest) ≡ found_of (keep b i)
    found-is true = refl
    found-is false = refl

    go : (b : Bool) → less i.path path ≡ b → Stops path (n + 1) is → Stops path n (i ∷ is)
    go true e more =
        let k : n + 1 + (stopping path is).compared ≡ n + (1 + (stopping path is).compared) = omega arith in
        ap (λ (r : Sought). listed (seek path r is)) (compare_smaller path n i e)
        ∙ more ∙ rw e (ap (λ (k : ℕ). record { image = found_of (stopping path is).image; compared = k }) k)
    go false e more =
        ap listed (seek-over path (comparing path (going n) i) is (ap not e))
        ∙ rw e (ap (λ (o : Option Found). record { image = o; compared = n + 1 }) (found-is (same path i.path)))

-- the images of a value that stands in the text: their names rise
module _ (path : Bytes) (v : Json) (valid : Valid v max_depth) (is : List Image) (e : images v ≡ Some is) where
  pub seek-listing : listed (seek path (going 0) is) ≡ listing path is
  unfolding listing searched
  seek-listing =
      let z : 0 + (stopping path is).compared ≡ (stopping path is).compared = omega arith in
      seek_stops path 0 is ∙ rw (z, early_stop path is (images-rise v is (max_depth, valid) e)) refl

-- ## The list

-- what a list of images says of a path, through a member that must be there
pub listing_in-must : (path k : Bytes) (form : Json → Option (List Image)) (v : Json) → must k (listing_in path form) v ≡ listing_in path (must k form) v
unfolding must listing_in bind
listing_in-must path k form v = go (field k v)
  where
    go : (o : Option Json) → (o >>= listing_in path form) ≡ ((o >>= form) >>= λ is. Some (listing path is))
    go None = refl
    go (Some w) = refl

images-by : (v : Json) → images v ≡ each_member 0 max_targets image v
unfolding images each_member bind
images-by v = go (members v)
  where
    go : (o : Option Members) → (o >>= λ ms. keep (leb (count ms) max_targets) ms >>= each_named image) ≡ (o >>= λ ms. keep (leb 0 (count ms) && leb (count ms) max_targets) ms >>= each_named image)
    go None = refl
    go (Some ms) = rw (le-leb 0 (count ms) (omega arith)) refl

-- ## One pass over the images

module _ (s path : Bytes) (search : Search) (n i : ℕ) (x : ImageAt) where
  pub still-over : search.over ≡ true → view_search search ≡ with_image path (view_search search) (image_as s (raw (drop i s)) x)
  unfolding view_search
  still-over o = sym (with-over path (view_search search) (image_as s (raw (drop i s)) x) o)

  -- the n-th name is compared
  pub compared-now : search.over ≡ false → n ≡ search.compared + 1 → (order : Ordering) → order ≡ order_of (raw (drop i s)) path
      → record { over = not (is_lt order); compared = n; image = keep (is_eq order) (described s x) } ≡ with_image path (view_search search) (image_as s (raw (drop i s)) x)
  unfolding view_search comparing image_as described
  compared-now o e order q =
      rw (q, order_less (raw (drop i s)) path, order_same (raw (drop i s)) path ∙ same-sym (raw (drop i s)) path, e)
      (sym (with-next path (view_search search) (image_as s (raw (drop i s)) x) o))

-- n images are read, the search among them says `search`, and the members from m on decide the whole
pub record Pass (s path : Bytes) (at : ℕ) (search : Search) (n : ℕ) (m : Member) : Type 0 where
  pub few : n ≤ max_targets
  pub before : List Image
  pub is : view_search search ≡ seek path (going 0) before
  -- while it is not over, all names were compared
  pub all : search.over ≡ false → search.compared ≡ n
  pub walk : (v : Json) → Stands s at v → MembersWalk image 0 max_targets s m n before (each_member 0 max_targets image v)

-- a walk that has come to no member and to no end
no-object : (m : Member) → ((i j : ℕ) → m ≡ member.At i j → ⊥) → ((e : ℕ) → m ≡ member.End e → ⊥) → m ≡ member.NoObject
no-object member.NoObject a e = refl
no-object (member.End x) a e = absurd (e x refl)
no-object (member.At i j) a e = absurd (a i j refl)

module _ (s path : Bytes) (at : ℕ) (search : Search) where
  pub pass_first : view_search search ≡ going 0 → (m : Member) → FirstMember s at m → Pass s path at search 0 m
  unfolding seek view_search going
  pass_first e m w =
      record { few = omega arith; before = []; is = e; all = λ o. ap (λ (r : Sought). r.compared) e; walk = λ v h. members-first image 0 max_targets s m w v h }

  module _ (n : ℕ) (m : Member) (w : Pass s path at search n m) where
    pub pass_over : (e : ℕ) → m ≡ member.End e → Takes s at (listing_in path images) (Some (view_listing search))
    unfolding listing_in bind view_listing
    pass_over j q v h =
        let e : images v ≡ Some w.before = images-by v ∙ sym (members-over image 0 max_targets s m n w.before _ (w.walk v h) j q (omega arith) w.few) in
        rw e (ap (λ (r : Sought). Some (listed r)) w.is ∙ ap Some (seek-listing path v h.valid w.before e))

    broken : Takes s at (each_member 0 max_targets image) None → Takes s at (listing_in path images) None
    unfolding listing_in bind
    broken t v h = rw (images-by v, ← t v h) refl

    pub pass_none : ((i j : ℕ) → m ≡ member.At i j → ⊥) → ((e : ℕ) → m ≡ member.End e → ⊥) → Takes s at (listing_in path images) None
    pass_none a e = broken (λ v h. members-none image 0 max_targets s m n w.before _ (w.walk v h) (no-object m a e))

    -- the name is read at i, the value stands at j
    module _ (i j : ℕ) (q : m ≡ member.At i j) where
      pub pass_full : max_targets ≤ n → Takes s at (listing_in path images) None
      pass_full l = broken (λ v h. members-full image 0 max_targets s m n w.before _ (w.walk v h) i j q l)

      pub pass_broken : ReadsNamed s i j None → Takes s at (listing_in path images) None
      pass_broken t = broken (λ v h. members-broken image 0 max_targets s m n w.before _ (w.walk v h) i j q t.reads.means)

      pub pass_next : (x : Spanned ImageAt) → ReadsNamed s i j (Some x) → n < max_targets → (r : Search) → OneMore s path search (n + 1) i x.value r
          → (m' : Member) → NextMember s j m' → Pass s path at r (n + 1) m'
      unfolding view_search
      pass_next x t l r e m' y =
          let new = image_as s (raw (drop i s)) x.value in
          let moved = e (λ k. ap (λ (c : ℕ). c + 1) (sym (w.all k))) t.digits in
          record {
            few = omega arith;
            before = w.before ++ (new ∷ []);
            is = moved ∙ ap (λ (x : Sought). with_image path x new) w.is ∙ sym (seek-last path (going 0) w.before new);
            all = λ k. ap (λ (x : Sought). x.compared) moved ∙ with_all path (view_search search) new n w.all (sym (ap (λ (x : Sought). x.over) moved) ∙ k);
            walk = λ v h. members-next image 0 max_targets s m n w.before _ (w.walk v h) i j q new t.reads.means m' y;
          }
