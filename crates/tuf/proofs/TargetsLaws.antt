-- A targets file that was read: the file that it is, by what was looked at in it.
use mathlib.Core.Path.{◌≡◌, refl, sym, ap, ◌∙◌}
use mathlib.Core.Logic.{◌⊎◌, inl, inr, ⊎_elim}
use Rattle.std.specs.declared.option.Option.{Option}
use Rattle.std.specs.declared.option.Option.TheVariants.{None, Some}
use Rattle.canonical_json.specs.Options.{bind}
use mathlib.Core.List.{List}
use mathlib.Core.Bool.{false, not}
use Prim.Native.Nat.{ℕ}
use native.Mathlib.Omega.{arith}
use lib.IntN.{ℤ}
use lib.ListN.{length}
use lib.Seq.{take_all}
use borrow.Author.Tests.{ne_eqb}
use Rattle.base.specs.Bytes.{Bytes}
use Rattle.base.proofs.TestLaws.{never}
use Rattle.base.proofs.WindowLaws.{window-part}
use Rattle.sha256.specs.Message.{digest_of}
use Rattle.sha256.proofs.DigestLaws.{digest-length}
use Rattle.rules.specs.Limits.{digest_size}
use Rattle.rules.specs.Records.{Image, File, Read, refused, says}
use Rattle.rules.specs.State as rules
use Rattle.rules.specs.State.{keep_targets, kept, targets_in, Query, find}
use Rattle.rules.specs.Table.{Refusal, first, absent}
use Rattle.rules.specs.Conditions.{image_of}
use Rattle.rules.specs.Search.{paths, compared}
use Rattle.rules.specs.Steps.{find_table, fault_number, judged, answer, refuses, with_targets, a_targets, trusting}
use Rattle.rules.specs.Asked.{Found, the_image, in_targets, found, compared_by}
use Rattle.rules.proofs.OptionLaws.{none-not-some, some_is}
use Rattle.rules.proofs.ReadingLaws.{kept-says}
use Rattle.rules.proofs.TableLaws.{fault-other, fault-refuses, judged-is, no_line}
use Rattle.rules.proofs.SearchLaws.{not-searched, was_searched}
use Rattle.std.specs.declared.result.Result.TheVariants.{Ok, Err}
use Rattle.std.specs.Option.{option_map, is_some, IsSome}
use Rattle.answers.specs.Number.{number_of, refusal_number}
use Rattle.answers.specs.declared.Refusal as answers
use Rattle.records.specs.View.{view_id, view_entries}
use Rattle.judge.specs.Offer.{Dated, Queried, Lists}
use Rattle.envelope.specs.Open.{view_fault, view_read}
use Rattle.envelope.specs.declared.Fault.{Fault}
use Rattle.envelope.specs.declared.Signed.{Signed}
use Rattle.envelope.proofs.ReadLaws.{read-says, read-refused}
use Rattle.targets_file.specs.View.{Listing, found_of, listing, view_found, view_search, view_listing, listed, Seen, seen, view_seen}
use Rattle.targets_file.specs.declared.FoundImage.{FoundImage}
use Rattle.targets_file.specs.declared.TargetsSeen.{TargetsSeen}
use Rattle.targets_file.specs.declared.Search.{Search}
use Rattle.tuf.specs.View.{view, view_image}
use Rattle.tuf.specs.Promises.{FindsImage, NoImage}
use Rattle.tuf.specs.declared.State.{State}
use Rattle.tuf.specs.declared.Image as tuf

-- the file that was read
pub record FileRead (path file : Bytes) (t : Signed TargetsSeen) : Type 0 where
  pub targets : File (List Image)
  pub said : targets_in file ≡ says targets (view_entries t.entries)
  pub dated : Dated targets t.signed.version t.signed.expires.seconds
  pub listing-is : listing path targets.body ≡ listed (view_search t.signed.search)

module _ (path file : Bytes) where
  module _ (f : Fault) (w : view_read view_seen (Err f) ≡ kept (seen path) (targets_in file)) where
    pub targets-unread : (table : File (List Image) → List Bytes → List Refusal) → judged (targets_in file) table ≡ fault_number (view_fault f)
    unfolding kept judged
    targets-unread table = go (targets_in file) (read-refused view_seen _ f w)
      where
        go : (rd : Read (File (List Image))) → kept (seen path) rd ≡ refused (view_fault f) → judged rd table ≡ fault_number (view_fault f)
        go (refused g) p = let e : g ≡ view_fault f = cc in ap fault_number e
        go (says g es) p = never cc

  pub targets-read : (t : Signed TargetsSeen) → view_read view_seen (Ok t) ≡ kept (seen path) (targets_in file) → FileRead path file t
  unfolding view_seen view_listing seen
  targets-read t w =
      let d = kept-says (seen path) (targets_in file) _ _ (read-says view_seen _ t w) in
      record {
        targets = d.0;
        said = d.1;
        dated = record { version-is = ap (λ (x : Seen). x.version) d.2; expires-is = ap (λ (x : Seen). x.expires) d.2 };
        listing-is = ap (λ (x : Seen). x.listing) d.2;
      }

-- ## What is kept of the file

-- a digest, as it is kept
pub digest-kept : (file bytes : Bytes) → bytes ≡ digest_of file → view_id (record { bytes = bytes }) ≡ digest_of file
unfolding view_id
digest-kept file bytes e =
    let l : length bytes ≡ digest_size = ap length e ∙ digest-length file in
    window-part bytes 0 digest_size (omega arith) ∙ take_all digest_size bytes (omega arith) ∙ e

pub targets-after : (s : rules.State) (file : Bytes) (g : File (List Image)) (version : ℕ) (expires : ℤ) (bytes : Bytes)
    → Dated g version expires → bytes ≡ digest_of file
    → with_targets s (record { version = version; expires = expires; digest = view_id (record { bytes = bytes }) }) ≡ trusting s (a_targets (keep_targets file g))
unfolding trusting keep_targets
targets-after s file g version expires bytes d e = rw (d.version-is, d.expires-is, digest-kept file bytes e) refl

-- ## Find

-- what the search found, and the images that it went over
module _ (path : Bytes) (is : List Image) (search : Search) (e : listing path is ≡ listed (view_search search)) where
  image-read : found_of (image_of path is) ≡ option_map view_found search.found
  unfolding listing view_listing listed view_search
  image-read = ap (λ (x : Listing). x.image) e

  pub compared_is : search.compared ≡ compared path (paths is)
  unfolding listing view_listing listed view_search
  compared_is = sym (ap (λ (x : Listing). x.compared) e)

  pub image-listed : is_some search.found ≡ not (absent (image_of path is))
  unfolding found_of bind
  image-listed = go (image_of path is) search.found image-read
    where
      go : (o : Option Image) (f : Option FoundImage) → found_of o ≡ option_map view_found f → is_some f ≡ not (absent o)
      go None None e = refl
      go None (Some x) e = none-not-some e
      go (Some i) None e = none-not-some (sym e)
      go (Some i) (Some x) e = refl

  pub image-is : (r : Found) → option_map view_found search.found ≡ Some r → r ≡ the_image (image_of path is)
  unfolding found_of bind the_image
  image-is r q = go (image_of path is) (image-read ∙ q)
    where
      go : (o : Option Image) → found_of o ≡ Some r → r ≡ the_image o
      go None e = none-not-some e
      go (Some i) e = sym (some_is e)

module _ (self : State) (q : Query) where
  -- a refusal that answers n
  find_none : (r : tuf.Image) (n k : ℕ) → answer (view self) (find q) ≡ n → ¬ (n ≡ 0) → NoImage n k r → k ≡ compared_by (view self) q
      → FindsImage self q (number_of r.answer) (view_image r) r.compared
  unfolding found refuses
  find_none r n k e x w c =
      record {
        answered = w.answer ∙ sym e;
        gives = w.zeros ∙ rw (e, ne_eqb n 0 x) refl;
        counts = w.counts ∙ c;
      }

  pub find-refused : (r : tuf.Image) (n : ℕ) → answer (view self) (find q) ≡ n → ¬ (n ≡ 0) → ¬ (n ≡ 15) → NoImage n 0 r
      → FindsImage self q (number_of r.answer) (view_image r) r.compared
  find-refused r n e x y w =
      find_none r n 0 e x w
      (sym (not-searched (view self) q (λ (z : answer (view self) (find q) ≡ 0). x (sym e ∙ z)) (λ (z : answer (view self) (find q) ≡ 15). y (sym e ∙ z))))

  -- a file that was not read
  pub find-unread : (f : Fault) → view_read view_seen (Err f) ≡ kept (seen q.path) (targets_in q.file) → (e : answers.Refusal) → refusal_number e ≡ fault_number (view_fault f)
      → (r : tuf.Image) → NoImage (refusal_number e) 0 r → FindsImage self q (number_of r.answer) (view_image r) r.compared
  unfolding answer
  find-unread f w e x r z =
      let a = targets-unread q.path q.file f w (find_table (view self) q) ∙ sym x in
      find-refused r (refusal_number e) a (λ y. fault-refuses (view_fault f) (sym x ∙ y)) (λ y. fault-other 15 (omega arith) (omega arith) (view_fault f) (sym x ∙ y)) z

-- a find of a file that was read and judged n
pub record FindJudged (self : State) (q : Query) (t : Signed TargetsSeen) (n : ℕ) : Type 0 where
  pub read_as : FileRead q.path q.file t
  pub judged_as : first (find_table (view self) q read_as.targets (view_entries t.entries)) ≡ n

-- what judging promises of it
pub find-judged : (self : State) (q : Query) (t : Signed TargetsSeen) → FileRead q.path q.file t → (digest : Bytes) → digest ≡ digest_of q.file → (n : ℕ)
    → ((p : Query) → Queried p digest q.path → (g : File (List Image)) → Lists g p.path (is_some t.signed.search.found) → (es : List Bytes)
    → n ≡ first (find_table (view self) p g es))
    → FindJudged self q t n
find-judged self q t f digest e n judge =
    record {
      read_as = f;
      judged_as =
          sym (judge q (record { digest-is = sym e; path-is = refl }) f.targets
          (record { listed-is = image-listed q.path f.targets.body t.signed.search f.listing-is }) (view_entries t.entries));
    }

module _ (self : State) (q : Query) (t : Signed TargetsSeen) (n : ℕ) (j : FindJudged self q t n) where
  abbrev search : Search
  search = t.signed.search

  abbrev images : List Image
  images = j.read_as.targets.body

  answers-n : answer (view self) (find q) ≡ n
  unfolding answer
  answers-n = judged-is (find_table (view self) q) j.read_as.said ∙ j.judged_as

  counts_all : (n ≡ 0) ⊎ (n ≡ 15) → search.compared ≡ compared_by (view self) q
  counts_all h =
      compared_is q.path images search j.read_as.listing-is
      ∙ sym (was_searched (view self) q j.read_as.targets _ j.read_as.said (⊎_elim (λ (k : n ≡ 0). inl (answers-n ∙ k)) (λ (k : n ≡ 15). inr (answers-n ∙ k)) h))

  pub find_unlisted : n ≡ 15 → (r : tuf.Image) → NoImage n search.compared r → FindsImage self q (number_of r.answer) (view_image r) r.compared
  find_unlisted h r w = find_none self q r n search.compared answers-n (λ (k : n ≡ 0). omega arith) w (counts_all (inr h))

  pub find-other : ¬ (n ≡ 0) → ¬ (n ≡ 15) → (r : tuf.Image) → NoImage n 0 r → FindsImage self q (number_of r.answer) (view_image r) r.compared
  find-other x y r w = find-refused self q r n answers-n x y w

  -- the image is there, which is what 15 would have said
  pub find-there : n ≡ 0 → IsSome search.found
  unfolding find_table
  find-there h =
      let there : absent (image_of q.path images) ≡ false = no_line (find_table (view self) q j.read_as.targets (view_entries t.entries)) refl (j.judged_as ∙ h) 15 2 in
      image-listed q.path images search j.read_as.listing-is ∙ ap not there

  pub find-found : n ≡ 0 → (f : FoundImage) → search.found ≡ Some f → {m : ℕ} → m ≡ 0
      → FindsImage self q m (record { length = f.length; digest = view_id f.digest }) search.compared
  unfolding found refuses in_targets view_found
  find-found h f e a =
      record {
        answered = a ∙ sym (answers-n ∙ h);
        gives = image-is q.path images search j.read_as.listing-is _ (ap (option_map view_found) e) ∙ rw (answers-n ∙ h, j.read_as.said) refl;
        counts = counts_all (inl h);
      }
