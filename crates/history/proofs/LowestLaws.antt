-- "The lowest number whose condition holds, of those the call uses; 0 if none": each table's numbers do not fall, and are above reading's 1
-- to 4; reading's 16 is tried between 3 and 4.
use mathlib.Core.Path.{◌≡◌, refl}
use mathlib.Core.Logic.{◌↔◌}
use mathlib.Core.Bool.{Bool, true, false, cond}
use mathlib.Core.List.{List, [], ◌∷◌, Memᴰ}
use Prim.Native.Nat.{ℕ, ◌≤◌}
use native.Mathlib.Omega.{arith}
use native.Mathlib.Nat.{le_trans}
use lib.Dec.{leb}
use lib.ListN.{length}
use borrow.Author.Tests.{leb-true, le-leb}
use Rattle.base.specs.Bytes.{Bytes, bytes}
use Rattle.base.proofs.TestLaws.{never, both}
use Rattle.rules.specs.Limits.{max_file}
use Rattle.rules.specs.Records as records
use Rattle.rules.specs.Records.{File, other_keyid, other_spec, Read, refused, says}
use Rattle.rules.specs.Forms.{known_spec, root, root_keyids}
use Rattle.rules.specs.Reading.{judged_text, read_with, keyids_of, known, spoken, in_envelope, read_as, read_root}
use Rattle.rules.specs.State.{keep_root, kept, root_in, timestamp_in, snapshot_in, targets_in}
use Rattle.rules.specs.Table.{Refusal, ◌when◌, first}
use Rattle.rules.specs.Steps.{install_table, cycle_table, root_table, timestamp_table, snapshot_table, targets_table, find_table, key_table, judged, install_answer, answer}
use Rattle.rules.specs.Asked.{image_table, image_answer}
use Rattle.rules.specs.Lowest.{LowestOf, none_holds, holds, Judgement, unread, judges, OtherKeyid, Lowest}
use Rattle.rules.proofs.ReadingLaws.{Formed, Outcome, unformed, formed, outcome}
use Rattle.rules.proofs.TableLaws.{rising, fault-numbers}

-- no line has a number below m
none_below : (n : ℕ) (b : Bool) (m : ℕ) (rows : List Refusal) → rising m rows ≡ true → Memᴰ (n when b) rows → m ≤ n
none_below n b m rows t (Memᴰ.head {x = k when c} {xs = rest} e) =
    let k-is : n ≡ k = cc in
    omega (arith, leb-true m k (both (leb m k) (rising k rest) t).0)
none_below n b m rows t (Memᴰ.tail {x = k when c} {xs = rest} i) =
    let w = both (leb m k) (rising k rest) t in
    le_trans (leb-true m k w.0) (none_below n b k rest w.1 i)

-- a line that does not hold changes nothing
passed_over : {k n : ℕ} {rest : List Refusal} → LowestOf rest n → LowestOf (k when false ∷ rest) n
passed_over {k} {rest} l = go l
  where
    later : (m : ℕ) → Memᴰ (m when true) (k when false ∷ rest) → Memᴰ (m when true) rest
    later m (Memᴰ.head e) = never (cc)
    later m (Memᴰ.tail i) = i

    go : {n : ℕ} → LowestOf rest n → LowestOf (k when false ∷ rest) n
    go (none_holds f) = none_holds (λ m i. f m (later m i))
    go (holds i f) = holds (Memᴰ.tail i) (λ m j. f m (later m j))

pub lowest : (m : ℕ) (rows : List Refusal) → rising m rows ≡ true → LowestOf rows (first rows)
unfolding first
lowest m [] t = none_holds (λ n i. elim i [ ])
lowest m (k when true ∷ rest) t = holds (Memᴰ.head refl) least
  where
    least : (n : ℕ) → Memᴰ (n when true) (k when true ∷ rest) → k ≤ n
    least n (Memᴰ.head e) = let k-is : n ≡ k = cc in omega arith
    least n (Memᴰ.tail i) = none_below n true k rest (both (leb m k) (rising k rest) t).1 i
lowest m (k when false ∷ rest) t = passed_over (lowest k rest (both (leb m k) (rising k rest) t).1)

judgement : {A : Type 0} (rd : Read A) (table : A → List Bytes → List Refusal) → ((a : A) (es : List Bytes) → rising 5 (table a es) ≡ true)
    → Judgement rd table (judged rd table)
unfolding judged
judgement (refused f) table t = unread refl (fault-numbers f).1
judgement (says a es) table t = judges refl (λ n b i. none_below n b 5 (table a es) (t a es) i) (lowest 5 (table a es) (t a es))

-- ## 16

sixteen : (file : Bytes) → (root_in file ≡ refused other_keyid) ↔ OtherKeyid file
unfolding root_in read_root read_as read_with judged_text in_envelope spoken known kept
sixteen file = (λ h. go (outcome (bytes "root") root root_keyids file) h, back)
  where
    knows : (w : Formed (bytes "root") root file) (own : Bool) → root_keyids w.envelope-is.signed ≡ own → (b : Bool)
        → kept keep_root (cond own (cond b (says w.contents (keyids_of w.envelope-is.entries)) (refused other_spec)) (refused other_keyid))
        ≡ refused other_keyid
        → OtherKeyid file
    knows w true o true h = never (cc)
    knows w true o false h = never (cc)
    knows w false o b h =
        record {
          value = w.value;
          envelope-is = w.envelope-is;
          says = w.contents;
          fits = w.fits;
          text = w.text;
          opens = w.form;
          form = w.role;
          broken = o;
        }

    go : {rd : Read (File records.Root)} → Outcome (bytes "root") root root_keyids file rd → kept keep_root rd ≡ refused other_keyid → OtherKeyid file
    go (unformed n) h = absurd (n (cc))
    go (formed w) h = knows w (root_keyids w.envelope-is.signed) refl (known_spec w.contents.spec_version) h

    back : OtherKeyid file → root_in file ≡ refused other_keyid
    back w = rw (le-leb (length file) max_file w.fits, w.text, w.opens, w.form, w.broken)

-- ## Every call that refuses

pub lowest_of_each : Lowest
unfolding install_table cycle_table root_table timestamp_table snapshot_table targets_table find_table key_table image_table install_answer answer image_answer
lowest_of_each =
    record {
      sixteen = sixteen;
      of_install = λ o. judgement (root_in o.file) (install_table o) (λ r es. refl);
      of_cycle = λ s t. lowest 17 (cycle_table s t) refl;
      of_root = λ s o. judgement (root_in o.file) (root_table s o) (λ r es. refl);
      of_timestamp = λ s o. judgement (timestamp_in o.file) (timestamp_table s o) (λ t es. refl);
      of_snapshot = λ s o. judgement (snapshot_in o.file) (snapshot_table s o) (λ n es. refl);
      of_targets = λ s o. judgement (targets_in o.file) (targets_table s o) (λ g es. refl);
      of_find = λ s q. judgement (targets_in q.file) (find_table s q) (λ g es. refl);
      of_key = λ s k. lowest 6 (key_table s k) refl;
      of_image = λ listed fetched. lowest 5 (image_table listed fetched) refl;
    }
