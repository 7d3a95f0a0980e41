-- Versions (A7): which are read, exactly; and that a file which was read holds no others, as its own or in what it lists.
use mathlib.Core.Path.{◌≡◌, ap, ◌∙◌, subst}
use mathlib.Core.Logic.{◌↔◌}
use Rattle.std.specs.declared.option.Option.{Option}
use Rattle.std.specs.declared.option.Option.TheVariants.{Some}
use Rattle.canonical_json.specs.Options.{bind}
use mathlib.Core.Bool.{Bool, ◌&&◌}
use mathlib.Core.List.Memᴰ
use mathlib.Core.List.{List, [], ◌∷◌}
use Prim.Native.Nat.{ℕ}
use lib.Dec.{leb}
use lib.ListN.{length}
use Rattle.base.specs.Bytes.{Bytes, bytes}
use Rattle.canonical_json.specs.Json.{Json, Members, mnil, mcons}
use Rattle.canonical_json.specs.Fields.{field, natural}
use Rattle.rules.specs.Limits.{max_version, max_name}
use Rattle.rules.specs.Take.{must, sole, each_named, name_of}
use Rattle.rules.specs.Records.{Listed, Named, Image, File, says}
use Rattle.rules.specs.Forms.{version, file_of, listed, named, names, root, timestamp, snapshot, targets, root_keyids}
use Rattle.rules.specs.Reading.{no_table, read_as, read_root, read_timestamp, read_snapshot, read_targets}
use Rattle.rules.specs.State.{Root, Timestamp, Snapshot, keep_root, keep_timestamp, keep_snapshot, keep_targets, root_in, timestamp_in, snapshot_in, targets_in}
use Rattle.rules.specs.Steps.{a_root, a_timestamp, a_snapshot, a_targets}
use Rattle.rules.specs.Words.{IsVersion, AllVersions}
use Rattle.rules.specs.History.{listed_versions, versions_of}
use Rattle.rules.proofs.OptionLaws.{some_is, had, kept-is, number-exactly}
use Rattle.rules.proofs.ReadingLaws.{role-file, body_is, kept-says}

-- ## The form "version"

-- it is read exactly where the member is a whole number in the range
pub version-read : (v : Json) (n : ℕ)
    → (version v ≡ Some n) ↔ ((w : Json) × (field (bytes "version") v ≡ Some w) × (natural w ≡ Some n) × IsVersion n)
unfolding version must bind
version-read v n = (there, back)
  where
    there : version v ≡ Some n → (w : Json) × (field (bytes "version") v ≡ Some w) × (natural w ≡ Some n) × IsVersion n
    there e =
        let at = had _ _ e in
        let m = (number-exactly 1 max_version at.0 n).0 at.2 in
        (at.0, at.1, m.0, record { not_zero = m.1; at_most = m.2 })

    back : (w : Json) × (field (bytes "version") v ≡ Some w) × (natural w ≡ Some n) × IsVersion n → version v ≡ Some n
    back w = rw w.1 ((number-exactly 1 max_version w.0 n).1 (w.2, w.3.not_zero, w.3.at_most))

-- what is said of a listed file
pub listed-version : (v : Json) (l : Listed) → listed v ≡ Some l → IsVersion l.version
unfolding listed
listed-version v l e =
    let n = had _ _ e in
    let long = had _ _ n.2 in
    let d = had _ _ long.2 in
    subst (λ (x : Listed). IsVersion x.version) (some_is d.2) ((version-read v n.0).0 n.1).3

-- a name that is listed, and what is said of it
pub named-is : (name : Bytes) (v : Json) (n : Named) → named name v ≡ Some n → (name ≡ n.name) × (listed v ≡ Some n.listed)
unfolding named name_of
named-is name v n e =
    let b = had _ _ e in
    let l = had _ _ b.2 in
    let w = kept-is (leb 1 (length name) && leb (length name) max_name) name b.1 in
    let r = some_is l.2 in
    (w.1 ∙ ap (λ (x : Named). x.name) r, l.1 ∙ ap (λ (x : Named). Some x.listed) r)

-- a file's own
file-version : {A : Type 0} (type : Bytes) (body : Json → Option A) (v : Json) (f : File A) → file_of type body v ≡ Some f → IsVersion f.version
unfolding file_of
file-version type body v f e =
    let t = had _ _ e in
    let spec = had _ _ t.2 in
    let own = had _ _ spec.2 in
    let expires = had _ _ own.2 in
    let b = had _ _ expires.2 in
    subst (λ (x : File _). IsVersion x.version) (some_is b.2) ((version-read v own.0).0 own.1).3

-- ## Files

-- a file that was read: its own version, and the value of which its body was read
read-file : {A : Type 0} (type : Bytes) (body : Json → Option A) (keyids : Json → Bool) (file : Bytes) (f : File A) (es : List Bytes)
    → read_as type body keyids file ≡ says f es → (v : Json) × IsVersion f.version × (body v ≡ Some f.body)
read-file type body keyids file f es h =
    let w = role-file type body keyids file f es h in
    let v = w.envelope-is.signed in
    (v, file-version type body v f w.role, body_is type body v f w.role)

no-versions : AllVersions []
no-versions n m = elim m [ ]

one_more : (x : ℕ) (xs : List ℕ) → IsVersion x → AllVersions xs → AllVersions (x ∷ xs)
one_more x xs v vs n (Memᴰ.head q) = rw q v
one_more x xs v vs n (Memᴰ.tail m) = vs n m

pub root-versions : (file : Bytes) (r : Root) (es : List Bytes) → root_in file ≡ says r es → AllVersions (versions_of (a_root r))
unfolding root_in keep_root read_root
root-versions file r es h =
    let f = kept-says keep_root (read_root file) r es h in
    let w = read-file (bytes "root") root root_keyids file f.0 es f.1 in
    subst (λ (x : Root). AllVersions (versions_of (a_root x))) f.2 (one_more _ _ w.1 no-versions)

sole_listed : (v : Json) (l : Listed) → timestamp v ≡ Some l → IsVersion l.version
unfolding timestamp must sole
sole_listed v l e =
    let meta = had _ _ e in
    let ms = had _ _ meta.2 in
    let at = had _ _ ms.2 in
    listed-version at.0 l at.2

pub timestamp-versions : (file : Bytes) (t : Timestamp) (es : List Bytes) → timestamp_in file ≡ says t es → AllVersions (versions_of (a_timestamp t))
unfolding timestamp_in keep_timestamp read_timestamp
timestamp-versions file t es h =
    let f = kept-says keep_timestamp (read_timestamp file) t es h in
    let w = read-file (bytes "timestamp") timestamp no_table file f.0 es f.1 in
    subst (λ (x : Timestamp). AllVersions (versions_of (a_timestamp x))) f.2
    (one_more _ _ w.1 (one_more _ _ (sole_listed w.0 f.0.body w.2) no-versions))

each-listed : (ms : Members) (ns : List Named) → each_named named ms ≡ Some ns → AllVersions (listed_versions ns)
unfolding each_named
each-listed mnil ns e = subst (λ (l : List Named). AllVersions (listed_versions l)) (some_is e) no-versions
each-listed (mcons name v ms) ns e =
    let a = had _ _ e in
    let more = had _ _ a.2 in
    subst (λ (l : List Named). AllVersions (listed_versions l)) (some_is more.2)
    (one_more _ _ (listed-version v a.0.listed (named-is name v a.0 a.1).1) (each-listed ms more.0 more.1))

all_listed : (v : Json) (ns : List Named) → snapshot v ≡ Some ns → AllVersions (listed_versions ns)
unfolding snapshot must names
all_listed v ns e =
    let meta = had _ _ e in
    let ms = had _ _ meta.2 in
    let limited = had _ _ ms.2 in
    let there = had _ _ limited.2 in
    each-listed limited.0 ns there.2

pub snapshot-versions : (file : Bytes) (n : Snapshot) (es : List Bytes) → snapshot_in file ≡ says n es → AllVersions (versions_of (a_snapshot n))
unfolding snapshot_in keep_snapshot read_snapshot
snapshot-versions file n es h =
    let f = kept-says keep_snapshot (read_snapshot file) n es h in
    let w = read-file (bytes "snapshot") snapshot no_table file f.0 es f.1 in
    subst (λ (x : Snapshot). AllVersions (versions_of (a_snapshot x))) f.2 (one_more _ _ w.1 (all_listed w.0 f.0.body w.2))

pub targets-versions : (file : Bytes) (g : File (List Image)) (es : List Bytes) → targets_in file ≡ says g es
    → AllVersions (versions_of (a_targets (keep_targets file g)))
unfolding targets_in keep_targets read_targets
targets-versions file g es h = one_more _ _ (read-file (bytes "targets") targets no_table file g es h).1 no-versions
