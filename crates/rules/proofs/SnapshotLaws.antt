-- A snapshot that was read lists `targets.json`, with a version that is not 0: `targets_entry` is what the file says.
use mathlib.Core.Path.{◌≡◌, sym, ap, ◌∙◌, subst}
use Rattle.std.specs.declared.option.Option.{Option}
use Rattle.std.specs.declared.option.Option.TheVariants.{Some}
use mathlib.Core.Bool.{Bool, true, false, cond}
use mathlib.Core.List.{List, ◌∷◌}
use Prim.Native.Nat.{◌≤◌}
use Rattle.base.proofs.ByteLaws.{same-sym}
use Rattle.base.specs.Bytes.{Bytes, bytes, same}
use Rattle.canonical_json.specs.Json.{Json, Members, mnil, mcons}
use Rattle.canonical_json.specs.Fields.{lookup}
use Rattle.rules.specs.Take.{must, each_named}
use Rattle.rules.specs.Records.{Listed, Named, says}
use Rattle.rules.specs.Forms.{listed, named, names, snapshot}
use Rattle.rules.specs.Reading.{no_table, read_snapshot}
use Rattle.rules.specs.State.{Snapshot, keep_snapshot, snapshot_in}
use Rattle.rules.specs.Conditions.{listed_as}
use Rattle.rules.proofs.OptionLaws.{none-not-some, some_is, had}
use Rattle.rules.proofs.ReadingLaws.{role-file, body_is, kept-says}
use Rattle.rules.proofs.VersionLaws.{named-is, listed-version}

-- a list says something of the name k, with a version that is not 0
pub record Lists (k : Bytes) (ns : List Named) : Type 0 where
  pub listed-as : Listed
  pub is : listed_as k ns ≡ Some listed-as
  pub positive : 1 ≤ listed-as.version

lists-one : (k : Bytes) (n : Named) (ns : List Named) (v : Json) (o : Option Json) (w : Json) (b : Bool) → same k n.name ≡ b
    → listed v ≡ Some n.listed → cond b (Some v) o ≡ Some w → (o ≡ Some w → Lists k ns) → Lists k (n ∷ ns)
unfolding listed_as
lists-one k n ns v o w true e h q more = record { listed-as = n.listed; is = rw e; positive = (listed-version v n.listed h).not_zero }
lists-one k n ns v o w false e h q more =
    let r = more q in
    record { listed-as = r.listed-as; is = rw e r.is; positive = r.positive }

lists : (k : Bytes) (ms : Members) (ns : List Named) (w : Json) → each_named named ms ≡ Some ns → lookup k ms ≡ Some w → Lists k ns
unfolding each_named lookup
lists k mnil ns w e q = none-not-some q
lists k (mcons name v ms) ns w e q =
    let n = had _ _ e in
    let more = had _ _ n.2 in
    let is = named-is name v n.0 n.1 in
    subst (Lists k) (some_is more.2)
    (lists-one k n.0 more.0 v (lookup k ms) w (same name k) (ap (λ (x : Bytes). same k x) (sym is.0) ∙ same-sym k name) is.1 q
    (lists k ms more.0 w more.1))

snapshot-lists : (v : Json) (ns : List Named) → snapshot v ≡ Some ns → Lists (bytes "targets.json") ns
unfolding snapshot must names
snapshot-lists v ns e =
    let at = had _ _ e in
    let ms = had _ _ at.2 in
    let limited = had _ _ ms.2 in
    let there = had _ _ limited.2 in
    lists (bytes "targets.json") limited.0 ns there.0 there.2 there.1

pub targets-listed : (file : Bytes) (n : Snapshot) (es : List Bytes) → snapshot_in file ≡ says n es → Lists (bytes "targets.json") n.names
unfolding snapshot_in keep_snapshot read_snapshot
targets-listed file n es h =
    let f = kept-says keep_snapshot (read_snapshot file) n es h in
    let w = role-file (bytes "snapshot") snapshot no_table file f.0 es f.1 in
    subst (λ (x : Snapshot). Lists (bytes "targets.json") x.names) f.2
    (snapshot-lists w.envelope-is.signed f.0.body (body_is (bytes "snapshot") snapshot w.envelope-is.signed f.0 w.role))
