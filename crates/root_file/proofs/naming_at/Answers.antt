use native.Mathlib.Omega.{arith}
use Rattle.lookup.proofs.EndLaws.{items-first, items-next, items-over}
use Rattle.forms.proofs.StepLaws.{reads-none}
use Rattle.root_file.specs.View.{view_naming}
use Rattle.root_file.proofs.RoleLaws.{gathered_first, no-keyids, few-keyids, naming-is, many-keyids, no-keyid, other-keyid, same-keyid, gathered_next}
use Rattle.root_file.proofs.naming_at.Goals as goal
use Rattle.root_file.proofs.naming_at.Goals.{then-places-eq0-via-then-places-eq0, then-places-eq0-via-else-places-eq0+then-keys-places-ne0}

pub loop-e-init : goal.loop-e-init
loop-e-init c =
    let a = c.args in
    let w = c.first_element-e.ensures in
    (omega arith, items-first a.s.now _ _ w, λ v h. gathered_first a.table.now a.s.now v c.first_element-e.result w h)

pub returns-then-n-ge-MAX_KEYIDS : goal.returns-then-n-ge-MAX_KEYIDS
returns-then-n-ge-MAX_KEYIDS c =
    let a = c.args in
    let l = c.loop-e in
    record { means = λ v h. many-keyids a.table.now a.s.now v l.keys l.n l.e (l.invariant.2 v h) _ c.in-At.is c.if-n-ge-MAX_KEYIDS.true; end = tt }

pub returns-in_err-id_at : goal.returns-in_err-id_at
returns-in_err-id_at c =
    let a = c.args in
    let l = c.loop-e in
    reads-none _ _ _ _ _ c.from_residual.ensures (λ v h. no-keyid a.table.now a.s.now v l.keys l.n l.e (l.invariant.2 v h) _ c.in-At.is c.in_err-id_at.ensures)

pub returns-then-places-eq0 : goal.returns-then-places-eq0
returns-then-places-eq0 c =
    let a = c.args in
    let l = c.loop-e in
    let q = c.places_of-places in
    record {
      means = λ v h.
          elim c.then-places-eq0.branch [
            | then-places-eq0-via-then-places-eq0 w ↦
                other-keyid a.table.now a.s.now v l.keys l.n l.e (l.invariant.2 v h) _ c.in-At.is _ c.in_ok-id_at.ensures q.result q.ensures w.if-places-eq0.true
            | then-places-eq0-via-else-places-eq0+then-keys-places-ne0 w ↦
                same-keyid a.table.now a.s.now v l.keys l.n l.e (l.invariant.2 v h) _ c.in-At.is _ c.in_ok-id_at.ensures q.result q.ensures
                (omega arith) w.if-places-eq0.false w.if-keys-places-ne0.true
          ];
      end = tt;
    }

pub loop-e-preserved : goal.loop-e-preserved
loop-e-preserved c =
    let a = c.args in
    let l = c.loop-e in
    let q = c.in-At.is in (
      omega arith,
      items-next a.s.now _ l.e l.invariant.1 _ q _ c.next_element-e.ensures,
      λ v h.
          gathered_next a.table.now a.s.now v l.keys l.n l.e (l.invariant.2 v h) _ q _ c.in_ok-id_at.ensures c.places_of-places.result c.places_of-places.ensures
          (omega arith) c.if-places-eq0.false c.if-keys-places-ne0.false c.next_element-e.result c.next_element-e.ensures,
    )

pub returns-in_default-e : goal.returns-in_default-e
returns-in_default-e c =
    let a = c.args in
    let l = c.loop-e in
    record { means = λ v h. no-keyids a.table.now a.s.now v l.keys l.n l.e (l.invariant.2 v h) c.in_default.not-At c.in_default-e.not-End; end = tt }

pub returns-then-n-lt1 : goal.returns-then-n-lt1
returns-then-n-lt1 c =
    let a = c.args in
    let l = c.loop-e in
    record { means = λ v h. few-keyids a.table.now a.s.now v l.keys l.n l.e (l.invariant.2 v h) _ c.in-End.is c.if-n-lt1.true; end = tt }

pub returns : goal.returns
unfolding view_naming
returns c =
    let a = c.args in
    let l = c.loop-e in
    let q = c.in-End.is in
    record {
      means = λ v h. naming-is a.table.now a.s.now v l.keys l.n l.e (l.invariant.2 v h) _ q c.if-n-lt1.false l.invariant.0;
      end = items-over a.s.now _ l.e l.invariant.1 _ q;
    }
