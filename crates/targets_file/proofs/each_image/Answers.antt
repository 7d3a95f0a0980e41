-- `each_image` meets its contract.
use mathlib.Core.Path.{refl}
use native.Mathlib.Omega.{arith}
use Rattle.lookup.proofs.EndLaws.{walks_first, walks_next, walks_end}
use Rattle.targets_file.specs.View.{view_search}
use Rattle.targets_file.specs.Pass.{going}
use Rattle.targets_file.proofs.ImageLaws.{pass_first, pass_over, pass_none, pass_full, pass_broken, pass_next}
use Rattle.targets_file.proofs.each_image.Goals as goal

pub loop-m-init : goal.loop-m-init
unfolding going view_search
loop-m-init c = (pass_first _ _ _ _ refl _ c.first_member-m.ensures, walks_first c.args.s.now _ _ c.first_member-m.ensures)

pub returns-then-n-ge-MAX_TARGETS : goal.returns-then-n-ge-MAX_TARGETS
returns-then-n-ge-MAX_TARGETS c =
    let l = c.loop-m in
    let a = c.args in
    record { means = pass_full a.s.now a.path.now a.at l.search l.n l.m l.invariant.0 _ _ c.in-At.is (omega (arith, c.if-n-ge-MAX_TARGETS.true)); end = tt }

pub returns-in_err-image : goal.returns-in_err-image
returns-in_err-image c =
    let l = c.loop-m in
    let a = c.args in
    rw c.from_residual.ensures (record { means = pass_broken a.s.now a.path.now a.at l.search l.n l.m l.invariant.0 _ _ c.in-At.is c.in_err-image.ensures; end = tt })

pub loop-m-preserved : goal.loop-m-preserved
loop-m-preserved c =
    let l = c.loop-m in
    let a = c.args in
    let q = c.in-At.is in
    let image = c.in_ok-image.ensures in
    let n = c.next_member_by-m.ensures.means image.reads.end in (
      pass_next a.s.now a.path.now a.at l.search l.n l.m l.invariant.0 _ _ q _ image (omega arith) _ c.with_image-search.ensures _ n,
      walks_next a.s.now _ l.m l.invariant.1 _ _ q _ n,
    )

pub returns-in_default-m : goal.returns-in_default-m
returns-in_default-m c =
    let l = c.loop-m in
    let a = c.args in
    record { means = pass_none a.s.now a.path.now a.at l.search l.n l.m l.invariant.0 c.in_default.not-At c.in_default-m.not-End; end = tt }

pub returns : goal.returns
returns c =
    let l = c.loop-m in
    let a = c.args in
    let q = c.in-End.is in
    record { means = pass_over a.s.now a.path.now a.at l.search l.n l.m l.invariant.0 _ q; end = walks_end a.s.now _ l.m l.invariant.1 _ q }
