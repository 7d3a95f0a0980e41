-- `names_at` meets its contract.
use mathlib.Core.Bool.{not}
use mathlib.Core.Path.{refl, ap, ◌∙◌}
use native.Mathlib.Omega.{arith}
use lib.ListN.{length-set}
use Rattle.std.specs.declared.option.Option.TheVariants.{Some}
use Rattle.base.specs.Bytes.{bytes}
use Rattle.lookup.proofs.EndLaws.{walks_first, walks_next, walks_end}
use Rattle.lookup.proofs.SeveralLaws.{seeks_first, seeks_next, seeks_end}
use Rattle.rules.specs.Limits.{max_names}
use Rattle.rules.specs.Forms.{named}
use Rattle.records.specs.View.{view_named, no_named, view_names}
use Rattle.forms.proofs.EachLaws.{members-first, members-none, members-few, members-over, members-full, members-broken, members-next}
use Rattle.forms.proofs.ArrayLaws.{front, front-none, front-more, front-firsts}
use Rattle.snapshot_file.proofs.NameLaws.{names-broken, targets-missing, targets-there, no-object}
use Rattle.snapshot_file.proofs.names_at.Goals.{then-n-lt1-via-then-n-lt1, then-n-lt1-via-else-n-lt1+then-is_none}
use Rattle.snapshot_file.proofs.names_at.Goals as goal

pub loop-m-init : goal.loop-m-init
loop-m-init c =
    let s = c.args.s.now in
    let w = c.first_member-m.ensures in (
      omega arith,
      refl,
      walks_first s _ _ w,
      seeks_first s _ (bytes "targets.json") _ w,
      λ v h. rw (front-none view_named no_named _) (members-first named 1 max_names s _ w v h),
    )

pub returns-then-n-ge-MAX_NAMES : goal.returns-then-n-ge-MAX_NAMES
returns-then-n-ge-MAX_NAMES c =
    let s = c.args.s.now in
    let l = c.loop-m in
    let all = front view_named no_named l.named l.n in
    record { means = names-broken s _ (λ v h. members-full named 1 max_names s l.m l.n all _ (l.invariant.4 v h) _ _ c.in-At.is c.if-n-ge-MAX_NAMES.true); end = tt }

pub returns-in_err-read : goal.returns-in_err-read
returns-in_err-read c =
    let s = c.args.s.now in
    let l = c.loop-m in
    let all = front view_named no_named l.named l.n in
    rw c.from_residual.ensures
    (record { means = names-broken s _ (λ v h. members-broken named 1 max_names s l.m l.n all _ (l.invariant.4 v h) _ _ c.in-At.is c.in_err-read.ensures.means); end = tt })

pub loop-m-preserved : goal.loop-m-preserved
loop-m-preserved c =
    let s = c.args.s.now in
    let l = c.loop-m in
    let q = c.in-At.is in
    let read = c.in_ok-read.ensures in
    let n = c.next_member_by-m.ensures.means read.end in
    let all = front view_named no_named l.named l.n in (
      omega arith,
      simp length-set (omega arith),
      walks_next s _ l.m l.invariant.2 _ _ q _ n,
      seeks_next s _ _ l.m l.targets l.invariant.3 _ _ q _ n _ c.noted-targets.ensures,
      λ v h.
          rw (front-more view_named no_named l.named l.n _ (omega arith))
          (members-next named 1 max_names s l.m l.n all _ (l.invariant.4 v h) _ _ q _ read.means _ n),
    )

pub returns-in_default-m : goal.returns-in_default-m
returns-in_default-m c =
    let s = c.args.s.now in
    let l = c.loop-m in
    let all = front view_named no_named l.named l.n in
    let q = no-object l.m c.in_default.not-At c.in_default-m.not-End in
    record { means = names-broken s _ (λ v h. members-none named 1 max_names s l.m l.n all _ (l.invariant.4 v h) q); end = tt }

pub returns-then-n-lt1 : goal.returns-then-n-lt1
returns-then-n-lt1 c =
    let s = c.args.s.now in
    let l = c.loop-m in
    let all = front view_named no_named l.named l.n in
    let f = seeks_end s _ _ l.m l.targets l.invariant.3 _ c.in-End.is in
    elim c.then-n-lt1.branch [
      | then-n-lt1-via-then-n-lt1 w ↦ record { means = names-broken s _ (λ v h. members-few named 1 max_names s l.m l.n all _ (l.invariant.4 v h) _ c.in-End.is w.if-n-lt1.true); end = tt }
      | then-n-lt1-via-else-n-lt1+then-is_none w ↦ record { means = targets-missing s _ l.targets f.means (w.is_none.ensures ∙ ap not w.if-is_none.true); end = tt }
    ]

pub returns : goal.returns
unfolding view_names
returns c =
    let s = c.args.s.now in
    let l = c.loop-m in
    let q = c.in-End.is in
    let f = seeks_end s _ _ l.m l.targets l.invariant.3 _ q in
    let all = front view_named no_named l.named l.n in
    record {
      means =
          targets-there s _ l.targets f.means (c.is_none.ensures ∙ ap not c.if-is_none.false) _
          (λ v h.
          ap Some (front-firsts view_named no_named l.named l.n max_names l.invariant.0)
          ∙ members-over named 1 max_names s l.m l.n all _ (l.invariant.4 v h) _ q (omega (arith, c.if-n-lt1.false)) l.invariant.0);
      end = walks_end s _ l.m l.invariant.2 _ q;
    }
