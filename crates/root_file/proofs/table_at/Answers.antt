use mathlib.Core.Path.{refl, ap, ◌∙◌}
use native.Mathlib.Omega.{arith}
use lib.ListN.{length-set}
use Rattle.std.specs.declared.option.Option.TheVariants.{Some}
use Rattle.lookup.proofs.EndLaws.{walks_first, walks_next, walks_end}
use Rattle.rules.specs.Limits.{max_keys}
use Rattle.rules.specs.Forms.{key}
use Rattle.records.specs.View.{view_key, no_key}
use Rattle.forms.proofs.ArrayLaws.{front, front-none, front-more}
use Rattle.forms.proofs.EachLaws.{members-first, members-few, members-over, members-full, members-broken, members-next}
use Rattle.forms.proofs.StepLaws.{reads-none}
use Rattle.root_file.proofs.TableLaws.{filled}
use Rattle.root_file.proofs.table_at.Goals as goal

pub loop-m-init : goal.loop-m-init
loop-m-init c =
    let s = c.args.s.now in
    let w = c.first_member-m.ensures in
    (omega arith, refl, walks_first s _ _ w, λ v h. rw (front-none view_key no_key) (members-first key 1 max_keys s c.first_member-m.result w v h))

pub returns-then-n-ge-MAX_KEYS : goal.returns-then-n-ge-MAX_KEYS
returns-then-n-ge-MAX_KEYS c =
    let l = c.loop-m in
    record { means = λ v h. members-full key 1 max_keys c.args.s.now l.m l.n (front view_key no_key l.keys l.n) _ (l.invariant.3 v h) _ _ c.in-At.is c.if-n-ge-MAX_KEYS.true; end = tt }

pub returns-in_err-key : goal.returns-in_err-key
returns-in_err-key c =
    let l = c.loop-m in
    reads-none _ _ _ _ _ c.from_residual.ensures
    (λ v h. members-broken key 1 max_keys c.args.s.now l.m l.n (front view_key no_key l.keys l.n) _ (l.invariant.3 v h) _ _ c.in-At.is c.in_err-key.ensures.means)

pub loop-m-preserved : goal.loop-m-preserved
loop-m-preserved c =
    let s = c.args.s.now in
    let l = c.loop-m in
    let q = c.in-At.is in
    let n = c.next_member_by-m.ensures.means c.in_ok-key.ensures.end in (
      omega arith,
      simp length-set (omega arith),
      walks_next s _ l.m l.invariant.2 _ _ q _ n,
      λ v h.
          rw (front-more view_key no_key l.keys l.n c.in_ok-key.key.value (omega arith))
          (members-next key 1 max_keys s l.m l.n (front view_key no_key l.keys l.n) _ (l.invariant.3 v h) _ _ q _ c.in_ok-key.ensures.means c.next_member_by-m.result n),
    )

pub returns-then-n-lt1 : goal.returns-then-n-lt1
returns-then-n-lt1 c =
    let l = c.loop-m in
    record { means = λ v h. members-few key 1 max_keys c.args.s.now l.m l.n (front view_key no_key l.keys l.n) _ (l.invariant.3 v h) _ c.in-End.is c.if-n-lt1.true; end = tt }

pub returns : goal.returns
returns c =
    let s = c.args.s.now in
    let l = c.loop-m in
    let q = c.in-End.is in
    record {
      means = λ v h.
          ap Some (filled l.keys l.n l.invariant.0)
          ∙ members-over key 1 max_keys s l.m l.n (front view_key no_key l.keys l.n) _ (l.invariant.3 v h) _ q c.if-n-lt1.false l.invariant.0;
      end = walks_end s _ l.m l.invariant.2 _ q;
    }
