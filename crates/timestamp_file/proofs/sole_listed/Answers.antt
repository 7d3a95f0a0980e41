-- `sole_listed` meets its contract.
use mathlib.Core.Path.{sym, ◌∙◌}
use Rattle.lookup.proofs.EndLaws.{walks_first, walks_next, walks_end}
use Rattle.timestamp_file.proofs.OnlyLaws.{only-none, only-other, only-more, only_one, sole-broken, sole-none, sole-at}
use Rattle.timestamp_file.proofs.sole_listed.Goals as goal

pub returns-in_default : goal.returns-in_default
returns-in_default c = record { means = sole-none _ _ _ _ (only-none _ _ _ c.first_member.ensures c.in_default.not-At); end = tt }

pub returns-then-not-text_is : goal.returns-then-not-text_is
returns-then-not-text_is c =
    record { means = sole-none _ _ _ _ (only-other _ _ _ c.first_member.ensures _ _ c.in-At.is (sym c.if-not-text_is.true ∙ c.text_is.ensures)); end = tt }

pub returns-in_err-said : goal.returns-in_err-said
returns-in_err-said c =
    rw c.from_residual.ensures
    (record { means = sole-broken _ _ _ c.first_member.ensures _ _ c.in-At.is _ c.in_err-said.ensures.means; end = tt })

pub returns-in_default-next_member_by : goal.returns-in_default-next_member_by
returns-in_default-next_member_by c =
    let n = c.next_member_by.ensures.means c.in_ok-said.ensures.end in
    record { means = sole-none _ _ _ _ (only-more _ _ _ c.first_member.ensures _ _ c.in-At.is n c.in_default-next_member_by.not-End); end = tt }

pub returns : goal.returns
returns c =
    let s = c.args.s.now in
    let w = c.first_member.ensures in
    let q = c.in-At.is in
    let n = c.next_member_by.ensures.means c.in_ok-said.ensures.end in
    let t = sym c.if-not-text_is.false ∙ c.text_is.ensures in
    record {
      means = sole-at _ _ _ _ _ (only_one _ _ _ w _ _ q n t _ c.in-End.is) _ c.in_ok-said.ensures.means;
      end = walks_end s _ _ (walks_next s _ _ (walks_first s _ _ w) _ _ q _ n) _ c.in-End.is;
    }
