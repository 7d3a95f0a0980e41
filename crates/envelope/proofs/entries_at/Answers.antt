-- `entries_at` meets its contract.
use mathlib.Core.Path.{refl, sym, ap, ◌∙◌}
use Rattle.std.specs.declared.option.Option.TheVariants.{Some}
use native.Mathlib.Omega.{arith}
use lib.ListN.{length-set}
use Rattle.lookup.proofs.ItemLaws.{ahead-less}
use Rattle.lookup.proofs.EndLaws as end
use Rattle.rules.specs.Limits.{max_entries, key_size}
use Rattle.rules.proofs.OptionLaws.{none-not-some}
use Rattle.records.specs.View.{view_id, no_id, view_entries}
use Rattle.forms.proofs.EachLaws.{items-first, items-none, items-over, items-full, items-broken, items-next}
use Rattle.forms.proofs.TextLaws.{unhex_yes}
use Rattle.forms.proofs.ArrayLaws.{front, front-none, front-more, front-firsts}
use Rattle.envelope.specs.Header.{keyid_of}
use Rattle.envelope.proofs.EntryLaws.{keyid-broken, keyid-is, keyids-each, broken-entries}
use Rattle.envelope.proofs.entries_at.Goals as goal

pub loop-e-init : goal.loop-e-init
loop-e-init c =
    let s = c.args.s.now in
    let w = c.first_element-e.ensures in
    (omega arith, refl, end.items-first s _ _ w, λ v h. rw (front-none view_id no_id _) (items-first keyid_of 0 max_entries s _ w v h))

pub returns-then-n-ge-MAX_ENTRIES : goal.returns-then-n-ge-MAX_ENTRIES
returns-then-n-ge-MAX_ENTRIES c =
    let l = c.loop-e in
    broken-entries _ _ (λ v h. items-full keyid_of 0 max_entries _ l.e l.n (front view_id no_id l.ids l.n) _ (l.invariant.3 v h) _ c.in-At.is (omega arith))

pub returns-in_err-entry-in-At : goal.returns-in_err-entry-in-At
returns-in_err-entry-in-At c =
    let l = c.loop-e in
    rw c.from_residual.ensures
    (broken-entries _ _ (λ v h. items-broken keyid_of 0 max_entries _ l.e l.n (front view_id no_id l.ids l.n) _ (l.invariant.3 v h) _ c.in-At.is (λ u k. keyid-broken c.args.s.now u (c.in_err-entry-in-At.ensures.reads.means u k))))

-- digits stand at the place, so that they are undone
pub returns-in_err-ids-in-At : goal.returns-in_err-ids-in-At
returns-in_err-ids-in-At c = none-not-some (c.in_err-ids-in-At.ensures ∙ sym (unhex_yes key_size _ c.in_ok-entry-in-At.ensures.digits.keyid))

pub loop-e-smaller : goal.loop-e-smaller
loop-e-smaller c =
    let l = c.loop-e in
    ahead-less c.args.s.now l.e _ c.in-At.is c.next_element_by-e.result c.next_element_by-e.ensures.onward

pub loop-e-preserved : goal.loop-e-preserved
loop-e-preserved c =
    let s = c.args.s.now in
    let l = c.loop-e in
    let q = c.in-At.is in
    let fits = c.if-n-ge-MAX_ENTRIES.false in
    let r = c.in_ok-entry-in-At.ensures in
    let id = c.in_ok-ids-in-At.ensures ∙ sym (unhex_yes key_size _ r.digits.keyid) in
    let n = c.next_element_by-e.ensures.means r.reads.end in (
      omega (arith, fits),
      simp length-set (omega arith),
      end.items-next s _ l.e l.invariant.2 _ q _ n,
      λ v h.
          rw (front-more view_id no_id l.ids l.n _ (omega (arith, fits)))
          (items-next keyid_of 0 max_entries s l.e l.n (front view_id no_id l.ids l.n) _ (l.invariant.3 v h) _ q _ (λ u k. id ∙ keyid-is s u _ (r.reads.means u k)) _ n),
    )

pub returns-in-NoArray : goal.returns-in-NoArray
returns-in-NoArray c =
    let l = c.loop-e in
    broken-entries _ _ (λ v h. items-none keyid_of 0 max_entries c.args.s.now l.e l.n (front view_id no_id l.ids l.n) _ (l.invariant.3 v h) c.in-NoArray.is)

pub returns-in-End : goal.returns-in-End
unfolding view_entries
returns-in-End c =
    let s = c.args.s.now in
    let l = c.loop-e in
    let q = c.in-End.is in
    record {
      means = λ v h.
          ap Some (front-firsts view_id no_id l.ids l.n max_entries l.invariant.0)
          ∙ items-over keyid_of 0 max_entries s l.e l.n (front view_id no_id l.ids l.n) _ (l.invariant.3 v h) _ q (omega arith) l.invariant.0
          ∙ sym (keyids-each v);
      end = end.items-over s _ l.e l.invariant.2 _ q;
    }
