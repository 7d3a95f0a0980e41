-- `walked_entry` meets its contract.
use Rattle.forms.specs.View.{undone_at}
use Rattle.envelope.specs.Header.{entry_in}
use Rattle.envelope.proofs.EntryLaws.{no-keyid, no-sig, entry-is, broken-entry}
use Rattle.envelope.proofs.walked_entry.Goals as goal

pub returns-in_err-keyid : goal.returns-in_err-keyid
unfolding undone_at
returns-in_err-keyid c =
    let m = c.find_members-m.ensures in
    rw c.from_residual.ensures (broken-entry _ _ (λ v h. no-keyid v (c.in_err-keyid.ensures.0 _ _ m.first.means v h)))

pub returns-in_err-sig : goal.returns-in_err-sig
unfolding undone_at
returns-in_err-sig c =
    let m = c.find_members-m.ensures in
    rw c.from_residual-in_err-sig.ensures (broken-entry _ _ (λ v h. no-sig v _ (c.in_ok-keyid.ensures.0 _ _ m.first.means v h) (c.in_err-sig.ensures.0 _ _ m.second.means v h)))

pub returns : goal.returns
unfolding undone_at entry_in
returns c =
    let m = c.find_members-m.ensures in
    let keyid = c.in_ok-keyid.ensures in
    let sig = c.in_ok-sig.ensures in
    record {
      reads = record {
        means = λ v h. entry-is v _ (keyid.0 _ _ m.first.means v h) _ (sig.0 _ _ m.second.means v h);
        end = m.end;
      };
      digits = record { keyid = keyid.1; sig = sig.1 };
    }
