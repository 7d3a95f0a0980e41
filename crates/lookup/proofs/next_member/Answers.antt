-- `next_member` meets its contract.
use Rattle.lookup.proofs.next_member.Goals as goal

pub returns : goal.returns
returns c = c.next_member_by.ensures.means tt
