-- `next_member_by` meets its contract.
use Rattle.lookup.proofs.MemberLaws.{next-by}
use Rattle.lookup.proofs.next_member_by.Goals as goal

pub returns : goal.returns
returns c = next-by _ _ _ _ c.member_by.ensures c.following.ensures
