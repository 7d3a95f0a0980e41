-- `first_member` meets its contract.
use Rattle.lookup.proofs.MemberLaws.{first_by}
use Rattle.lookup.proofs.first_member.Goals as goal

pub returns : goal.returns
returns c = first_by _ _ _ _ c.member_by.ensures c.opened.ensures
