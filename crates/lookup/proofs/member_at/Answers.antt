-- `member_at` meets its contract: a name is a string that stands before its colon.
use native.Mathlib.Omega.{arith}
use Rattle.lookup.proofs.MemberLaws.{member_found}
use Rattle.lookup.proofs.member_at.Goals as goal

pub returns-in-Some : goal.returns-in-Some
returns-in-Some c = member_found _ _ _ c.value_end.ensures _ c.in-Some.is (omega arith)
