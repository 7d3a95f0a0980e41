use Rattle.lookup.proofs.StandsLaws.{ended}
use Rattle.root_file.proofs.OwnLaws.{own_first, own-over, own-not, own-next}
use Rattle.root_file.proofs.has_own_keyids.Goals as goal

pub loop-m-init : goal.loop-m-init
loop-m-init c = own_first _ _ _ c.first_member-m.ensures

pub returns-then-not-has_own_keyid : goal.returns-then-not-has_own_keyid
returns-then-not-has_own_keyid c v h = own-not _ (c.has_own_keyid.ensures c.value_end-end.ensures) c.if-not-has_own_keyid.true (rw c.in-At.is at (c.loop-m.invariant v h))

pub loop-m-preserved : goal.loop-m-preserved
loop-m-preserved c v h = own-next _ (c.has_own_keyid.ensures c.value_end-end.ensures) c.if-not-has_own_keyid.false _ (c.next_member_by-m.ensures.means (ended _ _ _ c.value_end-end.ensures)) (rw c.in-At.is at (c.loop-m.invariant v h))

pub returns : goal.returns
returns c v h = own-over c.in_default.not-At (c.loop-m.invariant v h)
