-- `shift`: the bytes that are moved stand in front.
use Rattle.std.proofs.Common.{◌≡◌, ◌-◌, subst, ℕ, drop, take, length-drop, zero-add, arith}
use Rattle.std.proofs.lemmas.List.Edits.{take-paste}
use Rattle.std.proofs.Math.Seq.{paste}
use Rattle.replay.proofs.shift.Goals as goal

pub returns-clause-moved : goal.returns-clause-moved
returns-clause-moved c =
    let s = c.args.buf.now in
    let i = c.args.from in
    let n = c.args.to - i in
    let front = take-paste s 0 (drop i s) n (omega arith) (simp length-drop (omega arith)) in
    rw c.copy_within.ensures.after (subst (λ (k : ℕ). take k (paste s 0 (drop i s) n) ≡ take n (drop i s)) (zero-add n) front)
