-- `is_hex`: twice n digits, measured by halves so that nothing overflows.
use Rattle.std.proofs.Common.{◌≡◌, ◌∙◌, ◌*◌, arith, sym, length}
use Rattle.std.proofs.lemmas.Grind.{common_steps}
use Rattle.base.proofs.HexLaws.{not-long, long}
use Rattle.base.proofs.is_hex.Goals as goal
use Rattle.base.proofs.is_hex.Goals.{then-s-eq0, else-s-eq0}

pub returns-then-s-n : goal.returns-then-s-n
returns-then-s-n c =
    let a = c.args in
    c.all_hex.ensures ∙ sym (long a.n a.s.now (grind (arith, common_steps)))

pub returns-else-s-n : goal.returns-else-s-n
returns-else-s-n c =
    let a = c.args in
    let h : length a.s.now ≡ a.n * 2 → ⊥ = grind (arith, common_steps) in
    grind (arith, common_steps, not-long a.n a.s.now h)
