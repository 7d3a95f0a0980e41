use Rattle.std.proofs.Common.{◌≡◌, ◌*◌, ◌+◌, ◌∙◌, arith, sym, refl, length, length-set}
use Rattle.base.proofs.HexLaws.{hex-at, hex-parts, undo-next, undo-end}
use Rattle.base.proofs.undo_hex.Goals as goal

pub loop-i-init : goal.loop-i-init
loop-i-init c = let e = hex-parts _ _ (sym c.is_hex.ensures ∙ c.if-not-is_hex.false) in (e.0, e.1, refl)

pub digit_value-high-requires : goal.digit_value-high-requires
digit_value-high-requires c = let l = c.loop-i in hex-at c.args.s.now (l.i * 2) l.invariant.1 (omega arith)

pub digit_value-low-requires : goal.digit_value-low-requires
digit_value-low-requires c = let l = c.loop-i in hex-at c.args.s.now (l.i * 2 + 1) l.invariant.1 (omega arith)

pub overflow_mul-byte : goal.overflow_mul-byte
overflow_mul-byte c = let l = c.loop-i in omega (arith, hex-at c.args.s.now (l.i * 2) l.invariant.1 (omega arith))

pub overflow_add-byte : goal.overflow_add-byte
overflow_add-byte c =
    let l = c.loop-i in
    let s = c.args.s.now in
    omega (arith, hex-at s (l.i * 2) l.invariant.1 (omega arith), hex-at s (l.i * 2 + 1) l.invariant.1 (omega arith))

pub loop-i-preserved : goal.loop-i-preserved
loop-i-preserved c =
    let l = c.loop-i in
    let s = c.args.s.now in
    (simp length-set (omega arith), l.invariant.1, l.invariant.2 ∙ undo-next s l.out l.i _ (omega arith) (omega arith) (omega arith))

pub returns : goal.returns
returns c =
    let l = c.loop-i in
    let e : l.i ≡ length l.out = omega arith in
    record {
      answer = sym c.if-not-is_hex.false ∙ c.is_hex.ensures;
      buffer = sym (l.invariant.2 ∙ rw e (undo-end c.args.s.now l.out (length l.out) l.invariant.0 refl));
    }
