-- `has_digits` meets its contract.
use mathlib.Core.Path.{◌≡◌, sym, ap, ◌∙◌}
use Prim.Native.Nat.{ℕ, ◌+◌, ◌-◌, ◌*◌}
use native.Mathlib.Omega.{arith}
use lib.ListN.{take, drop}
use borrow.Author.Tests.{ne_eqb}
use Rattle.base.specs.Hex.{is_hex}
use Rattle.forms.proofs.TextLaws.{quote-inside, no-digits, digits-past, some-digits}
use Rattle.std.proofs.Common.{rules}
use Rattle.forms.proofs.has_digits.Goals as goal

pub slice_bounds-is_hex-end : goal.slice_bounds-is_hex-end
slice_bounds-is_hex-end c = let h = quote-inside _ _ _ (sym c.byte_after.ensures ∙ c.if-byte_after-eq34.true) in search rules

pub overflow_add-i : goal.overflow_add-i
overflow_add-i c = let h = quote-inside _ _ _ (sym c.byte_after.ensures ∙ c.if-byte_after-eq34.true) in search rules

pub returns-then-s-n : goal.returns-then-s-n
returns-then-s-n c = let a = c.args in sym (digits-past a.n a.s.now a.i (omega arith))

pub returns-then-byte_after-eq34 : goal.returns-then-byte_after-eq34
returns-then-byte_after-eq34 c =
    let a = c.args in
    let m : a.i + a.n * 2 - a.i ≡ a.n * 2 = omega arith in
    c.is_hex.ensures ∙ ap (λ (k : ℕ). is_hex a.n (take k (drop a.i a.s.now))) m ∙ sym (some-digits a.n a.s.now a.i (sym c.byte_after.ensures ∙ c.if-byte_after-eq34.true))

pub returns-else-byte_after-eq34 : goal.returns-else-byte_after-eq34
returns-else-byte_after-eq34 c =
    let a = c.args in
    ne_eqb _ 34 c.if-byte_after-eq34.false ∙ sym (no-digits a.n a.s.now a.i (λ e. c.if-byte_after-eq34.false (c.byte_after.ensures ∙ e)))
