-- `hex_in` meets its contract: digits up to a quote are the whole string.
use mathlib.Core.Path.{sym, ◌∙◌}
use native.Mathlib.Omega.{arith}
use Rattle.forms.proofs.TextLaws.{quote-inside, unhex-plain}
use Rattle.std.proofs.Common.{rules}
use Rattle.forms.proofs.hex_in.Goals as goal

pub overflow_add-i : goal.overflow_add-i
overflow_add-i g c = let h = quote-inside _ _ _ (sym c.byte_after.ensures ∙ c.if-byte_after-eq34.true) in search rules

pub slice_bounds-hex_array-end : goal.slice_bounds-hex_array-end
slice_bounds-hex_array-end g c = let h = quote-inside _ _ _ (sym c.byte_after.ensures ∙ c.if-byte_after-eq34.true) in search rules

pub returns-in-Some : goal.returns-in-Some
returns-in-Some g c = unhex-plain g.row.N _ _ _ _ (omega arith) (sym c.byte_after.ensures ∙ c.if-byte_after-eq34.true) (sym c.in-Some.is ∙ c.hex_array.ensures)
