use native.Mathlib.Omega.{arith}
use mathlib.Core.Path.{sym, ◌∙◌}
use Rattle.root_file.proofs.TableLaws.{differ-not, differ-next, differ-end}
use Rattle.root_file.proofs.publics_differ.Goals as goal

pub returns-then-has_public : goal.returns-then-has_public
returns-then-has_public c = let l = c.loop-i in differ-not _ l.i (omega arith) (sym c.if-has_public.true ∙ c.has_public.ensures) ∙ sym l.invariant

pub loop-i-preserved : goal.loop-i-preserved
loop-i-preserved c = let l = c.loop-i in l.invariant ∙ differ-next _ l.i (omega arith) (sym c.if-has_public.false ∙ c.has_public.ensures)

pub returns : goal.returns
returns c = let l = c.loop-i in differ-end _ l.i (omega arith) ∙ sym l.invariant
