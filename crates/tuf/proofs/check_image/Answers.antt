-- `check_image`: each test passed skips a refusal, and the first that holds is the answer. With `fits`, a search that finds nothing has
-- tried every way.
use mathlib.Core.Path.{ap}
use mathlib.Core.Bool.{not}
use borrow.Author.Tests.{eq-eqb, ne_eqb}
use Rattle.rules.specs.Asked.{image_table, image_answer}
use Rattle.judge.proofs.TableLaws.{table}
use Rattle.tuf.proofs.check_image.Goals as goal

pub returns-then-is_bad_digest : goal.returns-then-is_bad_digest
unfolding image_answer image_table
returns-then-is_bad_digest c = search table depth 20

pub returns-then-is_bad_digest-2 : goal.returns-then-is_bad_digest-2
unfolding image_answer image_table
returns-then-is_bad_digest-2 c = search table depth 20

pub returns-then-listed-fetched : goal.returns-then-listed-fetched
unfolding image_answer image_table
returns-then-listed-fetched c = let e = ap not (ne_eqb _ _ c.if-listed-fetched.true) in search table depth 20

pub returns-then-not-same : goal.returns-then-not-same
unfolding image_answer image_table
returns-then-not-same c = let e = ap not (eq-eqb _ _ c.if-listed-fetched.false) in let f = ap not c.same.ensures in search table depth 20 fits 4000

pub returns : goal.returns
unfolding image_answer image_table
returns c = let e = ap not (eq-eqb _ _ c.if-listed-fetched.false) in let f = ap not c.same.ensures in search table depth 20 fits 4000
