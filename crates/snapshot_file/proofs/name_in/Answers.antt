-- `name_in` meets its contract.
use mathlib.Core.Path.{refl}
use native.Mathlib.Omega.{arith}
use Rattle.snapshot_file.proofs.NameLaws.{name-empty, name-long, name-is}
use Rattle.snapshot_file.proofs.name_in.Goals.{then-length-lt1-via-then-length-lt1, then-length-lt1-via-else-length-lt1+then-not-fits}
use Rattle.snapshot_file.proofs.name_in.Goals as goal

pub returns-then-length-lt1 : goal.returns-then-length-lt1
returns-then-length-lt1 c =
    let e = c.text_len-length.ensures in
    elim c.then-length-lt1.branch [
      | then-length-lt1-via-then-length-lt1 w ↦ let h = w.if-length-lt1.true in name-empty _ (omega arith)
      | then-length-lt1-via-else-length-lt1+then-not-fits w ↦ name-long _ _ _ refl _ c.copy_text-fits.ensures w.if-not-fits.true
    ]

pub returns : goal.returns
returns c = let e = c.text_len-length.ensures in let h = c.if-length-lt1.false in rw e (name-is _ _ _ refl _ c.copy_text-fits.ensures c.if-not-fits.false (omega arith))
