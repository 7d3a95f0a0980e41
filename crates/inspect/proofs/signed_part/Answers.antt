-- `signed_part` meets its contract: the part lies in the file, and it is the file's own memory from its place on.
use mathlib.Core.Path.{refl, ap}
use Prim.Native.Nat.{◌+◌}
use Rattle.rules.specs.Asked.{Look}
use Rattle.inspect.specs.View.{view_look}
use Rattle.inspect.proofs.LookLaws.{inside, part-is}
use Rattle.std.proofs.Common.{rules}
use Rattle.inspect.proofs.signed_part.Goals as goal

pub slice_bounds-result-end : goal.slice_bounds-result-end
unfolding view_look
slice_bounds-result-end c = let h = inside c.args.file.now _ c.look-looked.ensures in search rules

pub overflow_add-result : goal.overflow_add-result
unfolding view_look
overflow_add-result c = let h = inside c.args.file.now _ c.look-looked.ensures in search rules

pub returns : goal.returns
unfolding view_look
returns c =
    let file = c.args.file in
    let e = c.look-looked.ensures in
    record { result_value = part-is file.now _ e; ref_ptr_value = (refl, ap (λ (l : Look). l.start + file.ref_ptr.1) e) }
