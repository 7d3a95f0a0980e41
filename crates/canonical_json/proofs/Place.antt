-- A place of a text, and where a reading ends.
use mathlib.Core.Path.{◌≡◌, refl, ap}
use Prim.Native.Nat.{ℕ, ◌≤◌}
use native.Mathlib.Omega.{arith}
use lib.ListN.{length, drop, length-drop}
use Rattle.base.specs.Bytes.{Bytes}
use Rattle.canonical_json.specs.Read.{Got, bad, got, end_of, also}
use Rattle.std.specs.declared.option.Option.TheVariants.{Some}

-- a reading that stops at k ends at k
pub ends_at : {A : Type 0} (s : Bytes) (k : ℕ) (a : A) → k ≤ length s → end_of (length s) (got a (drop k s)) ≡ Some k
ends_at s k a h = ap Some (omega (arith, length-drop k s))

pub ends-also : {A B : Type 0} (n : ℕ) (f : A → B) (g : Got A) → end_of n (also f g) ≡ end_of n g
ends-also n f bad = refl
ends-also n f (got a r) = refl
