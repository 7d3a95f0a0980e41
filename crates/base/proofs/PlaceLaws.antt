-- A place of a byte string: the byte there, and what follows it.
use mathlib.Core.Path.{◌≡◌}
use mathlib.Core.List.{[], ◌∷◌}
use Prim.Native.Nat.{ℕ, ◌≤◌, ◌<◌, ◌+◌}
use native.Mathlib.Numerals.{add-one}
use lib.ListN.{length, drop, get_or, drop_of_length-le}
use lib.Seq.{drop-cons}
use Rattle.base.specs.Bytes.{Bytes}

pub at-cons : (s : Bytes) (i : ℕ) → i < length s → drop i s ≡ get_or s i 0 ∷ drop (i + 1) s
at-cons s i h = rw (add-one, drop-cons s i 0)

pub at-end : (s : Bytes) (i : ℕ) → length s ≤ i → drop i s ≡ []
at-end s i h = drop_of_length-le s h
