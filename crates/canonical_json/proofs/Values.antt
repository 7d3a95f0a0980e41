-- The reading of a value, by its first byte, at a place of the text.
use mathlib.Core.Path.{◌≡◌, refl}
use mathlib.Core.List.{◌∷◌}
use mathlib.Core.Bool.{true, false}
use Prim.Native.Nat.{ℕ, zero, suc, ◌≤◌, ◌<◌, ◌+◌, ◌-◌}
use native.Mathlib.Numerals.{sub-one}
use lib.ListN.{length, drop, get_or}
use Rattle.base.specs.Bytes.{Bytes, bytes}
use Rattle.base.proofs.PlaceLaws.{at-cons, at-end}
use Rattle.canonical_json.specs.Json.{Items, Members, str, num, arr, obj, jtrue, jfalse, jnull}
use Rattle.canonical_json.specs.Read.{Got, bad, end_of, also, array, object, number, read, read_with, read_kind, read_str, word, kind_of}
use Rattle.std.specs.declared.option.Option.TheVariants.{None}
use Rattle.canonical_json.specs.declared.Kind.{Kind}
use Rattle.canonical_json.specs.declared.Kind.TheVariants.{Text, Minus, Digit, Array, Object, True, False, Null, Other}
use Rattle.canonical_json.proofs.Place.{ends-also}

abbrev pub array_at : ℕ → Bytes → Got Items
array_at zero t = bad
array_at (suc d) t = array (read d) t

abbrev pub object_at : ℕ → Bytes → Got Members
object_at zero t = bad
object_at (suc d) t = object (read d) t

pub read-with : (d : ℕ) (t : Bytes) → read d t ≡ read_with (array_at d) (object_at d) t
unfolding read
read-with zero t = refl
read-with (suc d) t = refl

module _ (s : Bytes) (i d : ℕ) where
  pub over : length s ≤ i → end_of (length s) (read d (drop i s)) ≡ None
  over h = rw (read-with, at-end s i h)

  module _ (h : i < length s) where
    by_kind : (k : Kind) → kind_of (get_or s i 0) ≡ k → read d (drop i s) ≡ read_kind (array_at d) (object_at d) k (get_or s i 0) (drop (i + 1) s)
    by_kind k e = rw (read-with, at-cons s i h, e)

    pub other : kind_of (get_or s i 0) ≡ Other → end_of (length s) (read d (drop i s)) ≡ None
    other e = rw (by_kind Other e)

    pub text : kind_of (get_or s i 0) ≡ Text → end_of (length s) (read d (drop i s)) ≡ end_of (length s) (read_str (drop (i + 1) s))
    text e = rw (by_kind Text e) (ends-also (length s) str (read_str (drop (i + 1) s)))

    pub minus : kind_of (get_or s i 0) ≡ Minus → end_of (length s) (read d (drop i s)) ≡ end_of (length s) (number true (drop (i + 1) s))
    minus e = rw (by_kind Minus e) (ends-also (length s) (λ (ds : Bytes). num true ds) (number true (drop (i + 1) s)))

    pub digit : kind_of (get_or s i 0) ≡ Digit → end_of (length s) (read d (drop i s)) ≡ end_of (length s) (number false (drop i s))
    digit e = rw (by_kind Digit e, at-cons s i h) (ends-also (length s) (λ (ds : Bytes). num false ds) (number false (get_or s i 0 ∷ drop (i + 1) s)))

    pub is_true : kind_of (get_or s i 0) ≡ True → end_of (length s) (read d (drop i s)) ≡ end_of (length s) (word (bytes "rue") (drop (i + 1) s))
    is_true e = rw (by_kind True e) (ends-also (length s) (λ (x : Unit {0}). jtrue) (word (bytes "rue") (drop (i + 1) s)))

    pub is_false : kind_of (get_or s i 0) ≡ False → end_of (length s) (read d (drop i s)) ≡ end_of (length s) (word (bytes "alse") (drop (i + 1) s))
    is_false e = rw (by_kind False e) (ends-also (length s) (λ (x : Unit {0}). jfalse) (word (bytes "alse") (drop (i + 1) s)))

    pub is_null : kind_of (get_or s i 0) ≡ Null → end_of (length s) (read d (drop i s)) ≡ end_of (length s) (word (bytes "ull") (drop (i + 1) s))
    is_null e = rw (by_kind Null e) (ends-also (length s) (λ (x : Unit {0}). jnull) (word (bytes "ull") (drop (i + 1) s)))

    pub deep_array : kind_of (get_or s i 0) ≡ Array → d ≡ 0 → end_of (length s) (read d (drop i s)) ≡ None
    deep_array e z = rw (by_kind Array e, z)

    pub deep_object : kind_of (get_or s i 0) ≡ Object → d ≡ 0 → end_of (length s) (read d (drop i s)) ≡ None
    deep_object e z = rw (by_kind Object e, z)

-- the depth left falls
array-less : (n d : ℕ) (t : Bytes) → (d ≡ 0 → ⊥) → end_of n (also arr (array_at d t)) ≡ end_of n (array (read (d - 1)) t)
array-less n zero t z = absurd (z refl)
array-less n (suc d) t z = rw sub-one (ends-also n arr (array (read d) t))

object-less : (n d : ℕ) (t : Bytes) → (d ≡ 0 → ⊥) → end_of n (also obj (object_at d t)) ≡ end_of n (object (read (d - 1)) t)
object-less n zero t z = absurd (z refl)
object-less n (suc d) t z = rw sub-one (ends-also n obj (object (read d) t))

module _ (s : Bytes) (i d : ℕ) (h : i < length s) (z : d ≡ 0 → ⊥) where
  pub in_array : kind_of (get_or s i 0) ≡ Array → end_of (length s) (read d (drop i s)) ≡ end_of (length s) (array (read (d - 1)) (drop (i + 1) s))
  in_array e = rw (by_kind s i d h Array e) (array-less (length s) d (drop (i + 1) s) z)

  pub in_object : kind_of (get_or s i 0) ≡ Object → end_of (length s) (read d (drop i s)) ≡ end_of (length s) (object (read (d - 1)) (drop (i + 1) s))
  in_object e = rw (by_kind s i d h Object e) (object-less (length s) d (drop (i + 1) s) z)

-- what the check of `value` may use
pub ruleset value_rules = (over, other, text, minus, digit, is_true, is_false, is_null, deep_array, deep_object, in_array, in_object)
