-- Numbers as words write them: decimal digits, and for a time a `-` in front where it is before 1970.
use Rattle.std.specs.Prelude.{[], ◌∷◌, cond, ◌&&◌, ℕ, ◌+◌, ◌-◌, ◌*◌, leb, eqb, ℤ, pos, neg_ℤ, Some, None}
use Rattle.std.specs.declared.option.Option.{Option}
use Rattle.std.specs.Option.{option_map}
use Rattle.base.specs.Bytes.{Bytes, is_digit}

-- The number that digits write behind those that wrote n: none where it is above `most`, or where another byte stands among them.
unfoldable pub digits : ℕ → ℕ → Bytes → Option ℕ
digits most n [] = Some n
digits most n (b ∷ s) = cond (is_digit b && leb (n * 10 + (b - 48)) most) (digits most (n * 10 + (b - 48)) s) None

-- there is at least one digit
unfoldable pub number : ℕ → Bytes → Option ℕ
number most [] = None
number most (b ∷ s) = digits most 0 (b ∷ s)

-- n seconds before 1970
unfoldable pub below : ℕ → ℤ
below n = neg_ℤ (pos n)

-- both ends of a signed 64-bit count are times
unfoldable pub time : Bytes → Option ℤ
time [] = None
time (b ∷ s) =
    cond (eqb b 45)
    (option_map below (number 9223372036854775808 s))
    (option_map pos (number 9223372036854775807 (b ∷ s)))
