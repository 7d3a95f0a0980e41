-- Strings, numbers and truth values at a place of any text: these answers are pinned for every text.
use Rattle.std.specs.Prelude.{◌≡◌, [], ◌∷◌, ◌++◌, Bool, true, false, cond, ℕ, ◌+◌, ◌-◌, ◌*◌, leb, eqb, length, drop}
use Rattle.std.specs.declared.option.Option.{Option}
use Rattle.std.specs.declared.option.Option.TheVariants.{None, Some}
use Prim.Native.Char.{code}
use Rattle.base.specs.Bytes.{Bytes, same, less, is_digit}
use Rattle.canonical_json.specs.Fields.{keep, between}
use Rattle.std.specs.declared.cmp.Ordering.{Ordering}
use Rattle.std.specs.declared.cmp.Ordering.TheVariants.{Less, Equal, Greater}

-- ## Strings

-- where the string begins that stands in front of the text, at place p: just past its opening quote
unfoldable pub string_in : ℕ → Bytes → Option ℕ
string_in p [] = None
string_in p (b ∷ t) = cond (eqb b (code "\"")) (Some (p + 1)) None

-- how a stands to b in the order of names
unfoldable pub order_of : Bytes → Bytes → Ordering
order_of a b = cond (less a b) Less (cond (same a b) Equal Greater)

-- a buffer after the bytes t were copied to its front, where they fit
unfoldable pub copied : Bytes → Bytes → Bytes
copied t buffer = cond (leb (length t) (length buffer)) (t ++ drop (length t) buffer) buffer

-- t was copied to the front of a buffer that was `before`, or does not fit
pub record Copies (t before : Bytes) (done : Bool) (after : Bytes) : Type 0 where
  pub fits : done ≡ leb (length t) (length before)
  pub is : after ≡ copied t before

-- ## Numbers

-- the number that the digits in front write, n before them
unfoldable pub leading : ℕ → Bytes → ℕ
leading n [] = n
leading n (b ∷ t) = cond (is_digit b) (leading (n * 10 + (b - 48)) t) n

-- the same up to hi
unfoldable pub leading_to : ℕ → Bytes → Option ℕ
leading_to hi t = keep (leb (leading 0 t) hi) (leading 0 t)

-- a number from lo to hi in front of the text
unfoldable pub number_in : ℕ → ℕ → Bytes → Option ℕ
number_in lo hi [] = None
number_in lo hi (b ∷ t) = cond (is_digit b) (between lo hi (leading 0 (b ∷ t))) None

-- ## Truth values

-- true or false, by the first byte
unfoldable pub truth_in : Bytes → Option Bool
truth_in [] = None
truth_in (b ∷ t) = cond (eqb b (code "t")) (Some true) (cond (eqb b (code "f")) (Some false) None)
