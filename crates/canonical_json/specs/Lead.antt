-- UTF-8 as a reader sorts it: what a lead byte asks of the bytes after it, and no byte below 32.
-- The meaning is specs/Rfc3629; proofs/Rfc shows that `wf` accepts the strings of its grammar (of-rfc) and no others (to-rfc).
use Rattle.std.specs.Prelude.{List, [], ◌∷◌, Bool, true, false, cond, ◌&&◌, ℕ, zero, suc, leb}
use Rattle.base.specs.Bytes.{Bytes}
use Rattle.std.specs.declared.option.Option.{Option}
use Rattle.canonical_json.specs.declared.Sequence.{Sequence}
use Rattle.std.specs.declared.option.Option.TheVariants.{None, Some}

-- a lead byte that `more` bytes follow, the first of them from lo to hi
abbrev pub seq : ℕ → ℕ → ℕ → Option Sequence
seq more lo hi = Some (record { more = more; lo = lo; hi = hi })

-- lead bytes up to `upto` (and above the row before) begin a character as `start` says
pub record Row : Type 0 where
  pub upto : ℕ
  pub start : Option Sequence

abbrev pub look : List Row → ℕ → Option Sequence
look [] b = None
look (r ∷ rs) b = cond (leb b r.upto) r.start (look rs b)

abbrev pub row : ℕ → Option Sequence → Row
row k x = record { upto = k; start = x }

-- RFC 3629, section 4; no byte below 32
abbrev pub table : List Row
table =
    row 31 None
    ∷ row 127 (seq 0 0 0)
    ∷ row 193 None
    ∷ row 223 (seq 1 128 191)
    ∷ row 224 (seq 2 160 191)
    ∷ row 236 (seq 2 128 191)
    ∷ row 237 (seq 2 128 159)
    ∷ row 239 (seq 2 128 191)
    ∷ row 240 (seq 3 144 191)
    ∷ row 243 (seq 3 128 191)
    ∷ row 244 (seq 3 128 143)
    ∷ []

-- how many bytes follow a lead byte, and the range of the first of them
unfoldable pub lead_of : ℕ → Option Sequence
lead_of b = look table b

abbrev pub within : ℕ → ℕ → ℕ → Bool
within lo hi b = leb lo b && leb b hi

abbrev pub well_led : Option Sequence → (ℕ → ℕ → ℕ → Bool) → Bool
well_led None k = false
well_led (Some l) k = k l.more l.lo l.hi

-- the bytes are well formed, where `more` bytes of a character are still to come, the first of them from lo to hi
unfoldable pub wf : Bytes → ℕ → ℕ → ℕ → Bool
wf [] zero lo hi = true
wf [] (suc m) lo hi = false
wf (b ∷ t) zero lo hi = well_led (lead_of b) (λ m l h. wf t m l h)
wf (b ∷ t) (suc m) lo hi = within lo hi b && wf t m 128 191
