-- RFC 3629, section 4, as its grammar has it.
use Rattle.std.specs.Prelude.{[], ◌∷◌, ℕ, ◌≤◌}
use Rattle.base.specs.Bytes.{Bytes}

-- UTF8-tail = %x80-BF
abbrev pub Tail : ℕ → Type 0
Tail b = (128 ≤ b) × (b ≤ 191)

-- the first two bytes of UTF8-3
pub data Lead3 : ℕ → ℕ → Type 0 where
  e0 : {b : ℕ} → 160 ≤ b → b ≤ 191 → Lead3 224 b
  e1_ec : {a b : ℕ} → 225 ≤ a → a ≤ 236 → Tail b → Lead3 a b
  ed : {b : ℕ} → 128 ≤ b → b ≤ 159 → Lead3 237 b
  ee_ef : {a b : ℕ} → 238 ≤ a → a ≤ 239 → Tail b → Lead3 a b

-- the first two bytes of UTF8-4
pub data Lead4 : ℕ → ℕ → Type 0 where
  f0 : {b : ℕ} → 144 ≤ b → b ≤ 191 → Lead4 240 b
  f1_f3 : {a b : ℕ} → 241 ≤ a → a ≤ 243 → Tail b → Lead4 a b
  f4 : {b : ℕ} → 128 ≤ b → b ≤ 143 → Lead4 244 b

-- UTF8-octets
pub data Utf8 : Bytes → Type 0 where
  nothing : Utf8 []
  one : {a : ℕ} {t : Bytes} → a ≤ 127 → Utf8 t → Utf8 (a ∷ t)
  two : {a b : ℕ} {t : Bytes} → 194 ≤ a → a ≤ 223 → Tail b → Utf8 t → Utf8 (a ∷ b ∷ t)
  three : {a b c : ℕ} {t : Bytes} → Lead3 a b → Tail c → Utf8 t → Utf8 (a ∷ b ∷ c ∷ t)
  four : {a b c d : ℕ} {t : Bytes} → Lead4 a b → Tail c → Tail d → Utf8 t → Utf8 (a ∷ b ∷ c ∷ d ∷ t)

-- no byte is below 32
abbrev pub From32 : Bytes → Type 0
From32 [] = Unit {0}
From32 (b ∷ t) = (32 ≤ b) × From32 t
