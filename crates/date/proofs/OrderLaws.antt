-- The order of counts.
use mathlib.Core.Path.{◌≡◌, refl, subst, sym, ap}
use mathlib.Core.Bool.{Bool, true, false, not}
use lib.Dec.{T}
use lib.IntN.{ℤ}
use lib.Signed.{lt_z, ◌≤ℤ◌, lt_z_yes, lt_z_no, <ℤ-≤ℤ_trans, clash_ℤ}

pub ≤ℤ_trans : {a b c : ℤ} → a ≤ℤ b → b ≤ℤ c → a ≤ℤ c
≤ℤ_trans {a} {b} {c} h k = go (lt_z c a) refl
  where
    go : (e : Bool) → lt_z c a ≡ e → a ≤ℤ c
    go true e = clash_ℤ (<ℤ-≤ℤ_trans (lt_z_yes (subst T (sym e) tt)) h) k
    go false e = lt_z_no (subst T (sym (ap not e)) tt)
