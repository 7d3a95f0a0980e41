-- What may stand at a depth may stand where more is left.
use Prim.Native.Nat.{ℕ, zero, suc, ◌+◌}
use native.Mathlib.Nat.{add-zero, add-suc}
use Rattle.base.specs.Bytes.{Bytes}
use Rattle.canonical_json.specs.Json.{Json, jnull, jtrue, jfalse, num, str, arr, obj, Items, inil, icons, Members, mnil, mcons, Valid, ValidItems, ValidMembers, ValidMore}

mutual
  unfolding Valid

  pub deeper : (v : Json) (d : ℕ) → Valid v d → Valid v (suc d)
  deeper jnull d g = tt
  deeper jtrue d g = tt
  deeper jfalse d g = tt
  deeper (num minus ds) d g = g
  deeper (str s) d g = g
  deeper (arr xs) zero g = absurd g
  deeper (arr xs) (suc d) g = deeper-items xs d g
  deeper (obj ms) zero g = absurd g
  deeper (obj ms) (suc d) g = deeper-members ms d g

  pub deeper-items : (xs : Items) (d : ℕ) → ValidItems xs d → ValidItems xs (suc d)
  deeper-items inil d g = tt
  deeper-items (icons v vs) d g = (deeper v d g.0, deeper-items vs d g.1)

  pub deeper-members : (ms : Members) (d : ℕ) → ValidMembers ms d → ValidMembers ms (suc d)
  deeper-members mnil d g = tt
  deeper-members (mcons n v ms) d g = (g.0, deeper v d g.1, deeper-more n ms d g.2)

  pub deeper-more : (p : Bytes) (ms : Members) (d : ℕ) → ValidMore p ms d → ValidMore p ms (suc d)
  deeper-more p mnil d g = tt
  deeper-more p (mcons n v ms) d g = (g.0, g.1, deeper v d g.2, deeper-more n ms d g.3)

pub deeper-by : (v : Json) (d k : ℕ) → Valid v d → Valid v (d + k)
deeper-by v d zero g = rw add-zero g
deeper-by v d (suc k) g = rw add-suc (deeper v (d + k) (deeper-by v d k g))
