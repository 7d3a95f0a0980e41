-- An object, by its first member.
use mathlib.Core.Path.{◌≡◌, refl}
use Rattle.std.specs.declared.option.Option.{Option}
use Rattle.std.specs.declared.option.Option.TheVariants.{None, Some}
use Rattle.canonical_json.specs.Options.{bind}
use Prim.Native.Nat.{ℕ}
use native.Mathlib.Omega.{arith}
use Rattle.base.specs.Bytes.{Bytes}
use Rattle.canonical_json.specs.Json.{Json, Members}
use Rattle.canonical_json.specs.Fields.{members}
use Rattle.lookup.specs.Place.{Stands}
use Rattle.lookup.specs.Walk.{MembersLeft, members-end, members-at, MembersOf, FirstMember}
use Rattle.lookup.specs.declared.Member.{Member}
use Rattle.lookup.specs.declared.Member.TheVariants.{NoObject}
use Rattle.rules.specs.Take.{◌>>=◌}
use Rattle.envelope.specs.Open.{object}

module _ (s : Bytes) (p : ℕ) (m : Member) (w : FirstMember s p m) (v : Json) (h : Stands s p v) where
  pub not-object : m ≡ NoObject → None ≡ object v
  unfolding object bind
  not-object q = go (members v) (w.means v h)
    where
      left : (x : Member) (ms : Members) → x ≡ NoObject → MembersLeft s h.rest x ms → None ≡ Some (tt {0})
      left x ms q (members-end t) = let z : ◌≡◌ {A = ℕ} 0 1 = cc in absurd (omega arith)
      left x ms q (members-at t u g) = let z : ◌≡◌ {A = ℕ} 0 1 = cc in absurd (omega arith)

      go : (o : Option Members) → MembersOf s h.rest m o → None ≡ (o >>= λ _. Some (tt {0}))
      go None e = refl
      go (Some ms) l = left m ms q l

  pub is-object : (m ≡ NoObject → ⊥) → Some (tt {0}) ≡ object v
  unfolding object bind
  is-object q = go (members v) (w.means v h)
    where
      go : (o : Option Members) → MembersOf s h.rest m o → Some (tt {0}) ≡ (o >>= λ _. Some (tt {0}))
      go None e = absurd (q e)
      go (Some ms) l = refl
