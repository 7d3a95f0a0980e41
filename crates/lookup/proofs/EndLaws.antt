-- Where an array or an object ends: a walk over its elements or members comes to its end.
use mathlib.Core.Path.{◌≡◌, ap}
use Rattle.std.specs.declared.option.Option.{Option}
use Rattle.std.specs.declared.option.Option.TheVariants.{None, Some}
use Prim.Native.Nat.{ℕ, ◌≤◌, ◌<◌, ◌-◌}
use native.Mathlib.Omega.{arith}
use lib.ListN.{length, drop, length-drop}
use Rattle.base.specs.Bytes.{Bytes}
use Rattle.canonical_json.specs.Json.{Json, Items, icons, Members, mcons}
use Rattle.canonical_json.specs.Fields.{items, members}
use Rattle.lookup.specs.Place.{Stands, EndsAt}
use Rattle.lookup.specs.Walk.{ItemsLeft, items-end, items_at, ItemsOf, ElementAfter, FirstElement, NextElement, MembersLeft, members-end, members-at, MembersOf, MemberAfter, FirstMember, NextMember}
use Rattle.lookup.specs.declared.Element.{Element}
use Rattle.lookup.specs.declared.Element.TheVariants as element
use Rattle.lookup.specs.declared.Member.{Member}
use Rattle.lookup.specs.declared.Member.TheVariants as member
use Rattle.lookup.proofs.ItemLaws.{element-after}
use Rattle.lookup.proofs.MemberLaws.{member-after, after-later}

-- a place before which the value at p ends
ends-before : (s : Bytes) (p e : ℕ) → (p < e) × (e ≤ length s) → ((v : Json) (h : Stands s p v) → drop e s ≡ h.rest) → EndsAt s p (Some e)
ends-before s p e a t =
    record {
      means = λ v h.
          let l = ap length (t v h) in
          let k : e ≡ length s - length h.rest = omega (arith, length-drop e s, a.1) in
          ap Some k;
      onward = a;
    }

-- ## Elements

-- the elements that are left at m, and what follows the array after the last
abbrev LeftItems : Bytes → Bytes → Element → Type 0
LeftItems s rest element.NoArray = Unit {0}
LeftItems s rest (element.End e) = drop e s ≡ rest
LeftItems s rest (element.At i) = (v : Json) × (vs : Items) × ItemsLeft s rest (element.At i) (icons v vs)

left-items : {s rest : Bytes} {m : Element} {vs : Items} → ItemsLeft s rest m vs → LeftItems s rest m
left-items (items-end t) = t
left-items (items_at {v = v} {vs = vs} t g) = (v, vs, items_at t g)

-- a walk over the elements of the array at p has come to m
pub record WalksItems (s : Bytes) (p : ℕ) (m : Element) : Type 0 where
  pub left : (v : Json) (h : Stands s p v) → LeftItems s h.rest m
  pub after : ElementAfter s p m

module _ (s : Bytes) (p : ℕ) (m : Element) where
  pub items-first : FirstElement s p m → WalksItems s p m
  items-first w = record { left = λ v h. go h.rest (items v) (w.means v h); after = w.onward }
    where
      go : (rest : Bytes) (o : Option Items) → ItemsOf s rest m o → LeftItems s rest m
      go rest None q = rw q tt
      go rest (Some vs) l = left-items l

  module _ (w : WalksItems s p m) where
    pub items-next : (i : ℕ) → m ≡ element.At i → (x : Element) → NextElement s i x → WalksItems s p x
    items-next i q x n =
        let a = element-after s p m w.after i q in
        record { left = λ v h. go h.rest (rw q at (w.left v h)); after = later a.0 x n.onward }
      where
        go : (rest : Bytes) → LeftItems s rest (element.At i) → LeftItems s rest x
        go rest l = left-items (n.means l.0 l.1 l.2)

        later : p < i → (x : Element) → ElementAfter s i x → ElementAfter s p x
        later h element.NoArray a = tt
        later h (element.End e) a = let z = a.0 in (omega arith, a.1)
        later h (element.At j) a = let z = a.0 in (omega arith, a.1)

    pub items-over : (e : ℕ) → m ≡ element.End e → EndsAt s p (Some e)
    items-over e q = ends-before s p e (rw q at w.after) (λ v h. rw q at (w.left v h))

-- ## Members

abbrev LeftMembers : Bytes → Bytes → Member → Type 0
LeftMembers s rest member.NoObject = Unit {0}
LeftMembers s rest (member.End e) = drop e s ≡ rest
LeftMembers s rest (member.At i j) = (n : Bytes) × (v : Json) × (ms : Members) × MembersLeft s rest (member.At i j) (mcons n v ms)

left-members : {s rest : Bytes} {m : Member} {ms : Members} → MembersLeft s rest m ms → LeftMembers s rest m
left-members (members-end t) = t
left-members (members-at {n = n} {v = v} {ms = ms} t u g) = (n, v, ms, members-at t u g)

-- a walk over the members of the object at p has come to m
pub record Walks (s : Bytes) (p : ℕ) (m : Member) : Type 0 where
  pub left : (v : Json) (h : Stands s p v) → LeftMembers s h.rest m
  pub after : MemberAfter s p m

module _ (s : Bytes) (p : ℕ) (m : Member) where
  pub walks_first : FirstMember s p m → Walks s p m
  walks_first w = record { left = λ v h. go h.rest (members v) (w.means v h); after = w.onward }
    where
      go : (rest : Bytes) (o : Option Members) → MembersOf s rest m o → LeftMembers s rest m
      go rest None q = rw q tt
      go rest (Some ms) l = left-members l

  module _ (w : Walks s p m) where
    pub walks_next : (i j : ℕ) → m ≡ member.At i j → (x : Member) → NextMember s j x → Walks s p x
    walks_next i j q x n =
        let a = member-after s p m w.after i j q in
        record { left = λ v h. go h.rest (rw q at (w.left v h)); after = after-later s p j (omega (arith, a.0, a.1)) x n.onward }
      where
        go : (rest : Bytes) → LeftMembers s rest (member.At i j) → LeftMembers s rest x
        go rest l = left-members (n.means i l.0 l.1 l.2 l.3)

    pub walks_end : (e : ℕ) → m ≡ member.End e → EndsAt s p (Some e)
    walks_end e q = ends-before s p e (rw q at w.after) (λ v h. rw q at (w.left v h))
