-- `nth_element` meets its contract. The invariant: the element sought is among those that are left, past as many as the turns that are left.
use Prim.Native.Nat.{◌-◌}
use Rattle.canonical_json.specs.Json.{Json}
use Rattle.lookup.specs.Place.{Stands}
use Rattle.inspect.specs.Elements.{element_at}
use Rattle.inspect.proofs.ElementLaws.{NthLeft}
use Rattle.inspect.proofs.nth_element.Given as goal

abbrev pub invariant-loop : goal.invariant-loop
invariant-loop l = (v : Json) → Stands l.s l.at v → NthLeft l.s l.e (l.place - l.counter) (element_at l.place v)
