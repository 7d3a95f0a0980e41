-- `any_named`: the named keyids from place j on decide.
use Rattle.std.proofs.Common.{◌≡◌, Bool, map, drop}
use Rattle.base.specs.Bytes.{Bytes}
use Rattle.rules.specs.Conditions.{any}
use Rattle.records.specs.declared.Id.{Id}
use Rattle.records.specs.View.{view_id, view_key, view_role, pick}
use Rattle.keys.proofs.any_named.Given as goal

abbrev pub invariant-loop-j : goal.invariant-loop-j
invariant-loop-j g l =
    (p : Bytes → Bool) → ((k : Id) (r : Bool) → goal.F-post g l.test k r → r ≡ p (view_id k)) → any p (view_role l.table l.role).keyids ≡ any p (pick l.role.keys l.j (map view_key (drop l.j l.key-items)))
