-- `lost`: the held names from here on decide, and for the one here the new names from here on.
use Rattle.std.proofs.Common.{◌≡◌, false, map, drop}
use Rattle.rules.specs.Conditions.{listed_as, lost as lost_of}
use Rattle.records.specs.View.{view_name, view_named, view_names}
use Rattle.names.proofs.lost.Given as goal

abbrev pub invariant-loop-now : goal.invariant-loop-now
invariant-loop-now l =
    (l.lost ≡ false) × (listed_as (view_name l.old.name) (view_names l.fn.new) ≡ listed_as (view_name l.old.name) (map view_named (drop l.now-index l.now-items)))

abbrev pub invariant-held : goal.invariant-held
invariant-held l =
    (l.lost ≡ false) × (lost_of (view_names l.fn.held) (view_names l.fn.new) ≡ lost_of (map view_named (drop l.old-index l.old-items)) (view_names l.fn.new))
