-- What the values stand for that are read.
use Rattle.std.specs.Prelude.{List, map}
use Rattle.base.specs.Bytes.{Bytes}
use Rattle.lookup.specs.Place.{KnownEnd}
use Rattle.records.specs.declared.Key.{Key}
use Rattle.records.specs.declared.KeyTable.{KeyTable}
use Rattle.records.specs.View.{view_id, view_table, view_role, pick}
use Rattle.root_file.specs.Body as kept
use Rattle.root_file.specs.declared.Naming.{Naming}
use Rattle.root_file.specs.declared.Roles.{Roles}
use Rattle.root_file.specs.declared.Body.{Body}

-- the public values of keys
unfoldable pub publics : List Key → List Bytes
publics ks = map (λ (k : Key). view_id k.public) ks

unfoldable pub view_naming : KeyTable → Naming → kept.Naming
view_naming t r = record { keyids = pick r.keys 0 (view_table t); number = r.count }

unfoldable pub view_roles : KeyTable → Roles → kept.Roles
view_roles t r =
    record {
      root_role = view_role t r.root;
      timestamp_role = view_role t r.timestamp;
      snapshot_role = view_role t r.snapshot;
      targets_role = view_role t r.targets;
    }

unfoldable pub view_body : Body → kept.Body
view_body r = record { keys = view_table r.table; roles = view_roles r.table r.roles }

-- what is known of the end of a body's roles is true
abbrev pub RolesEnd : Bytes → Body → Type 0
RolesEnd s r = KnownEnd s r.extent.at r.extent.end
