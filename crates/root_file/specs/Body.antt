-- What is kept of a root's body (rules, `root` and `keep_root`), part by part as it is read.
use Rattle.std.specs.declared.option.Option.{Option}
use Rattle.std.specs.declared.option.Option.TheVariants.{Some}
use Rattle.std.specs.Prelude.{List, map, Bool, ◌&&◌, ℕ, length}
use Rattle.base.specs.Bytes.{Bytes, bytes}
use Rattle.canonical_json.specs.Json.{Json}
use Rattle.canonical_json.specs.Fields.{truth, keep}
use Rattle.rules.specs.Limits.{max_keyids, key_size}
use Rattle.rules.specs.Take.{◌>>=◌, must, hex}
use Rattle.rules.specs.Records.{Key, Role, Root}
use Rattle.rules.specs.Forms.{is_in, different, all_of, role, root}
use Rattle.rules.specs.State.{filter, keep_role}
use Rattle.forms.specs.Each.{each_item}

unfoldable pub keyids_in : List Key → List Bytes
keyids_in keys = map (λ (k : Key). k.keyid) keys

-- "1 to 16 different keyids from the key table"
unfoldable pub is_naming : List Key → List Bytes → Bool
is_naming keys ids = different ids && all_of (λ k. is_in k (keyids_in keys)) ids

-- those keyids in the order of the key table, and how many the file has
pub record Naming : Type 0 where
  pub keyids : List Bytes
  pub number : ℕ

unfoldable pub named : List Key → List Bytes → Naming
named keys ids = record { keyids = filter (λ k. is_in k ids) (keyids_in keys); number = length ids }

unfoldable pub naming : List Key → Json → Option Naming
naming keys v =
    each_item 1 max_keyids (hex key_size) v >>= λ ids.
    keep (is_naming keys ids) (named keys ids)

-- a role, as it is kept
unfoldable pub role_kept : List Key → Json → Option Role
role_kept keys v = role (keyids_in keys) v >>= λ r. Some (keep_role keys r)

-- the four roles
pub record Roles : Type 0 where
  pub root_role : Role
  pub timestamp_role : Role
  pub snapshot_role : Role
  pub targets_role : Role

unfoldable pub roles_kept : List Key → Json → Option Roles
roles_kept keys v =
    must (bytes "root") (role_kept keys) v >>= λ root_role.
    must (bytes "timestamp") (role_kept keys) v >>= λ timestamp_role.
    must (bytes "snapshot") (role_kept keys) v >>= λ snapshot_role.
    must (bytes "targets") (role_kept keys) v >>= λ targets_role.
    Some (record { root_role = root_role; timestamp_role = timestamp_role; snapshot_role = snapshot_role; targets_role = targets_role })

pub record Body : Type 0 where
  pub keys : List Key
  pub roles : Roles

unfoldable pub keep_body : Root → Body
keep_body r =
    record {
      keys = r.keys;
      roles = record {
        root_role = keep_role r.keys r.root_role;
        timestamp_role = keep_role r.keys r.timestamp_role;
        snapshot_role = keep_role r.keys r.snapshot_role;
        targets_role = keep_role r.keys r.targets_role;
      };
    }

unfoldable pub root_kept : Json → Option Body
root_kept v = root v >>= λ r. Some (keep_body r)

-- "true or false", whichever
unfoldable pub is_truth : Json → Option (Unit {0})
is_truth v = truth v >>= λ _. Some tt
