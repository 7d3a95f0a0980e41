-- A root file whose body is kept as it is read: the same as one that is read and then kept.
use mathlib.Core.Path.{◌≡◌}
use Rattle.base.specs.Bytes.{Bytes, bytes}
use Rattle.rules.specs.Records.{File}
use Rattle.rules.specs.Forms.{root, root_keyids}
use Rattle.rules.specs.Reading.{read_as, read_root}
use Rattle.rules.specs.State as state
use Rattle.rules.specs.State.{kept, keep_root, root_in}
use Rattle.envelope.proofs.BodyLaws.{read-then}
use Rattle.root_file.specs.Body.{Body, keep_body, root_kept}

-- what is kept of a root whose body is kept already
unfoldable pub keep_file : File Body → state.Root
keep_file f =
    record {
      version = f.version;
      expires = f.expires;
      keys = f.body.keys;
      root_role = f.body.roles.root_role;
      timestamp_role = f.body.roles.timestamp_role;
      snapshot_role = f.body.roles.snapshot_role;
      targets_role = f.body.roles.targets_role;
    }

pub root_by-body : (file : Bytes) → root_in file ≡ kept keep_file (read_as (bytes "root") root_kept root_keyids file)
unfolding root_in read_root keep_root keep_file keep_body root_kept
root_by-body file = read-then (bytes "root") root root_keyids keep_body keep_file file
