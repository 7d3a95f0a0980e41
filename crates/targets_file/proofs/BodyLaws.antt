-- A targets file of which only the image of a path is looked at: the same as one that is read and then looked into.
use mathlib.Core.Path.{◌≡◌}
use Rattle.base.specs.Bytes.{Bytes, bytes}
use Rattle.rules.specs.Records.{File}
use Rattle.rules.specs.Forms.{targets}
use Rattle.rules.specs.Reading.{no_table, read_as, read_targets}
use Rattle.rules.specs.State.{kept, targets_in}
use Rattle.envelope.proofs.BodyLaws.{read-then}
use Rattle.targets_file.specs.View.{Listing, listing, listing_in, Seen, seen}

-- of a file whose body is what its images say of the path
unfoldable pub as_seen : File Listing → Seen
as_seen x = record { version = x.version; expires = x.expires; listing = x.body }

pub seen_in : (path file : Bytes) → kept (seen path) (targets_in file) ≡ kept as_seen (read_as (bytes "targets") (listing_in path targets) no_table file)
unfolding listing_in targets_in read_targets as_seen seen
seen_in path file = read-then (bytes "targets") targets no_table (listing path) as_seen file
