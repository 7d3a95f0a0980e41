-- What judging looks at in an offered file: not its bytes, but its length, its digest and the row of verdicts.
use Rattle.std.specs.Prelude.{◌≡◌, ℕ, Bool, not, List, ℤ, length}
use Rattle.base.specs.Bytes.{Bytes}
use Rattle.sha256.specs.Message.{digest_of}
use Rattle.rules.specs.Records.{File, Image}
use Rattle.rules.specs.State.{Row, FileOffer, Query}
use Rattle.rules.specs.Table.{absent}
use Rattle.rules.specs.Conditions.{image_of}

pub record Measured (o : FileOffer) (row : Row) (size : ℕ) (digest : Bytes) : Type 0 where
  pub row_is : o.row ≡ row
  pub size_is : length o.file ≡ size
  pub digest-is : digest_of o.file ≡ digest

-- what judging looks at in a targets file
pub record Dated (f : File (List Image)) (version : ℕ) (expires : ℤ) : Type 0 where
  pub version-is : f.version ≡ version
  pub expires-is : f.expires ≡ expires

-- what judging looks at in a question: not the file's bytes, but its digest and the path
pub record Queried (q : Query) (digest path : Bytes) : Type 0 where
  pub digest-is : digest_of q.file ≡ digest
  pub path-is : q.path ≡ path

-- whether a targets file lists a path
pub record Lists (g : File (List Image)) (path : Bytes) (listed : Bool) : Type 0 where
  pub listed-is : listed ≡ not (absent (image_of path g.body))
