-- What the answers stand for. Of a targets file its version, its date and the one image of a path are looked at: the others are only
-- read for their form.
use Rattle.std.specs.Prelude.{◌≡◌, Bool, true, List, ℕ, ℤ, drop}
use Rattle.std.specs.Option.{option_map, IfSome}
use Rattle.std.specs.declared.option.Option.{Option}
use Rattle.std.specs.declared.option.Option.TheVariants.{Some}
use Rattle.base.specs.Bytes.{Bytes, bytes}
use Rattle.base.specs.Hex.{is_hex, undo}
use Rattle.canonical_json.specs.Json.{Json}
use Rattle.canonical_json.specs.Read.{raw}
use Rattle.canonical_json.specs.Fields.{number}
use Rattle.lookup.specs.Place.{Reads}
use Rattle.lookup.specs.declared.Spanned.{Spanned}
use Rattle.rules.specs.Limits.{digest_size, max_length}
use Rattle.rules.specs.Take.{◌>>=◌, must}
use Rattle.rules.specs.Records.{Image, File}
use Rattle.rules.specs.Forms.{sha256, image}
use Rattle.rules.specs.Conditions.{image_of}
use Rattle.rules.specs.Search.{paths, compared}
use Rattle.rules.specs.Asked.{Found}
use Rattle.records.specs.View.{view_id}
use Rattle.targets_file.specs.declared.ImageAt.{ImageAt}
use Rattle.targets_file.specs.declared.FoundImage.{FoundImage}
use Rattle.targets_file.specs.declared.Search.{Search}
use Rattle.targets_file.specs.declared.TargetsSeen.{TargetsSeen}

-- ## An image

-- what an image says besides its name: "length and hashes as above, both required"
unfoldable pub description : Json → Option Found
description v =
    must (bytes "length") (number 0 max_length) v >>= λ length.
    must (bytes "hashes") sha256 v >>= λ digest.
    Some (record { length = length; digest = digest })

unfoldable pub described : Bytes → ImageAt → Found
described s r = record { length = r.length; digest = undo (raw (drop r.digest s)) }

-- the same under its name
unfoldable pub image_as : Bytes → Bytes → ImageAt → Image
image_as s path r = record { path = path; length = r.length; digest = undo (raw (drop r.digest s)) }

-- the digits of a digest stand at its place
abbrev pub HexImage : Bytes → ImageAt → Type 0
HexImage s r = is_hex digest_size (raw (drop r.digest s)) ≡ true

-- What a reader promises of the image at p: what it says and where it ends, and that digits stand at its place.
pub record ReadsImage (s : Bytes) (p : ℕ) (r : Option (Spanned ImageAt)) : Type 0 where
  pub reads : Reads (described s) s p description r
  pub digits : IfSome r (λ (x : Spanned ImageAt). HexImage s x.value)

-- the same of an image whose name is read at i
pub record ReadsNamed (s : Bytes) (i p : ℕ) (r : Option (Spanned ImageAt)) : Type 0 where
  pub reads : Reads (image_as s (raw (drop i s))) s p (image (raw (drop i s))) r
  pub digits : IfSome r (λ (x : Spanned ImageAt). HexImage s x.value)

-- ## What a list of images says of a path

pub record Listing : Type 0 where
  pub image : Option Found
  pub compared : ℕ

unfoldable pub found_of : Option Image → Option Found
found_of o = o >>= λ i. Some (record { length = i.length; digest = i.digest })

-- the length and digest of its image, where it is listed, and the number of names compared
unfoldable pub listing : Bytes → List Image → Listing
listing path is = record { image = found_of (image_of path is); compared = compared path (paths is) }

-- the same of a form of such a list
unfoldable pub listing_in : Bytes → (Json → Option (List Image)) → Json → Option Listing
listing_in path form v = form v >>= λ is. Some (listing path is)

-- what the search says so far
pub record Sought : Type 0 where
  pub over : Bool
  pub compared : ℕ
  pub image : Option Found

unfoldable pub view_found : FoundImage → Found
view_found f = record { length = f.length; digest = view_id f.digest }

unfoldable pub view_search : Search → Sought
view_search r = record { over = r.over; compared = r.compared; image = option_map view_found r.found }

-- o is the image, where the digits of a digest stand at its place
abbrev pub FindsImage : Bytes → ImageAt → Option FoundImage → Type 0
FindsImage s r o = HexImage s r → option_map view_found o ≡ Some (described s r)

-- and what it says in the end
unfoldable pub listed : Sought → Listing
listed r = record { image = r.image; compared = r.compared }

unfoldable pub view_listing : Search → Listing
view_listing r = listed (view_search r)

-- ## The file

pub record Seen : Type 0 where
  pub version : ℕ
  pub expires : ℤ
  pub listing : Listing

unfoldable pub seen : Bytes → File (List Image) → Seen
seen path f = record { version = f.version; expires = f.expires; listing = listing path f.body }

unfoldable pub view_seen : TargetsSeen → Seen
view_seen r = record { version = r.version; expires = r.expires.seconds; listing = view_listing r.search }
