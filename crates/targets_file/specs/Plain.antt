-- An image with no members but "hashes" and "length", and no hash but "sha256".
use Rattle.std.specs.Prelude.{◌≡◌, true, false, ◌∷◌, ◌++◌, ℕ, ◌<◌, ◌≤◌, length, drop}
use Rattle.std.specs.declared.option.Option.TheVariants.{Some}
use Prim.Native.Char.{code}
use Rattle.base.specs.Bytes.{Bytes, bytes}
use Rattle.canonical_json.specs.Json.{Json, num, str, obj, mnil, mcons, valid_num}
use Rattle.canonical_json.specs.Fields.{number}
use Rattle.rules.specs.Limits.{max_length}

-- its value: the digits of its digest, and those of its length
unfoldable pub plain_image : Bytes → Bytes → Json
plain_image hash written = obj (mcons (bytes "hashes") (obj (mcons (bytes "sha256") (str hash) mnil)) (mcons (bytes "length") (num false written) mnil))

-- its text before the digits of its digest, and between them and those of its length
abbrev pub opening : Bytes
opening = bytes "{\"hashes\":{\"sha256\":\""

abbrev pub between : Bytes
between = bytes "\"},\"length\":"

-- its length n is written at p, and a closing brace after it, just before `past`
pub record PlainLength (s : Bytes) (p n past : ℕ) : Type 0 where
  pub within : (p < past) × (past ≤ length s)
  pub written : Bytes
  pub valid : valid_num false written ≡ true
  pub text : drop p s ≡ written ++ (code "}" ∷ drop past s)
  pub is : Some n ≡ number 0 max_length (num false written)
