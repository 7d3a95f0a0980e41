-- The value of the one member of an object.
use Rattle.std.specs.declared.option.Option.{Option}
use Rattle.base.specs.Bytes.{Bytes}
use Rattle.canonical_json.specs.Json.{Json}
use Rattle.canonical_json.specs.Fields.{members}
use Rattle.rules.specs.Take.{◌>>=◌, single}

-- the value of the one member, which has that name
unfoldable pub only : Bytes → Json → Option Json
only k v = members v >>= single k
