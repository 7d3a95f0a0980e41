-- An entry with no members but "keyid" and "sig".
use Rattle.base.specs.Bytes.{Bytes, bytes}
use Rattle.canonical_json.specs.Json.{Json, str, obj, mnil, mcons}

-- its value: the digits of its keyid, and those of its signature
unfoldable pub plain_entry : Bytes → Bytes → Json
plain_entry keyid sig = obj (mcons (bytes "keyid") (str keyid) (mcons (bytes "sig") (str sig) mnil))

-- its text before the digits of its keyid, between them and those of its signature, and after
abbrev pub opening : Bytes
opening = bytes "{\"keyid\":\""

abbrev pub between : Bytes
between = bytes "\",\"sig\":\""

abbrev pub closing : Bytes
closing = bytes "\"}"
