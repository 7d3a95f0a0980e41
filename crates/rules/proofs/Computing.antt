-- Names for groups of definitions: where one of these unfolds, all of its group does, and cases of it compute.
use Rattle.canonical_json.specs.Options.{bind}
use Rattle.base.specs.Bytes.{same, less}
use Rattle.base.specs.Hex.{digit_of, all_hex, is_hex, undo}
use Rattle.date.specs.Calendar.{fits, has_form, date_of, civil_time, time_of, epoch, second_number, day_number, years_before, first_months, expired, earlier}
use Rattle.canonical_json.specs.Lead.{lead_of}
use Rattle.canonical_json.specs.Json.{put, put_bytes}
use Rattle.canonical_json.specs.Read as reader
use Rattle.canonical_json.specs.Read.{read, kind_of, chars, digits, loop, body, member}
use Rattle.canonical_json.specs.Fields as fields
use Rattle.canonical_json.specs.Fields.{members, items, lookup, field, size, text, truth, keep, decimal, natural, between, number, place_from, place_of}
use Rattle.rules.specs.Take.{must, inside, may, single, sole, each, each_named, word, unhex, hex, date, name_of}
use Rattle.rules.specs.Forms.{is_in, different, entry, entries, envelope, version, known_spec, file_of, key, keys, keyid_of, own_keyids, own_table, role, root, root_keyids, sha256, listed, timestamp, named, names, snapshot, image, images, targets}
use Rattle.rules.specs.Reading.{whole, parsed, judged_text, read_with, keyids_of, opened, read_envelope, known, spoken, in_envelope, read_as, read_root, read_timestamp, read_snapshot, read_targets}
use Rattle.rules.specs.State.{blank, filter, keep_role, keep_root, keep_timestamp, keep_snapshot, keep_targets, kept, root_in, timestamp_in, snapshot_in, targets_in}
use Rattle.rules.specs.Table.{first}
use Rattle.rules.specs.Conditions.{bad_row, other_version, listed_as, targets_entry, stale_snapshot, stale_targets, other_length, other_digest, signed, count, too_few, fallen, lost, within, other_keys, rotated, rotates, rotates_targets, image_of, key_of}
use Rattle.rules.specs.Search.{paths, smaller, compared}
use Rattle.rules.specs.Steps.{install_table, cycle_table, root_table, timestamp_table, snapshot_table, targets_table, find_table, key_table, fault_number, judged, install_answer, answer, refuses, with_start, with_root, with_timestamp, with_snapshot, with_targets, after_root, trusting, what_says, offered, started, trusting_if, accepted, next, root_alone, begun, installed}
use Rattle.rules.specs.Asked.{nothing_found, the_image, in_targets, found, compared_in, unsearched, compared_by, public_of, in_root, public_key, look_of, look, no_entry, nth, the_entry, entry_in, entry_at}

unfoldable pub dates : Unit {0}
unfolding fits has_form date_of civil_time time_of epoch second_number day_number years_before first_months expired earlier
dates = tt

-- the value of a text
unfoldable pub texts : Unit {0}
unfolding same less lead_of read kind_of chars digits loop body member reader.number whole parsed
texts = tt

-- what a file says
unfoldable pub forms : Unit {0}
unfolding dates texts digit_of all_hex is_hex undo put put_bytes members items lookup field size fields.count text truth keep decimal natural between number bind must inside may single sole each each_named word unhex hex date name_of is_in different entry entries place_from place_of envelope version known_spec file_of key keys keyid_of own_keyids own_table role root root_keyids sha256 listed timestamp named names snapshot image images targets judged_text read_with keyids_of opened read_envelope known spoken in_envelope read_as read_root read_timestamp read_snapshot read_targets
forms = tt

-- the refusals of a call, on what a file says
unfoldable pub tables : Unit {0}
unfolding dates same less is_in filter first bad_row other_version listed_as targets_entry stale_snapshot stale_targets other_length other_digest signed count too_few fallen lost within other_keys rotated rotates rotates_targets image_of key_of paths smaller compared install_table cycle_table root_table timestamp_table snapshot_table targets_table find_table key_table with_root
tables = tt

-- a call, and what it gives
unfoldable pub calls : Unit {0}
unfolding forms tables blank keep_role keep_root keep_timestamp keep_snapshot keep_targets kept root_in timestamp_in snapshot_in targets_in fault_number judged install_answer answer refuses with_start with_timestamp with_snapshot with_targets after_root trusting what_says offered started trusting_if accepted next root_alone begun installed nothing_found the_image in_targets found compared_in unsearched compared_by public_of in_root public_key look_of look no_entry nth the_entry entry_in entry_at
calls = tt
