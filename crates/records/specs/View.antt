-- What each struct stands for in the paper's records. Every value of every field stands for something: a count above an array's size
-- stands for that size.
use Rattle.std.specs.Prelude.{Bool, false, cond, List, [], ◌∷◌, ℕ, suc, ◌/◌, ◌%◌, ◌^◌, min, eqb, get_or}
use Rattle.base.specs.Bytes.{Bytes}
use Rattle.base.specs.Window.{run, window}
use Rattle.canonical_json.specs.Fields.{keep}
use Rattle.rules.specs.Limits.{max_entries, max_keys, max_names, max_name, key_size}
use Rattle.rules.specs.Records as rules
use Rattle.rules.specs.State as state
use Rattle.records.specs.declared.Id.{Id}
use Rattle.records.specs.declared.Entries.{Entries}
use Rattle.records.specs.declared.Key.{Key}
use Rattle.records.specs.declared.KeyTable.{KeyTable}
use Rattle.records.specs.declared.Role.{Role}
use Rattle.records.specs.declared.Root.{Root}
use Rattle.records.specs.declared.Listed.{Listed}
use Rattle.records.specs.declared.Timestamp.{Timestamp}
use Rattle.records.specs.declared.Name.{Name}
use Rattle.records.specs.declared.Named.{Named}
use Rattle.records.specs.declared.Names.{Names}
use Rattle.records.specs.declared.Snapshot.{Snapshot}
use Rattle.records.specs.declared.Targets.{Targets}

-- the first n values of an array, at most `most`
unfoldable pub firsts : {A : Type 0} → (ℕ → A) → ℕ → ℕ → List A
firsts f n most = run f 0 (min n most)

-- ## Keys

unfoldable pub view_id : Id → Bytes
view_id i = window i.bytes 0 key_size

-- what an index past an array's end gives in the logic; no index of a view is
abbrev pub no_id : Id
no_id = record { bytes = [] }

unfoldable pub view_entries : Entries → List Bytes
view_entries e = firsts (λ i. view_id (get_or e.ids i no_id)) e.count max_entries

abbrev pub no_key : Key
no_key = record { keyid = no_id; public = no_id }

unfoldable pub key_at : KeyTable → ℕ → Key
key_at t i = get_or t.keys i no_key

unfoldable pub view_key : Key → rules.Key
view_key k = record { keyid = view_id k.keyid; public = view_id k.public }

unfoldable pub view_table : KeyTable → List rules.Key
view_table t = firsts (λ i. view_key (key_at t i)) t.count max_keys

-- bit i is set
unfoldable pub has : ℕ → ℕ → Bool
has bits i = eqb (bits / 2 ^ i % 2) 1

-- the keyids of the table, in its order, whose bits are set; i is the place of the first
unfoldable pub pick : ℕ → ℕ → List rules.Key → List Bytes
pick bits i [] = []
pick bits i (k ∷ ks) = cond (has bits i) (k.keyid ∷ pick bits (suc i) ks) (pick bits (suc i) ks)

unfoldable pub view_role : KeyTable → Role → rules.Role
view_role t r = record { keyids = pick r.keys 0 (view_table t); threshold = r.threshold }

unfoldable pub view_root : Root → state.Root
view_root r =
    record {
      version = r.version;
      expires = r.expires.seconds;
      keys = view_table r.table;
      root_role = view_role r.table r.root;
      timestamp_role = view_role r.table r.timestamp;
      snapshot_role = view_role r.table r.snapshot;
      targets_role = view_role r.table r.targets;
    }

-- ## Listed files

unfoldable pub view_listed : Listed → rules.Listed
view_listed l =
    record { version = l.version; length = keep l.measured l.length; digest = keep l.hashed (view_id l.digest) }

unfoldable pub view_timestamp : Timestamp → state.Timestamp
view_timestamp t = record { version = t.version; expires = t.expires.seconds; snapshot = view_listed t.snapshot }

unfoldable pub view_name : Name → Bytes
view_name n = window n.bytes 0 (min n.length max_name)

unfoldable pub view_named : Named → rules.Named
view_named n = record { name = view_name n.name; listed = view_listed n.listed }

abbrev pub no_named : Named
no_named =
    record {
      name = record { length = 0; bytes = [] };
      listed = record { version = 0; measured = false; length = 0; hashed = false; digest = no_id };
    }

unfoldable pub view_names : Names → List rules.Named
view_names n = firsts (λ i. view_named (get_or n.named i no_named)) n.count max_names

unfoldable pub view_snapshot : Snapshot → state.Snapshot
view_snapshot n = record { version = n.version; expires = n.expires.seconds; names = view_names n.names }

unfoldable pub view_targets : Targets → state.Targets
view_targets g = record { version = g.version; expires = g.expires.seconds; digest = view_id g.digest }
