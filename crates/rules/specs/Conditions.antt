-- The conditions of 01's table, as tests, in the order of their numbers.
use Rattle.std.specs.declared.option.Option.{Option}
use Rattle.std.specs.declared.option.Option.TheVariants.{None, Some}
use Rattle.std.specs.Prelude.{Bool, true, false, cond, not, ◌&&◌, ◌||◌, List, [], ◌∷◌, ℕ, ltb, eqb, length}
use Rattle.base.specs.Bytes.{Bytes, bytes, same}
use Rattle.rules.specs.Limits.{digest_size}
use Rattle.rules.specs.Records.{Key, Role, Listed, Named, Image}
use Rattle.rules.specs.Forms.{is_in, all_of}
use Rattle.rules.specs.State.{Root, Snapshot, State, Row, filter}
use Rattle.rules.specs.Table.{of_held}

abbrev pub any : {A : Type 0} → (A → Bool) → List A → Bool
any p [] = false
any p (x ∷ xs) = p x || any p xs

-- ## 5: "a verdict row of another length than the entries, a verdict not 0 or 1, a digest not 32 bytes"

unfoldable pub bad_row : List Bytes → Row → Bool
bad_row entries row = not (eqb (length row) (length entries)) || any (λ v. ltb 1 v) row

unfoldable pub bad_digest : Bytes → Bool
bad_digest d = not (eqb (length d) digest_size)

-- ## 6: "a record the step needs is not held, or not current"

unfoldable pub other_version : ℕ → ℕ → Bool
other_version a b = not (eqb a b)

-- what a list of names says of a name
unfoldable pub listed_as : Bytes → List Named → Option Listed
listed_as name [] = None
listed_as name (n ∷ ns) = cond (same name n.name) (Some n.listed) (listed_as name ns)

-- What a snapshot says of `targets.json`. A well-formed one lists it; for another this is a version that no file has.
unfoldable pub targets_entry : Snapshot → Listed
targets_entry n = or_unlisted (listed_as (bytes "targets.json") n.names)
  where
    or_unlisted : Option Listed → Listed
    or_unlisted None = record { version = 0; length = None; digest = None }
    or_unlisted (Some l) = l

-- "a current snapshot, whose version is the one the held timestamp lists"
unfoldable pub stale_snapshot : State → Bool
stale_snapshot s = of_held s.timestamp (λ t. of_held s.snapshot (λ n. other_version n.version t.snapshot.version))

-- "current targets, whose version is the listed one"
unfoldable pub stale_targets : State → Bool
stale_targets s = of_held s.snapshot (λ n. of_held s.targets (λ g. other_version g.version (targets_entry n).version))

-- ## 7 and 14: `expired` of the crate date

-- ## 8: "length or digest differs from what is listed": "compared where listed"

unfoldable pub other_length : Listed → ℕ → Bool
other_length l n = of_held l.length (λ m. not (eqb n m))

unfoldable pub other_digest : Listed → Bytes → Bool
other_digest l d = of_held l.digest (λ e. not (same d e))

-- ## 9 and 10: "too few different keys"

-- "some entry with its keyid has verdict 1"
unfoldable pub signed : Bytes → List Bytes → Row → Bool
signed k [] row = false
signed k (e ∷ es) [] = false
signed k (e ∷ es) (v ∷ vs) = same k e && eqb v 1 || signed k es vs

-- "A key counts once for a role if that role names it and some entry with its keyid has verdict 1"
unfoldable pub count : Role → List Bytes → Row → ℕ
count role entries row = length (filter (λ k. signed k entries row) role.keyids)

unfoldable pub too_few : Role → List Bytes → Row → Bool
too_few role entries row = ltb (count role entries row) role.threshold

-- ## 13: "a listed version went back, or a name vanished"

unfoldable pub fallen : Named → Option Listed → Bool
fallen n None = true
fallen n (Some l) = ltb l.version n.listed.version

-- not "Every name in the held snapshot is still listed, with a version not lower"
unfoldable pub lost : List Named → List Named → Bool
lost old new = any (λ n. fallen n (listed_as n.name new)) old

-- ## What an accepted root drops

unfoldable pub within : List Bytes → List Bytes → Bool
within as' bs = all_of (λ a. is_in a bs) as'

-- its "set of keyids .. differs"
unfoldable pub other_keys : Role → Role → Bool
other_keys old new = not (within old.keyids new.keyids && within new.keyids old.keyids)

-- A5: "a role is rotated when its set of keyids or its threshold differs"
unfoldable pub rotated : Role → Role → Bool
rotated old new = other_keys old new || not (eqb old.threshold new.threshold)

-- "Timestamp or snapshot keys are rotated": "then timestamp and snapshot records are dropped, and by house rule targets too"
unfoldable pub rotates : Root → Root → Bool
rotates old new = rotated old.timestamp_role new.timestamp_role || rotated old.snapshot_role new.snapshot_role

-- "If only the targets set differs, the targets record alone is dropped", and by A5 if only its threshold does
unfoldable pub rotates_targets : Root → Root → Bool
rotates_targets old new = rotates old new || rotated old.targets_role new.targets_role

-- ## 15: "not listed"

unfoldable pub image_of : Bytes → List Image → Option Image
image_of path [] = None
image_of path (i ∷ is) = cond (same path i.path) (Some i) (image_of path is)

unfoldable pub key_of : Bytes → List Key → Option Key
key_of k [] = None
key_of k (x ∷ xs) = cond (same k x.keyid) (Some x) (key_of k xs)
