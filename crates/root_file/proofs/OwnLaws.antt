-- The keyids of a key table, member by member.
use mathlib.Core.Path.{◌≡◌, refl, ap, ◌∙◌}
use Rattle.std.specs.declared.option.Option.{Option}
use Rattle.std.specs.declared.option.Option.TheVariants.{None, Some}
use Rattle.canonical_json.specs.Options.{bind}
use mathlib.Core.Bool.{Bool, true, false}
use Prim.Native.Nat.{ℕ, ◌-◌}
use lib.ListN.{take, drop}
use Rattle.base.specs.Bytes.{Bytes, same}
use Rattle.base.specs.Hex.{hex_of}
use Rattle.sha256.specs.Message.{digest_of}
use Rattle.canonical_json.specs.Json.{Json, Members, mnil, mcons}
use Rattle.canonical_json.specs.Read.{raw}
use Rattle.canonical_json.specs.Fields.{members, field}
use Rattle.lookup.specs.Place.{Stands, Finds, Tests, EndsAt}
use Rattle.lookup.specs.Walk.{MembersLeft, members-at, MembersOf, FirstMember, NextMember}
use Rattle.lookup.specs.declared.Member.{Member}
use Rattle.lookup.specs.declared.Member.TheVariants as member
use Rattle.lookup.proofs.StandsLaws.{text-to, end-found, end_is}
use Rattle.lookup.proofs.MemberLaws.{member-stands, member-name}
use Rattle.rules.specs.Take.{must}
use Rattle.root_file.specs.Keyids.{TestsTable}
use Rattle.std.specs.Prelude.{MatchOption}
use Rattle.rules.specs.Forms.{keyid_of, own_keyids, own_table}

-- ## One key

-- the test of the member whose name begins at i
abbrev pub own : Bytes → ℕ → Json → Bool
own s i v = same (raw (drop i s)) (keyid_of v)

module _ (s : Bytes) (i j : ℕ) where
  pub endless : (r : Bool) → EndsAt s j None → Tests s j (own s i) r
  endless r w v h = absurd (end-found s j v h w refl)

  -- by the digest of what stands from its place to its end
  pub by-digest : (e : ℕ) (r : Bool) → r ≡ same (raw (drop i s)) (hex_of (digest_of (take (e - j) (drop j s)))) → EndsAt s j (Some e) → Tests s j (own s i) r
  unfolding keyid_of
  by-digest e r q w v h = q ∙ ap (λ (t : Bytes). same (raw (drop i s)) (hex_of (digest_of t))) (text-to s j v h e (end_is s j v h w e refl))

-- ## The table

-- the members that are left decide the whole; or there is no table
pub data OwnLeft (s : Bytes) (all : Bool) : Member → Type 0 where
  no-table : true ≡ all → OwnLeft s all member.NoObject
  left : {rest : Bytes} {m : Member} (ms : Members) → MembersLeft s rest m ms → own_keyids ms ≡ all → OwnLeft s all m

pub own_first : (s : Bytes) (p : ℕ) (r : Member) → FirstMember s p r → (v : Json) → Stands s p v → OwnLeft s (own_table (members v)) r
unfolding own_table
own_first s p r w v h = go (members v) (w.means v h)
  where
    go : (o : Option Members) → MembersOf s h.rest r o → OwnLeft s (own_table o) r
    go None q = rw q (no-table refl)
    go (Some ms) l = left ms l refl

module _ {s : Bytes} {all : Bool} where
  -- where no member is left
  pub own-over : {m : Member} → ((i j : ℕ) → m ≡ member.At i j → ⊥) → OwnLeft s all m → true ≡ all
  unfolding own_keyids
  own-over f (no-table e) = e
  own-over f (left mnil l q) = q
  own-over f (left (mcons _ _ _) (members-at {i = i} {j = j} _ _ _) q) = absurd (f i j refl)

  module _ {i j : ℕ} (b : Bool) (t : Tests s j (own s i) b) where
    pub own-not : b ≡ false → OwnLeft s all (member.At i j) → false ≡ all
    unfolding own_keyids
    own-not e (left mnil l q) = elim l [ ]
    own-not e (left (mcons n v ms) l q) = rw (← member-name l, ← t v (member-stands l), e) at q

    pub own-next : b ≡ true → (r : Member) → NextMember s j r → OwnLeft s all (member.At i j) → OwnLeft s all r
    unfolding own_keyids
    own-next e r w (left mnil l q) = elim l [ ]
    own-next e r w (left (mcons n v ms) l q) = left ms (w.means i n v ms l) (rw (← member-name l, ← t v (member-stands l), e) at q)

-- ## The table of a member

module _ (s : Bytes) (p : ℕ) (k : Bytes) (found : Option ℕ) (w : Finds s p (field k) found) where
  pub table_none : found ≡ None → Tests s p (λ v. own_table (must k members v)) true
  unfolding must own_table bind
  table_none q v h = let z : field k v ≡ None = rw q at (w v h) in rw z

  pub table_at : (x : ℕ) (r : Bool) → found ≡ Some x → Tests s x (λ v. own_table (members v)) r → Tests s p (λ v. own_table (must k members v)) r
  unfolding must bind
  table_at x r q t v h =
      let z : (u : Json) × (field k v ≡ Some u) × Stands s x u = rw q at (w v h) in
      rw z.1 (t z.0 z.2)

pub table_found : (s : Bytes) (found : Option ℕ) (b : Bool) → MatchOption found (b ≡ true) (λ x. Tests s x (λ v. own_table (members v)) b) → TestsTable s found b
table_found s None b m p k w = rw m (table_none s p k None w refl)
table_found s (Some x) b m p k w = table_at s p k (Some x) w x b refl m
