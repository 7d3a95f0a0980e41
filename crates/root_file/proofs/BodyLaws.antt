-- The four roles and the root's body, step by step.
use mathlib.Core.Path.{◌≡◌, refl, sym, ap, ◌∙◌}
use Rattle.std.specs.declared.option.Option.{Option}
use Rattle.std.specs.declared.option.Option.TheVariants.{None, Some}
use Rattle.std.specs.Option.{is_some}
use Rattle.std.specs.Prelude.{MatchOption}
use Rattle.canonical_json.specs.Options.{bind}
use mathlib.Core.Bool.{Bool, false}
use mathlib.Core.List.{List}
use Prim.Native.Nat.{ℕ}
use lib.ListN.{drop}
use Rattle.base.specs.Bytes.{Bytes, bytes}
use Rattle.canonical_json.specs.Json.{Json}
use Rattle.canonical_json.specs.Fields.{truth, field, keep}
use Rattle.lookup.specs.Place.{Takes}
use Rattle.lookup.specs.Leaves.{truth_in}
use Rattle.lookup.proofs.TruthLaws.{truth_takes}
use Rattle.rules.specs.Take.{◌>>=◌, must}
use Rattle.rules.specs.Records.{Key, Role, Root}
use Rattle.rules.specs.Forms as forms
use Rattle.rules.specs.Forms.{role, root}
use Rattle.rules.specs.State.{keep_role}
use Rattle.forms.specs.Member.{TakesMust}
use Rattle.forms.proofs.StepLaws.{stop, on, must-lacks, must-holds}
use Rattle.root_file.specs.Body.{keyids_in, role_kept, Roles, roles_kept, keep_body, root_kept, is_truth}

-- ## true or false

truth_is : (s : Bytes) (p : ℕ) (o : Option Bool) → o ≡ truth_in (drop p s) → Takes s p is_truth (keep (is_some o) tt)
unfolding is_truth keep
truth_is s p None e v h = sym (stop _ (sym (truth_takes s p None e v h)))
truth_is s p (Some b) e v h = sym (on _ (sym (truth_takes s p (Some b) e v h)))

pub snapshot_rule : (s : Bytes) (found : Option ℕ) (b : Bool) → MatchOption found (b ≡ false) (λ x. b ≡ is_some (truth_in (drop x s))) → TakesMust s found is_truth (keep b tt)
unfolding keep
snapshot_rule s None b m = rw m (must-lacks s is_truth None refl None refl)
snapshot_rule s (Some x) b m = rw m (must-holds s is_truth (Some x) x refl _ (truth_is s x _ refl))

-- ## The four roles

module _ (keys : List Key) (v : Json) where
  pub no_root-role : None ≡ must (bytes "root") (role_kept keys) v → None ≡ roles_kept keys v
  unfolding roles_kept bind
  no_root-role e = rw (← e)

  module _ (r : Role) (e : Some r ≡ must (bytes "root") (role_kept keys) v) where
    pub no-timestamp_role : None ≡ must (bytes "timestamp") (role_kept keys) v → None ≡ roles_kept keys v
    unfolding roles_kept bind
    no-timestamp_role f = rw (← e, ← f)

    module _ (t : Role) (f : Some t ≡ must (bytes "timestamp") (role_kept keys) v) where
      pub no-snapshot_role : None ≡ must (bytes "snapshot") (role_kept keys) v → None ≡ roles_kept keys v
      unfolding roles_kept bind
      no-snapshot_role g = rw (← e, ← f, ← g)

      module _ (n : Role) (g : Some n ≡ must (bytes "snapshot") (role_kept keys) v) where
        pub no-targets_role : None ≡ must (bytes "targets") (role_kept keys) v → None ≡ roles_kept keys v
        unfolding roles_kept bind
        no-targets_role h = rw (← e, ← f, ← g, ← h)

        pub roles_are : (m : Role) → Some m ≡ must (bytes "targets") (role_kept keys) v
            → Some (record { root_role = r; timestamp_role = t; snapshot_role = n; targets_role = m }) ≡ roles_kept keys v
        unfolding roles_kept bind
        roles_are m h = rw (← e, ← f, ← g, ← h)

-- ## The body

-- a role of the file, as it is kept
role-then : (keys : List Key) (name : Bytes) (v : Json) → must name (role_kept keys) v ≡ (must name (role (keyids_in keys)) v >>= λ r. Some (keep_role keys r))
unfolding must role_kept bind
role-then keys name v = go (field name v)
  where
    go : (o : Option Json) → (o >>= λ w. role (keyids_in keys) w >>= λ r. Some (keep_role keys r)) ≡ ((o >>= role (keyids_in keys)) >>= λ r. Some (keep_role keys r))
    go None = refl
    go (Some w) = refl

abbrev kept : List Key → Role → Option Role
kept keys r = Some (keep_role keys r)

roles-then : (keys : List Key) (v : Json) → roles_kept keys v ≡
    ((must (bytes "root") (role (keyids_in keys)) v >>= kept keys) >>= λ root_role.
    (must (bytes "timestamp") (role (keyids_in keys)) v >>= kept keys) >>= λ timestamp_role.
    (must (bytes "snapshot") (role (keyids_in keys)) v >>= kept keys) >>= λ snapshot_role.
    (must (bytes "targets") (role (keyids_in keys)) v >>= kept keys) >>= λ targets_role.
    Some (record { root_role = root_role; timestamp_role = timestamp_role; snapshot_role = snapshot_role; targets_role = targets_role }))
unfolding roles_kept
roles-then keys v =
    simp (role-then keys (bytes "root") v, role-then keys (bytes "timestamp") v, role-then keys (bytes "snapshot") v, role-then keys (bytes "targets") v)

-- the four roles of a root that was read, as they are kept
four : (consistent : Bool) (keys : List Key) (a b c d : Option Role) →
    ((a >>= λ a. b >>= λ b. c >>= λ c. d >>= λ d.
    Some (record { consistent_snapshot = consistent; keys = keys; root_role = a; timestamp_role = b; snapshot_role = c; targets_role = d }))
    >>= λ r. Some (keep_body r))
    ≡ (((a >>= kept keys) >>= λ a. (b >>= kept keys) >>= λ b. (c >>= kept keys) >>= λ c. (d >>= kept keys) >>= λ d.
    Some (record { root_role = a; timestamp_role = b; snapshot_role = c; targets_role = d })) >>= λ roles. Some (record { keys = keys; roles = roles }))
unfolding bind keep_body
four consistent keys None b c d = refl
four consistent keys (Some a) None c d = refl
four consistent keys (Some a) (Some b) None d = refl
four consistent keys (Some a) (Some b) (Some c) None = refl
four consistent keys (Some a) (Some b) (Some c) (Some d) = refl

-- what follows "consistent_snapshot" in `root`
rest : Json → Bool → Option Root
rest v consistent =
    must (bytes "keys") forms.keys v >>= λ keys.
    field (bytes "roles") v >>= λ roles.
    must (bytes "root") (role (keyids_in keys)) roles >>= λ a.
    must (bytes "timestamp") (role (keyids_in keys)) roles >>= λ b.
    must (bytes "snapshot") (role (keyids_in keys)) roles >>= λ c.
    must (bytes "targets") (role (keyids_in keys)) roles >>= λ d.
    Some (record { consistent_snapshot = consistent; keys = keys; root_role = a; timestamp_role = b; snapshot_role = c; targets_role = d })

rest-by : (v : Json) (consistent : Bool) → (rest v consistent >>= λ r. Some (keep_body r)) ≡
    (must (bytes "keys") forms.keys v >>= λ keys. must (bytes "roles") (roles_kept keys) v >>= λ roles. Some (record { keys = keys; roles = roles }))
unfolding rest must bind
rest-by v consistent = table (must (bytes "keys") forms.keys v)
  where
    inner : (keys : List Key) → Json → Option Root
    inner keys roles =
        must (bytes "root") (role (keyids_in keys)) roles >>= λ a.
        must (bytes "timestamp") (role (keyids_in keys)) roles >>= λ b.
        must (bytes "snapshot") (role (keyids_in keys)) roles >>= λ c.
        must (bytes "targets") (role (keyids_in keys)) roles >>= λ d.
        Some (record { consistent_snapshot = consistent; keys = keys; root_role = a; timestamp_role = b; snapshot_role = c; targets_role = d })

    body : (keys : List Key) (o : Option Json) → ((o >>= inner keys) >>= λ r. Some (keep_body r)) ≡ ((o >>= roles_kept keys) >>= λ roles. Some (record { keys = keys; roles = roles }))
    body keys None = refl
    body keys (Some w) =
        four consistent keys (must (bytes "root") (role (keyids_in keys)) w) (must (bytes "timestamp") (role (keyids_in keys)) w)
        (must (bytes "snapshot") (role (keyids_in keys)) w) (must (bytes "targets") (role (keyids_in keys)) w)
        ∙ ap (λ (o : Option Roles). o >>= λ roles. Some (record { keys = keys; roles = roles })) (sym (roles-then keys w))

    table : (o : Option (List Key)) → ((o >>= λ keys. field (bytes "roles") v >>= inner keys) >>= λ r. Some (keep_body r))
        ≡ (o >>= λ keys. must (bytes "roles") (roles_kept keys) v >>= λ roles. Some (record { keys = keys; roles = roles }))
    table None = refl
    table (Some keys) = body keys (field (bytes "roles") v)

root_by : (v : Json) → root_kept v ≡
    (must (bytes "consistent_snapshot") is_truth v >>= λ _.
    must (bytes "keys") forms.keys v >>= λ keys.
    must (bytes "roles") (roles_kept keys) v >>= λ roles.
    Some (record { keys = keys; roles = roles }))
unfolding root_kept root rest keyids_in is_truth must bind
root_by v = go (field (bytes "consistent_snapshot") v)
  where
    said : (o : Option Bool) → ((o >>= rest v) >>= λ r. Some (keep_body r))
        ≡ ((o >>= λ _. Some (tt {0})) >>= λ _. must (bytes "keys") forms.keys v >>= λ keys. must (bytes "roles") (roles_kept keys) v >>= λ roles. Some (record { keys = keys; roles = roles }))
    said None = refl
    said (Some b) = rest-by v b

    go : (o : Option Json) → (((o >>= truth) >>= rest v) >>= λ r. Some (keep_body r))
        ≡ ((o >>= is_truth) >>= λ _. must (bytes "keys") forms.keys v >>= λ keys. must (bytes "roles") (roles_kept keys) v >>= λ roles. Some (record { keys = keys; roles = roles }))
    go None = refl
    go (Some w) = said (truth w)

module _ (v : Json) where
  pub no_truth : None ≡ must (bytes "consistent_snapshot") is_truth v → None ≡ root_kept v
  unfolding bind
  no_truth e = rw (root_by v, ← e)

  module _ (e : Some tt ≡ must (bytes "consistent_snapshot") is_truth v) where
    pub no_keys : None ≡ must (bytes "keys") forms.keys v → None ≡ root_kept v
    unfolding bind
    no_keys f = rw (root_by v, ← e, ← f)

    module _ (keys : List Key) (f : Some keys ≡ must (bytes "keys") forms.keys v) where
      pub no_roles : None ≡ must (bytes "roles") (roles_kept keys) v → None ≡ root_kept v
      unfolding bind
      no_roles g = rw (root_by v, ← e, ← f, ← g)

      pub body_is : (roles : Roles) → Some roles ≡ must (bytes "roles") (roles_kept keys) v → Some (record { keys = keys; roles = roles }) ≡ root_kept v
      unfolding bind
      body_is roles g = rw (root_by v, ← e, ← f, ← g)
