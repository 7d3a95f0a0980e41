-- The ways out of `key`: no root, a keyid that is not hex, one that the root does not list, and one that it lists.
use mathlib.Core.Path.{◌≡◌, refl, sym, ap, subst, ◌∙◌}
use mathlib.Core.Bool.{Bool, true, false, cond, not}
use Rattle.std.specs.declared.option.Option.{Option}
use Rattle.std.specs.declared.option.Option.TheVariants.{None, Some}
use Rattle.std.specs.declared.result.Result.{Result}
use Rattle.std.specs.declared.result.Result.TheVariants.{Ok, Err}
use Prim.Native.Nat.{ℕ}
use native.Mathlib.Omega.{arith}
use Rattle.base.specs.Bytes.{Bytes}
use Rattle.base.specs.Hex.{is_hex, undo, undone}
use Rattle.base.proofs.TestLaws.{never}
use Rattle.rules.specs.Limits.{key_size}
use Rattle.rules.specs.State.{Root, ask_key}
use Rattle.rules.specs.Table.{absent}
use Rattle.rules.specs.Take.{unhex}
use Rattle.rules.specs.Conditions.{key_of}
use Rattle.rules.specs.Steps.{key_table, answer}
use Rattle.rules.specs.Exactly.{KeyGood}
use Rattle.rules.specs.Records as rules
use Rattle.rules.specs.Asked.{public_key}
use Rattle.rules.proofs.OptionLaws.{none-not-some, not-absent, some_is, kept-is}
use Rattle.rules.proofs.ExactlyLaws.{good-key, key-given, no_key_lem}
use Rattle.answers.specs.Number.{number_of, refusal_number}
use Rattle.std.specs.Option.{ok_or}
use Rattle.std.specs.Result.{IsErrAnd}
use Rattle.answers.specs.declared.Refusal as answers
use Rattle.answers.specs.declared.Refusal.TheVariants.{NotListed}
use Rattle.answers.proofs.MostLaws.{positive}
use Rattle.records.specs.View.{view_id, view_root}
use Rattle.records.specs.declared.Id.{Id}
use Rattle.keys.specs.Signers.{Asked}
use Rattle.judge.proofs.TableLaws.{hit, skip}
use Rattle.forms.proofs.TextLaws.{unhex-undone, unhex-some, unhex-window}
use Rattle.state.specs.View as state
use Rattle.tuf.specs.View.{view}
use Rattle.tuf.specs.Promises.{DecidesKey, Gives, GivesKey}
use Rattle.tuf.specs.declared.State.{State}
use Rattle.tuf.specs.declared.PublicKey.{PublicKey}

-- the key table of a root that is held is that of the stored one
pub held-keys : (s : State) (k : Bytes) (public : Option Id) → Asked (key_of k (view_root s.trusted.root).keys) public
    → (o : Root) → (view s).root ≡ Some o → Asked (key_of k o.keys) public
unfolding view state.view
held-keys s k public w o e = subst (λ (h : Root). Asked (key_of k h.keys) public) (kept-is _ _ e).1 w

-- what was found of a key that is listed, and of one that is not
there : (o : Option rules.Key) (p : Id) → Asked o (Some p) → (a : rules.Key) × (o ≡ Some a) × (view_id p ≡ a.public)
there None p w = never w
there (Some a) p w = (a, refl, w)

gone : (o : Option rules.Key) → Asked o None → absent o ≡ true
gone None w = refl
gone (Some a) w = absurd w

module _ (self : State) (k : Bytes) where
  -- what tells whether a root is held
  module _ (lacks : Bool) (l : lacks ≡ absent (view self).root) where
    pub key-not-held : lacks ≡ true → answer (view self) (ask_key k) ≡ 6
    unfolding answer key_table
    key-not-held e = sym (hit _ _ _ _ l e)

    -- a root is held
    module _ (h : lacks ≡ false) where
      pub key-not-hex : undone key_size k ≡ None → answer (view self) (ask_key k) ≡ 15
      unfolding answer key_table undone
      key-not-hex e = sym (skip _ _ _ _ _ l h (hit _ _ _ _ refl (ap not (go (is_hex key_size k) e))))
        where
          go : (b : Bool) → cond b (Some (undo k)) None ≡ None → b ≡ false
          go true e = none-not-some (sym e)
          go false e = refl

      -- the keyid is hex, and the root is asked for its key
      module _ (bytes : Bytes) (u : undone key_size k ≡ Some bytes) (public : Option Id)
          (w : (o : Root) → (view self).root ≡ Some o → Asked (key_of (view_id (record { bytes = bytes })) o.keys) public) where
        read : Some bytes ≡ unhex key_size k
        read = sym u ∙ unhex-undone key_size k

        digits : is_hex key_size k ≡ true
        digits = (unhex-some key_size k bytes read).0

        id-is : view_id (record { bytes = bytes }) ≡ undo k
        unfolding view_id
        id-is = some_is (unhex-window key_size k bytes read ∙ sym read) ∙ sym (unhex-some key_size k bytes read).1

        held : (o : Root) × ((view self).root ≡ Some o)
        held = (not-absent (view self).root).0 (sym l ∙ h)

        asked : Asked (key_of (undo k) held.0.keys) public
        asked = subst (λ (b : Bytes). Asked (key_of b held.0.keys) public) id-is (w held.0 held.1)

        pub key-unknown : public ≡ None → answer (view self) (ask_key k) ≡ 15
        unfolding answer key_table
        key-unknown e =
            sym (skip _ _ _ _ _ l h
            (skip _ _ _ _ _ (ap not (sym digits)) refl
            (hit _ _ _ _ refl (rw held.1 (gone _ (subst (λ (p : Option Id). Asked (key_of (undo k) held.0.keys) p) e asked))))))

        pub key-known : (p : Id) → public ≡ Some p → (answer (view self) (ask_key k) ≡ 0) × (view_id p ≡ public_key (view self) k)
        key-known p e =
            let x = there _ p (subst (λ (p : Option Id). Asked (key_of (undo k) held.0.keys) p) e asked) in
            let g : KeyGood (view self) k x.0 = record { root = held.0; root_held = held.1; hex = digits; listed = x.1 } in
            (good-key (view self) k x.0 g, x.2 ∙ sym (key-given (view self) k x.0 g))

        -- what the root says
        pub key-told : (d : Result Id answers.Refusal) → d ≡ ok_or public NotListed → DecidesKey self k d
        key-told d q = go public refl
          where
            go : (o : Option Id) → public ≡ o → DecidesKey self k d
            go None e = subst (DecidesKey self k) (sym (rw e at q)) (key-unknown e)
            go (Some p) e = subst (DecidesKey self k) (sym (rw e at q)) (key-known p e)

  -- a refusal, told on as d
  pub key-refused : (n : ℕ) → answer (view self) (ask_key k) ≡ n → (e : answers.Refusal) → refusal_number e ≡ n → (d : Result Id answers.Refusal)
      → IsErrAnd d (λ r. r ≡ e) → DecidesKey self k d
  key-refused n a e q (Ok p) x = absurd x
  key-refused n a e q (Err r) x = a ∙ sym q ∙ ap refusal_number (sym x)

-- what is handed back of it
pub key-of : (self : State) (k : Bytes) (d : Result Id answers.Refusal) → DecidesKey self k d → (r : PublicKey)
    → Gives d r → GivesKey self k (number_of r.answer) (view_id r.public)
key-of self k (Ok p) a r w = record { answered = w.0 ∙ sym a.0; gives = w.1 ∙ a.1 }
key-of self k (Err e) a r w =
    record {
      answered = w.0 ∙ sym a;
      gives = w.1 ∙ sym (no_key_lem (view self) k (λ z. let n = positive e in omega arith));
    }
