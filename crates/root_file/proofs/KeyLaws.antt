-- A key, step by step.
use mathlib.Core.Path.{◌≡◌}
use Rattle.std.specs.declared.option.Option.TheVariants.{None, Some}
use Rattle.canonical_json.specs.Options.{bind}
use Rattle.base.specs.Bytes.{Bytes, bytes}
use Rattle.canonical_json.specs.Json.{Json}
use Rattle.rules.specs.Limits.{key_size}
use Rattle.rules.specs.Take.{must, word, unhex, hex}
use Rattle.rules.specs.Forms.{key}

module _ (name : Bytes) (v : Json) where
  pub no-keyid : None ≡ unhex key_size name → None ≡ key name v
  unfolding key bind
  no-keyid e = rw (← e)

  module _ (id : Bytes) (e : Some id ≡ unhex key_size name) where
    pub no_keytype : None ≡ must (bytes "keytype") (word (bytes "ed25519")) v → None ≡ key name v
    unfolding key bind
    no_keytype f = rw (← e, ← f)

    module _ (f : Some tt ≡ must (bytes "keytype") (word (bytes "ed25519")) v) where
      pub no_scheme : None ≡ must (bytes "scheme") (word (bytes "ed25519")) v → None ≡ key name v
      unfolding key bind
      no_scheme g = rw (← e, ← f, ← g)

      module _ (g : Some tt ≡ must (bytes "scheme") (word (bytes "ed25519")) v) where
        pub no-public : None ≡ must (bytes "keyval") (must (bytes "public") (hex key_size)) v → None ≡ key name v
        unfolding key bind
        no-public h = rw (← e, ← f, ← g, ← h)

        pub key-is : (p : Bytes) → Some p ≡ must (bytes "keyval") (must (bytes "public") (hex key_size)) v → Some (record { keyid = id; public = p }) ≡ key name v
        unfolding key bind
        key-is p h = rw (← e, ← f, ← g, ← h)
