-- What holds of a reading, where it is one.
use Rattle.base.specs.Bytes.{Bytes}
use Rattle.canonical_json.specs.Read.{Got, bad, got, also}

pub data Says {A : Type 0} (Q : A → Bytes → Type 0) : Got A → Type 0 where
  says-bad : Says Q bad
  says-got : {a : A} {r : Bytes} → Q a r → Says Q (got a r)

pub says-also : {A B : Type 0} {Q : A → Bytes → Type 0} {Q' : B → Bytes → Type 0} {g : Got A} (f : A → B)
    → Says Q g → ((a : A) (r : Bytes) → Q a r → Q' (f a) r) → Says Q' (also f g)
says-also f says-bad k = says-bad
says-also f (says-got {a} {r} q) k = says-got (k a r q)

pub says_map : {A : Type 0} {Q Q' : A → Bytes → Type 0} {g : Got A} → Says Q g → ((a : A) (r : Bytes) → Q a r → Q' a r) → Says Q' g
says_map says-bad k = says-bad
says_map (says-got {a} {r} q) k = says-got (k a r q)

pub says_of : {A : Type 0} {Q : A → Bytes → Type 0} {a : A} {r : Bytes} → Says Q (got a r) → Q a r
says_of (says-got q) = q
