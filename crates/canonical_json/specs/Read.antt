-- A reader of canonical text: what stands at the front of a list of bytes, and what follows it.
use Rattle.std.specs.Prelude.{[], ◌∷◌, Bool, true, false, cond, ◌||◌, ◌≡◌, ℕ, zero, suc, ◌-◌, eqb, length}
use Rattle.std.specs.declared.option.Option.{Option}
use Rattle.std.specs.declared.option.Option.TheVariants.{None, Some}
use Rattle.base.specs.Bytes.{Bytes, bytes, less, is_digit}
use Rattle.canonical_json.specs.Lead.{lead_of, within}
use Rattle.canonical_json.specs.Json.{Json, jnull, jtrue, jfalse, num, str, arr, obj, Items, inil, icons, Members, mnil, mcons}
use Rattle.canonical_json.specs.declared.Sequence.{Sequence}
use Rattle.canonical_json.specs.declared.Kind.{Kind}
use Rattle.canonical_json.specs.declared.Kind.TheVariants.{Text, Minus, Digit, Array, Object, True, False, Null, Other}

pub data Got (A : Type 0) : Type 0 where
  bad : Got A
  got : A → Bytes → Got A

-- where the rest begins, in a text of n bytes
abbrev pub end_of : {A : Type 0} → ℕ → Got A → Option ℕ
end_of n bad = None
end_of n (got a r) = Some (n - length r)

-- ## Combinators. What may not be needed is a function of `Unit`, which waits

abbrev pub also : {A B : Type 0} → (A → B) → Got A → Got B
also f bad = bad
also f (got a r) = got (f a) r

abbrev pub then : {A B : Type 0} → Got A → (A → Bytes → Got B) → Got B
then bad k = bad
then (got a r) k = k a r

abbrev pub choose : {A : Type 0} → Bool → (Unit {0} → A) → (Unit {0} → A) → A
choose true f g = f tt
choose false f g = g tt

abbrev pub front : {B : Type 0} → Bytes → (ℕ → Bytes → Got B) → Got B
front [] k = bad
front (c ∷ r) k = k c r

abbrev pub expect : {B : Type 0} → ℕ → Bytes → (Bytes → Got B) → Got B
expect c t k = front t (λ b r. choose (eqb b c) (λ _. k r) (λ _. bad))

abbrev pub led : {B : Type 0} → Option Sequence → (ℕ → ℕ → ℕ → Got B) → Got B
led None k = bad
led (Some l) k = k l.more l.lo l.hi

-- ## Strings

unfoldable mutual
  -- the bytes of a string up to its closing quote, escapes undone
  pub chars : Bytes → ℕ → ℕ → ℕ → Got (Bytes)
  chars [] m lo hi = bad
  chars (b ∷ t) zero lo hi =
      choose (eqb b 34) (λ _. got [] t)
      (λ _. choose (eqb b 92) (λ _. esc t)
      (λ _. led (lead_of b) (λ m l h. also (λ s. b ∷ s) (chars t m l h))))
  chars (b ∷ t) (suc m) lo hi = choose (within lo hi b) (λ _. also (λ s. b ∷ s) (chars t m 128 191)) (λ _. bad)

  -- after a backslash
  pub esc : Bytes → Got (Bytes)
  esc [] = bad
  esc (c ∷ t) = choose (eqb c 34 || eqb c 92) (λ _. also (λ s. c ∷ s) (chars t 0 0 0)) (λ _. bad)

abbrev pub read_str : Bytes → Got (Bytes)
read_str t = chars t 0 0 0

-- ## Numbers

-- the text does not go on with a digit, so that a number before it ends there
abbrev pub NoDigit : Bytes → Type 0
NoDigit [] = Unit {0}
NoDigit (b ∷ t) = is_digit b ≡ false

unfoldable pub digits : Bytes → Got (Bytes)
digits [] = got [] []
digits (b ∷ t) = choose (is_digit b) (λ _. also (λ s. b ∷ s) (digits t)) (λ _. got [] (b ∷ t))

-- the digits of a number, after a minus if neg
unfoldable pub number : Bool → Bytes → Got (Bytes)
number neg t =
    front t (λ b r.
    choose (eqb b 48) (λ _. choose neg (λ _. bad) (λ _. got (48 ∷ []) r))
    (λ _. choose (is_digit b) (λ _. also (λ s. b ∷ s) (digits r)) (λ _. bad)))

-- ## Elements between commas, up to a closing byte
-- `rd p` reads an element, `next p a` is what the elements after a are read with

module _ {P A B : Type 0} (rd : P → Bytes → Got A) (next : P → A → P) (nil : B) (cons : A → B → B) (close : ℕ) where
  -- with fuel
  unfoldable pub loop : ℕ → P → Bytes → Got B
  loop zero p t = bad
  loop (suc n) p t =
      then (rd p t) (λ a r. front r (λ c q.
      choose (eqb c close) (λ _. got (cons a nil) q)
      (λ _. choose (eqb c 44) (λ _. also (λ b. cons a b) (loop n (next p a) q)) (λ _. bad))))

  -- an element is to begin
  abbrev pub elements : P → Bytes → Got B
  elements p t = loop (length t) p t

  -- an element, or the closing byte at once
  unfoldable pub body : P → Bytes → Got B
  body p t = front t (λ c r. choose (eqb c close) (λ _. got nil r) (λ _. elements p t))

-- ## Arrays and objects, over a reader of a value

abbrev pub item : (Bytes → Got Json) → Unit {0} → Bytes → Got Json
item rd p t = rd t

abbrev pub same : Unit {0} → Json → Unit {0}
same p v = p

abbrev pub array : (Bytes → Got Json) → Bytes → Got Items
array rd t = body (item rd) same inil icons 93 tt t

abbrev pub Member : Type 0
Member = Bytes × Json

-- the name before, if there is one, is less
abbrev pub rises : Option (Bytes) → Bytes → Bool
rises None n = true
rises (Some p) n = less p n

unfoldable pub member : (Bytes → Got Json) → Option (Bytes) → Bytes → Got Member
member rd p t =
    expect 34 t (λ u. then (read_str u) (λ n v.
    choose (rises p n) (λ _. expect 58 v (λ w. also (λ x. (n, x)) (rd w))) (λ _. bad)))

abbrev pub named : Option (Bytes) → Member → Option (Bytes)
named p m = Some m.0

abbrev pub mcons' : Member → Members → Members
mcons' m ms = mcons m.0 m.1 ms

abbrev pub object : (Bytes → Got Json) → Bytes → Got Members
object rd t = body (member rd) named mnil mcons' 125 None t

-- ## A value, by its first byte

-- the bytes w
abbrev pub word : Bytes → Bytes → Got (Unit {0})
word [] t = got tt t
word (c ∷ w) t = expect c t (λ r. word w r)

unfoldable pub kind_of : ℕ → Kind
kind_of b =
    cond (eqb b 34) Text
    (cond (eqb b 45) Minus
    (cond (eqb b 91) Array
    (cond (eqb b 102) False
    (cond (eqb b 110) Null
    (cond (eqb b 116) True
    (cond (eqb b 123) Object
    (cond (is_digit b) Digit Other)))))))

-- b is the first byte and t what follows; `ra` and `ro` read an array and an object after the bracket
abbrev pub read_kind : (Bytes → Got Items) → (Bytes → Got Members) → Kind → ℕ → Bytes → Got Json
read_kind ra ro Text b t = also str (read_str t)
read_kind ra ro Minus b t = also (λ ds. num true ds) (number true t)
read_kind ra ro Digit b t = also (λ ds. num false ds) (number false (b ∷ t))
read_kind ra ro Array b t = also arr (ra t)
read_kind ra ro Object b t = also obj (ro t)
read_kind ra ro True b t = also (λ _. jtrue) (word (bytes "rue") t)
read_kind ra ro False b t = also (λ _. jfalse) (word (bytes "alse") t)
read_kind ra ro Null b t = also (λ _. jnull) (word (bytes "ull") t)
read_kind ra ro Other b t = bad

abbrev pub read_with : (Bytes → Got Items) → (Bytes → Got Members) → Bytes → Got Json
read_with ra ro t = front t (λ b t. read_kind ra ro (kind_of b) b t)

-- a value, where objects and arrays may hold one another d deep
unfoldable pub read : ℕ → Bytes → Got Json
read zero t = read_with (λ _. bad) (λ _. bad) t
read (suc d) t = read_with (array (read d)) (object (read d)) t

-- ## A name in the text, up to its closing quote, escapes undone

unfoldable mutual
  pub raw : Bytes → Bytes
  raw [] = []
  raw (b ∷ t) = choose (eqb b 34) (λ _. []) (λ _. choose (eqb b 92) (λ _. raw_esc t) (λ _. b ∷ raw t))

  pub raw_esc : Bytes → Bytes
  raw_esc [] = []
  raw_esc (c ∷ t) = c ∷ raw t
