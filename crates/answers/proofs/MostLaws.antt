-- No call answers with a number above the highest, so that every answer has its name.
use mathlib.Core.Path.{◌≡◌, refl}
use mathlib.Core.Bool.{Bool, true}
use mathlib.Core.List.{List}
use Prim.Native.Nat.{ℕ, ◌<◌, ◌≤◌, min}
use native.Mathlib.Omega.{arith}
use lib.Dec.{leb, eqb}
use borrow.Author.Tests.{leb-true}
use Rattle.base.specs.Bytes.{Bytes}
use Rattle.rules.specs.Records.{Fault, too_long, not_text, bad_form, other_keyid, other_spec, Read, refused, says}
use Rattle.rules.specs.State.{State, Install, Call, new_cycle, new_root, new_timestamp, new_snapshot, new_targets, find, ask_key, ask_state, root_in, timestamp_in, snapshot_in, targets_in}
use Rattle.rules.specs.Table.{Refusal, first}
use Rattle.rules.specs.Steps.{install_table, cycle_table, root_table, timestamp_table, snapshot_table, targets_table, find_table, key_table, fault_number, judged, install_answer, answer}
use Rattle.rules.specs.Asked.{Found, image_table, image_answer}
use Rattle.rules.proofs.TableLaws.{every, first-every}
use Rattle.answers.specs.Number.{highest, refusal_number}
use denote.Enum.Bare.{sameb}
use Rattle.answers.specs.contracts.Refusal.{the_type}
use Rattle.answers.specs.declared.Refusal as answers
use Rattle.answers.specs.declared.Refusal.TheVariants.{TooLong, NotText, BadForm, OtherSpec, BadArgument, NotHeld, HeldExpired, OtherContent, FewHeldKeys, FewOwnKeys, WrongVersion, NoNews, WentBack, FileExpired, NotListed, OtherKeyid, EarlierStart}

-- no line has a number above it
abbrev below : List Refusal → Bool
below rows = every (λ n. leb n highest) rows

first-most : (rows : List Refusal) → below rows ≡ true → first rows ≤ highest
first-most rows e = leb-true (first rows) highest (first-every (λ n. leb n highest) rows refl e)

pub fault-most : (f : Fault) → fault_number f ≤ highest
unfolding fault_number
fault-most too_long = omega arith
fault-most not_text = omega arith
fault-most bad_form = omega arith
fault-most other_keyid = omega arith
fault-most other_spec = omega arith

judged-most : {A : Type 0} (r : Read A) (table : A → List Bytes → List Refusal) → ((a : A) (es : List Bytes) → below (table a es) ≡ true)
    → judged r table ≤ highest
unfolding judged
judged-most (refused f) table e = fault-most f
judged-most (says a es) table e = first-most (table a es) (e a es)

pub install-most : (o : Install) → install_answer o ≤ highest
unfolding install_answer install_table
install-most o = judged-most (root_in o.file) (install_table o) (λ a es. refl)

pub answer-most : (s : State) (c : Call) → answer s c ≤ highest
unfolding answer cycle_table root_table timestamp_table snapshot_table targets_table find_table key_table
answer-most s (new_cycle t) = first-most (cycle_table s t) refl
answer-most s (new_root o) = judged-most (root_in o.file) (root_table s o) (λ a es. refl)
answer-most s (new_timestamp o) = judged-most (timestamp_in o.file) (timestamp_table s o) (λ a es. refl)
answer-most s (new_snapshot o) = judged-most (snapshot_in o.file) (snapshot_table s o) (λ a es. refl)
answer-most s (new_targets o) = judged-most (targets_in o.file) (targets_table s o) (λ a es. refl)
answer-most s (find q) = judged-most (targets_in q.file) (find_table s q) (λ a es. refl)
answer-most s (ask_key k) = first-most (key_table s k) refl
answer-most s ask_state = omega arith

pub image-most : (listed fetched : Found) → image_answer listed fetched ≤ highest
unfolding image_answer image_table
image-most listed fetched = first-most (image_table listed fetched) refl

-- a number with its name is itself
pub named : {a n m : ℕ} → a ≡ min n highest → n ≡ m → m ≤ highest → a ≡ m
named e f h = omega arith

-- no refusal has the number of none
pub positive : (r : answers.Refusal) → 0 < refusal_number r
positive TooLong = omega arith
positive NotText = omega arith
positive BadForm = omega arith
positive OtherSpec = omega arith
positive BadArgument = omega arith
positive NotHeld = omega arith
positive HeldExpired = omega arith
positive OtherContent = omega arith
positive FewHeldKeys = omega arith
positive FewOwnKeys = omega arith
positive WrongVersion = omega arith
positive NoNews = omega arith
positive WentBack = omega arith
positive FileExpired = omega arith
positive NotListed = omega arith
positive OtherKeyid = omega arith
positive EarlierStart = omega arith

-- a refusal is this one where its number is 15
pub is_not_listed : (r : answers.Refusal) → sameb the_type r NotListed ≡ eqb (refusal_number r) 15
is_not_listed TooLong = refl
is_not_listed NotText = refl
is_not_listed BadForm = refl
is_not_listed OtherSpec = refl
is_not_listed BadArgument = refl
is_not_listed NotHeld = refl
is_not_listed HeldExpired = refl
is_not_listed OtherContent = refl
is_not_listed FewHeldKeys = refl
is_not_listed FewOwnKeys = refl
is_not_listed WrongVersion = refl
is_not_listed NoNews = refl
is_not_listed WentBack = refl
is_not_listed FileExpired = refl
is_not_listed NotListed = refl
is_not_listed OtherKeyid = refl
is_not_listed EarlierStart = refl
