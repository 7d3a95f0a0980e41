-- The number of each answer: 01's table, A1 and A8.
use Rattle.std.specs.Prelude.{ℕ, Result, Ok, Err, ⊤}
use Rattle.answers.specs.declared.Refusal.{Refusal}
use Rattle.answers.specs.declared.Refusal.TheVariants.{TooLong, NotText, BadForm, OtherSpec, BadArgument, NotHeld, HeldExpired, OtherContent, FewHeldKeys, FewOwnKeys, WrongVersion, NoNews, WentBack, FileExpired, NotListed, OtherKeyid, EarlierStart}

abbrev pub refusal_number : Refusal → ℕ
-- "file longer than 32,768 bytes"
refusal_number TooLong = 1
-- "not canonical text, empty input included"
refusal_number NotText = 2
-- "a form above is broken"
refusal_number BadForm = 3
-- "spec_version"
refusal_number OtherSpec = 4
-- "a verdict row of another length than the entries, a verdict not 0 or 1, a digest not 32 bytes"
refusal_number BadArgument = 5
-- "a record the step needs is not held, or not current"
refusal_number NotHeld = 6
-- "a record the step leans on has expired"
refusal_number HeldExpired = 7
-- "length or digest differs from what is listed"
refusal_number OtherContent = 8
-- "too few different keys of the held root"
refusal_number FewHeldKeys = 9
-- "too few different keys of the new root itself"
refusal_number FewOwnKeys = 10
-- "wrong version"
refusal_number WrongVersion = 11
-- "same timestamp version: normal, no news"
refusal_number NoNews = 12
-- "a listed version went back, or a name vanished"
refusal_number WentBack = 13
-- "the offered file has expired"
refusal_number FileExpired = 14
-- "not listed"
refusal_number NotListed = 15
-- A1: a keyid in a key table is not the digest of its key
refusal_number OtherKeyid = 16
-- A8: a new cycle's start time is earlier than the latest one that the state has had
refusal_number EarlierStart = 17

abbrev pub number_of : Result ⊤ Refusal → ℕ
-- "0 if none"
number_of (Ok _) = 0
number_of (Err r) = refusal_number r

-- the highest number of an answer
abbrev pub highest : ℕ
highest = 17
