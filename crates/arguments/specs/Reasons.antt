-- What is wrong with a line, in words.
use Rattle.std.specs.Prelude.{List, ℕ, codes}
use Rattle.arguments.specs.declared.Problem.{Problem}
use Rattle.arguments.specs.declared.Problem.TheVariants.{Call, Words, Bytes, Unopened, TooMany, Number, TooLong}

abbrev pub reason : Problem → List ℕ
reason Call = codes "unknown call"
reason Words = codes "wrong number of words"
reason Bytes = codes "bad bytes"
reason Unopened = codes "cannot open the file"
reason TooMany = codes "too many bytes"
reason Number = codes "bad number"
reason TooLong = codes "line too long"
