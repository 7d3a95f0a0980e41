-- What is not listed, where a test says what is, for proofs above.
use mathlib.Core.Path.{◌≡◌}
use mathlib.Core.Bool.{Bool, true, false, not}

pub not_listed : (listed missing : Bool) → listed ≡ not missing → not listed ≡ missing
not_listed listed true e = rw e
not_listed listed false e = rw e
