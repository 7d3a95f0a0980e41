-- What the files of the four roles say (01, "Forms"). Keyids, public keys and digests are held as bytes, their hex undone; names and
-- paths with their escapes undone.
use Rattle.std.specs.declared.option.Option.{Option}
use Rattle.std.specs.Prelude.{Bool, List, ℕ, ℤ}
use Rattle.base.specs.Bytes.{Bytes}

-- a line of a key table
pub record Key : Type 0 where
  pub keyid : Bytes
  pub public : Bytes

-- a role: its keyids in file order, and how many of them have to sign
pub record Role : Type 0 where
  pub keyids : List Bytes
  pub threshold : ℕ

-- what a root says besides what every role does
pub record Root : Type 0 where
  pub consistent_snapshot : Bool
  pub keys : List Key
  pub root_role : Role
  pub timestamp_role : Role
  pub snapshot_role : Role
  pub targets_role : Role

-- what a timestamp or a snapshot says of a file that it lists
pub record Listed : Type 0 where
  pub version : ℕ
  pub length : Option ℕ
  pub digest : Option Bytes

-- a name that a snapshot lists
pub record Named : Type 0 where
  pub name : Bytes
  pub listed : Listed

-- an image that a targets file lists
pub record Image : Type 0 where
  pub path : Bytes
  pub length : ℕ
  pub digest : Bytes

-- "Every role": what each file says, around the body of its role
pub record File (A : Type 0) : Type 0 where
  pub spec_version : Bytes
  pub version : ℕ
  pub expires : ℤ
  pub body : A

-- a signature entry
pub record Entry : Type 0 where
  pub keyid : Bytes
  pub sig : Bytes

-- why a file says nothing: refusals 1, 2, 3, 16 and 4, in the order in which they are tried
pub data Fault : Type 0 where
  too_long not_text bad_form other_keyid other_spec : Fault

-- what reading gave: the first of those that holds, or what the file says with the keyids of its entries in file order
pub data Read (A : Type 0) : Type 0 where
  refused : Fault → Read A
  says : A → List Bytes → Read A
