-- What the result of a reading says: that the file was read, or which refusal it is.
use mathlib.Core.Path.{◌≡◌, refl, sym}
use mathlib.Core.List.{List}
use Rattle.std.specs.declared.option.Option.{Option}
use Rattle.std.specs.declared.option.Option.TheVariants.{None, Some}
use Rattle.std.specs.declared.result.Result.{Result}
use Rattle.std.specs.declared.result.Result.TheVariants.{Ok, Err}
use Rattle.std.specs.Option.{ok_or}
use Rattle.base.proofs.TestLaws.{never}
use Rattle.base.specs.Bytes.{Bytes}
use Rattle.rules.specs.Records.{Read, refused, says}
use Rattle.rules.specs.Table.{Refusal}
use Rattle.rules.specs.Steps.{fault_number, judged}
use Rattle.records.specs.View.{view_entries}
use Rattle.envelope.specs.Open.{view_fault, view_read}
use Rattle.envelope.specs.declared.Fault.{Fault}
use Rattle.envelope.specs.declared.Signed.{Signed}

module _ {T A : Type 0} (view : T → A) (rd : Read A) where
  pub read-says : (r : Signed T) → view_read view (Ok r) ≡ rd → rd ≡ says (view r.signed) (view_entries r.entries)
  unfolding view_read
  read-says r e = sym e

  module _ (f : Fault) (e : view_read view (Err f) ≡ rd) where
    pub read-refused : rd ≡ refused (view_fault f)
    unfolding view_read
    read-refused = sym e

    -- whatever would have been judged
    pub read-judged : (table : A → List Bytes → List Refusal) → judged rd table ≡ fault_number (view_fault f)
    unfolding judged
    read-judged table = rw read-refused

-- ## A value, or the refusal that stands for none

module _ {T E : Type 0} (e : E) where
  pub was-some : (o : Option T) (x : T) → Path (Result T E) (Ok x) (ok_or o e) → o ≡ Some x
  was-some None x q = never (cc)
  was-some (Some y) x q = cc

  pub was-none : (o : Option T) (y : E) → Path (Result T E) (Err y) (ok_or o e) → (o ≡ None) × (y ≡ e)
  was-none None y q = (refl, cc)
  was-none (Some x) y q = never (cc)
