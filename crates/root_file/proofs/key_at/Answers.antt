-- `key_at` meets its contract.
use Rattle.canonical_json.specs.Fields.{keep}
use Rattle.records.specs.View.{view_key}
use Rattle.forms.proofs.StepLaws.{reads-none}
use Rattle.root_file.proofs.KeyLaws.{no-keyid, no_keytype, no_scheme, no-public, key-is}
use Rattle.root_file.proofs.key_at.Goals as goal
use Rattle.root_file.proofs.key_at.Goals.{then-not-word_field-via-then-not-word_field, then-not-word_field-via-else-not-word_field+then-not-word_field-2}

pub returns-in_err-keyid : goal.returns-in_err-keyid
returns-in_err-keyid c = reads-none _ _ _ _ _ c.from_residual.ensures (λ v h. no-keyid _ v c.in_err-keyid.ensures)

pub returns-then-not-word_field : goal.returns-then-not-word_field
unfolding keep
returns-then-not-word_field c =
    let m = c.find_members-m.ensures in
    record {
      means = λ v h.
          elim c.then-not-word_field.branch [
            | then-not-word_field-via-then-not-word_field w ↦ no_keytype _ v _ c.in_ok-keyid.ensures (w.if-not-word_field.ensures _ _ m.first.means v h)
            | then-not-word_field-via-else-not-word_field+then-not-word_field-2 w ↦
                no_scheme _ v _ c.in_ok-keyid.ensures (w.if-not-word_field.ensures _ _ m.first.means v h) (w.if-not-word_field-2.ensures _ _ m.second.means v h)
          ];
      end = tt;
    }

pub returns-in_err-public : goal.returns-in_err-public
unfolding keep
returns-in_err-public c =
    let m = c.find_members-m.ensures in
    reads-none _ _ _ _ _ c.from_residual-in_err-public.ensures (
    λ v h.
    no-public _ v _ c.in_ok-keyid.ensures (c.if-not-word_field.ensures _ _ m.first.means v h) (c.if-not-word_field-2.ensures _ _ m.second.means v h)
    (c.in_err-public.ensures _ _ m.third.means v h)
    )

pub returns : goal.returns
unfolding keep view_key
returns c =
    let m = c.find_members-m.ensures in
    record {
      means = λ v h.
          key-is _ v _ c.in_ok-keyid.ensures (c.if-not-word_field.ensures _ _ m.first.means v h) (c.if-not-word_field-2.ensures _ _ m.second.means v h)
          _ (c.in_ok-public.ensures _ _ m.third.means v h);
      end = m.end;
    }
