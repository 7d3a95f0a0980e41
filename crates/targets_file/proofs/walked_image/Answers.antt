-- `walked_image` meets its contract.
use Rattle.forms.specs.View.{undone_at}
use Rattle.targets_file.specs.View.{described}
use Rattle.targets_file.proofs.ImageLaws.{no-length, no-digest, description-is, broken-image}
use Rattle.targets_file.proofs.walked_image.Goals as goal

pub returns-in_err-length : goal.returns-in_err-length
returns-in_err-length c =
    let m = c.find_members-m.ensures in
    rw c.from_residual.ensures (broken-image _ _ (λ v h. no-length v (c.in_err-length.ensures _ _ m.first.means v h)))

pub returns-in_err-digest : goal.returns-in_err-digest
unfolding undone_at
returns-in_err-digest c =
    let m = c.find_members-m.ensures in
    rw c.from_residual-in_err-digest.ensures
    (broken-image _ _ (λ v h. no-digest v _ (c.in_ok-length.ensures _ _ m.first.means v h) (c.in_err-digest.ensures.0 _ _ m.second.means v h)))

pub returns : goal.returns
unfolding undone_at described
returns c =
    let m = c.find_members-m.ensures in
    let digest = c.in_ok-digest.ensures in
    record {
      reads = record {
        means = λ v h. description-is v _ (c.in_ok-length.ensures _ _ m.first.means v h) _ (digest.0 _ _ m.second.means v h);
        end = m.end;
      };
      digits = digest.1;
    }
