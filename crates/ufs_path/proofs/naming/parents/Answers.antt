use Rattle.std.proofs.Common.{◌≡◌, Ok, Some, None, sym}
use Rattle.ufs_path.proofs.AnsweredLaws.{map_some}
use Rattle.ufs_path.proofs.ConsultLaws.{consults_both, consults_fetches}
use Rattle.ufs_path.proofs.InodeLaws.{parents_on}
use Rattle.ufs_path.specs.Parents.{IsParentsRead}
use Rattle.ufs_path.proofs.naming.parents.Goals as goal

pub returns-in-Some-Ok-clause-found : goal.returns-in-Some-Ok-clause-found
returns-in-Some-Ok-clause-found g c =
    let first = c.read_geometry.ensures.keeps in
    map_some c.parents_below.result _ _
    (λ parents h is v holds.
    parents_on (g.V.View.size c.args.view.now) (g.V.View.count c.args.view.now) v c.in-Some-Ok.g parents.items
    (rw c.in-Some-Ok.field-0-is at ((c.in-Some-Ok.ensures.rule.rule (c.parents_below.ensures.keeps.told is) v holds).answer)) (h is v (first.stands v holds)))
    c.parents_below.ensures.found

pub returns-in-Some-Ok-clause-consults : goal.returns-in-Some-Ok-clause-consults
returns-in-Some-Ok-clause-consults g c =
    let first = c.read_geometry.ensures.keeps in
    consults_both g.V.View g.met.V.View.fetched_both first c.parents_below.ensures.keeps
    (λ is v holds. (
      first.stands v holds,
      λ b h. IsParentsRead.by_geometry c.in-Some-Ok.g (sym (rw c.in-Some-Ok.field-0-is at ((c.in-Some-Ok.ensures.rule.rule (c.parents_below.ensures.keeps.told is) v holds).answer))) h,
    )) (λ h. h)
    (consults_fetches g.V.View (λ v b h. IsParentsRead.of_superblock h) (λ (h : ⊥). absurd h) c.read_geometry.ensures.fetched)
    c.parents_below.ensures.consults

pub returns-in-Some-Err-clause-consults : goal.returns-in-Some-Err-clause-consults
returns-in-Some-Err-clause-consults g c =
    consults_fetches g.V.View (λ v b h. IsParentsRead.of_superblock h) (λ h. let no : Ok (Some c.new.result) ≡ Ok None = h in cc) c.read_geometry.ensures.fetched

pub returns-in-None-clause-consults : goal.returns-in-None-clause-consults
returns-in-None-clause-consults g c =
    consults_fetches g.V.View (λ v b h. IsParentsRead.of_superblock h) (λ h. c.in-None.ensures.lost) c.read_geometry.ensures.fetched
