use Rattle.std.proofs.Common.{◌≡◌, ◌∙◌, Ok, true, false, sym, subst, ap, Bool}
use Rattle.std.specs.Option.{option_map}
use Rattle.ufs_model.specs.Paths.{directory_refusal}
use Rattle.ufs_path.specs.Answers.{refusal_of}
use Rattle.ufs_path.specs.Consults.{IsUnavailable}
use Rattle.ufs_path.specs.Parents.{IsParentRead}
use Rattle.ufs_path.proofs.AnsweredLaws.{map_ok, refused_said}
use Rattle.ufs_path.proofs.ConsultLaws.{consults_along, consults_both}
use Rattle.ufs_path.proofs.InodeLaws.{fits_entered, fits_missing, fits_refused, inode_found, inode_missing, kind_read, named_needs, no_refusal}
use Rattle.ufs_path.proofs.naming.enter_inode.Goals as goal

pub returns-in-Some-clause-found : goal.returns-in-Some-clause-found
returns-in-Some-clause-found g c = λ _ is v holds.
    let at = inode_found c.args.g.now c.args.i v c.in-Ok.inode ((c.in-Ok.ensures.rule.rule is v holds).answer) in
    fits_refused c.args.g.now v c.args.i c.in-Ok.inode c.args.table.now c.in-Some.field-0 refusal_of at
    (sym (ap (λ o. option_map refusal_of o) c.in-Some.is) ∙ c.directory_fault.ensures.value)

pub returns-in-Some-clause-consults : goal.returns-in-Some-clause-consults
returns-in-Some-clause-consults g c =
    consults_along g.V.View (λ is v holds. (holds, λ b h. let p = named_needs c.args.g.now c.args.i v b h in IsParentRead.of_inode c.args.i p.0 p.1))
    (λ h. let no : Ok true ≡ Ok false = h in cc) c.in-Ok.ensures.consults

pub returns-in-None-clause-found : goal.returns-in-None-clause-found
returns-in-None-clause-found g c =
    let none = no_refusal (directory_refusal c.in-Ok.inode) (sym (ap (λ o. option_map refusal_of o) c.in-None.is) ∙ c.directory_fault.ensures.value) in
    map_ok c.enter_directory.result _ _
    (λ (could : Bool) h yes is v holds fits.
    let at = inode_found c.args.g.now c.args.i v c.in-Ok.inode ((c.in-Ok.ensures.rule.rule (c.enter_directory.ensures.keeps.told is) v holds).answer) in
    fits_entered c.args.g.now v c.args.i c.in-Ok.inode c.args.table.now c.enter_directory.new.table at none (h yes is v (c.read_named.ensures.keeps.stands v holds)) fits)
    c.enter_directory.ensures.found

pub returns-in-None-clause-consults : goal.returns-in-None-clause-consults
returns-in-None-clause-consults g c =
    let first = c.read_named.ensures.keeps in
    let none = no_refusal (directory_refusal c.in-Ok.inode) (sym (ap (λ o. option_map refusal_of o) c.in-None.is) ∙ c.directory_fault.ensures.value) in
    consults_both g.V.View g.met.V.View.fetched_both first c.enter_directory.ensures.keeps
    (λ is v holds. (
      first.stands v holds,
      λ b h.
          let at = inode_found c.args.g.now c.args.i v c.in-Ok.inode ((c.in-Ok.ensures.rule.rule (c.enter_directory.ensures.keeps.told is) v holds).answer) in
          IsParentRead.of_directory c.args.i h.0 c.in-Ok.inode at (kind_read c.in-Ok.inode none) c.in-None.ensures.small h.1 h.2,
    )) (λ h. h)
    (consults_along g.V.View (λ is v holds. (holds, λ b h. let p = named_needs c.args.g.now c.args.i v b h in IsParentRead.of_inode c.args.i p.0 p.1)) (λ (h : ⊥). absurd h) c.in-Ok.ensures.consults)
    c.enter_directory.ensures.consults

pub returns-in-Unavailable-clause-consults : goal.returns-in-Unavailable-clause-consults
returns-in-Unavailable-clause-consults g c =
    consults_along g.V.View (λ is v holds. (holds, λ b h. let p = named_needs c.args.g.now c.args.i v b h in IsParentRead.of_inode c.args.i p.0 p.1))
    (λ h. subst IsUnavailable (sym c.in-Unavailable.is) tt) c.in-Err.ensures.consults

pub returns-in-NotFound : goal.returns-in-NotFound
returns-in-NotFound g c = record {
  keeps = c.read_named.ensures.keeps;
  levels = c.read_named.ensures.levels;
  found = λ _ is v holds fits.
      fits_missing c.args.g.now v c.args.i c.args.table.now
      (inode_missing c.args.g.now c.args.i v (refused_said c.in-Err.fault _ c.in-NotFound.is ((c.in-Err.ensures.rule.rule is v holds).answer))) fits;
  consults = consults_along g.V.View (λ is v holds. (holds, λ b h. let p = named_needs c.args.g.now c.args.i v b h in IsParentRead.of_inode c.args.i p.0 p.1))
      (λ h. let no : Ok true ≡ Ok false = h in cc) c.in-Err.ensures.consults;
}
