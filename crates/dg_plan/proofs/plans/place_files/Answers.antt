use Rattle.std.proofs.Common.{Option, ℕ, None, subst, sym, ◌∙◌}
use Rattle.std.specs.Prelude.{Some}
use Rattle.dg_plan.specs.Placings.{ArePlaced, ArePositive}
use Rattle.dg_plan.proofs.FileLaws.{files_positive}
use Rattle.dg_plan.proofs.PlanLaws.{files_by}
use Rattle.dg_plan.proofs.plans.place_files.Goals as goal

pub place_all-requires-clause-counts : goal.place_all-requires-clause-counts
place_all-requires-clause-counts c = subst ArePositive (sym c.in_ok-files.ensures) (files_positive c.args.wants.now)

pub returns-in-Some : goal.returns-in-Some
returns-in-Some c =
    let stayed = c.in_ok-placing.ensures.stayed c.args.wants.now c.args.parents.now (record { by_file = c.in_ok-files.ensures; by_directory = c.in_ok-directories.ensures }) in
    let placed : ArePlaced c.in_ok-files.files c.in_ok-directories.directories c.in_ok-placing.placing c.place_all.new.self (Some c.in-Some.inode) =
    subst (λ (o : Option ℕ). ArePlaced c.in_ok-files.files c.in_ok-directories.directories c.in_ok-placing.placing c.place_all.new.self o) c.in-Some.is c.in_ok-inode.ensures.placed in
    files_by c.args.wants.now c.args.parents.now c.args.homes.now c.args.rooms.items c.in_ok-files.files c.in_ok-directories.directories c.in_ok-placing.placing c.in_ok-files.ensures c.in_ok-directories.ensures c.in_ok-placing.ensures.stayed
    ∙ placed c.args.wants.now c.args.parents.now (record { by_file = c.in_ok-files.ensures; by_directory = c.in_ok-directories.ensures }) stayed.least

pub returns : goal.returns
returns c =
    let stayed = c.in_ok-placing.ensures.stayed c.args.wants.now c.args.parents.now (record { by_file = c.in_ok-files.ensures; by_directory = c.in_ok-directories.ensures }) in
    let placed : ArePlaced c.in_ok-files.files c.in_ok-directories.directories c.in_ok-placing.placing c.place_all.new.self None =
    subst (λ (o : Option ℕ). ArePlaced c.in_ok-files.files c.in_ok-directories.directories c.in_ok-placing.placing c.place_all.new.self o) c.in-None.is c.in_ok-inode.ensures.placed in
    record {
      placed = files_by c.args.wants.now c.args.parents.now c.args.homes.now c.args.rooms.items c.in_ok-files.files c.in_ok-directories.directories c.in_ok-placing.placing c.in_ok-files.ensures c.in_ok-directories.ensures c.in_ok-placing.ensures.stayed
          ∙ placed c.args.wants.now c.args.parents.now (record { by_file = c.in_ok-files.ensures; by_directory = c.in_ok-directories.ensures }) stayed.least;
      size = c.in_ok-inode.ensures.size c.in-None.is ∙ c.in_ok-placing.ensures.size;
    }
