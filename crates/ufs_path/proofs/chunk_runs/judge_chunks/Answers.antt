use Rattle.std.proofs.Common.{◌≡◌, Some, None, true, false, sym, subst}
use Rattle.ufs_path.specs.Consults.{IsUnavailable}
use Rattle.ufs_path.proofs.AnsweredLaws.{refused_said}
use Rattle.ufs_path.proofs.ConsultLaws.{consults_along}
use Rattle.ufs_path.proofs.RunLaws.{listed_needed}
use Rattle.ufs_path.proofs.chunk_runs.judge_chunks.Goals as goal

pub returns-in-Ok-clause-consults : goal.returns-in-Ok-clause-consults
returns-in-Ok-clause-consults g c =
    consults_along g.V.View (λ is v holds. (holds, listed_needed c.args.g.now c.args.inode.now c.args.n v)) (λ h. let no : Some true ≡ None = h in cc) c.in-Ok.ensures.consults

pub returns-in-Unavailable-clause-consults : goal.returns-in-Unavailable-clause-consults
returns-in-Unavailable-clause-consults g c =
    consults_along g.V.View (λ is v holds. (holds, listed_needed c.args.g.now c.args.inode.now c.args.n v)) (λ h. subst IsUnavailable (sym c.in-Unavailable.is) tt) c.in-Err.ensures.consults

pub returns-in-NotFound : goal.returns-in-NotFound
returns-in-NotFound g c = record {
  keeps = c.read_entries.ensures.keeps;
  levels = c.read_entries.ensures.levels;
  found = λ is v holds. sym (refused_said c.in-Err.fault _ c.in-NotFound.is ((c.in-Err.ensures.rule.rule is v holds).answer));
  consults = consults_along g.V.View (λ is v holds. (holds, listed_needed c.args.g.now c.args.inode.now c.args.n v)) (λ h. let no : Some false ≡ None = h in cc) c.in-Err.ensures.consults;
}
