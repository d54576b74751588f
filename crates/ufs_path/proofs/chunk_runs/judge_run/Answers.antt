use Rattle.std.proofs.Common.{◌∙◌, sym, subst, ap}
use Rattle.std.specs.Result.{is_ok}
use Rattle.ufs_path.specs.Parents.{IsKnown}
use Rattle.ufs_path.proofs.RunLaws.{known_more}
use Rattle.ufs_path.proofs.chunk_runs.judge_run.Goals.{then-sound, else-sound}
use Rattle.ufs_path.proofs.chunk_runs.judge_run.Goals as goal

pub returns-clause-found : goal.returns-clause-found
returns-clause-found g c = λ is v holds run kept known.
    let G = c.args.g.now in
    let said = c.in-Some-judge_chunks.ensures.found is v holds in
    let e = c.in_ok-set_known.ensures in (
      known_more G v kept c.args.runs.now.entries c.set_known.new.runs.entries c.args.run c.if-sound.judged e.run e.others
          (elim c.if-sound.branch [
            | then-sound w ↦ subst (λ j. IsKnown G v kept c.args.run j) (sym w.judged-is) (ap (λ r. is_ok r) (sym run) ∙ sym said ∙ w.if-sound.true)
            | else-sound w ↦ subst (λ j. IsKnown G v kept c.args.run j) (sym w.judged-is) (ap (λ r. is_ok r) (sym run) ∙ sym said ∙ w.if-sound.false)
          ]) known,
      said,
    )
