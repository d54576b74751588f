use Rattle.std.proofs.Common.{◌≡◌, ◌∙◌, Ok, true, false, sym, subst, ap}
use Rattle.std.specs.Result.{is_ok}
use Rattle.ufs_model.specs.Paths.{chunks_in}
use Rattle.ufs_path.specs.Consults.{IsUnavailable}
use Rattle.ufs_path.specs.Parents.{AddsEntries, kept_in}
use Rattle.ufs_path.specs.Walks.{entries_among}
use Rattle.ufs_path.specs.declared.chunk_runs.Judged.TheVariants.{Entered}
use Rattle.ufs_path.proofs.AnsweredLaws.{not_ok, refused_said}
use Rattle.ufs_path.proofs.ConsultLaws.{consults_along}
use Rattle.ufs_path.proofs.NamingLaws.{adds_named, adds_stays}
use Rattle.ufs_path.proofs.RunLaws.{known_grows, known_more, listed_needed}
use Rattle.ufs_path.proofs.naming.enter_run.Goals as goal

pub returns-in_err-add_chunks-in-Ok-clause-consults : goal.returns-in_err-add_chunks-in-Ok-clause-consults
returns-in_err-add_chunks-in-Ok-clause-consults g c =
    consults_along g.V.View (λ is v holds. (holds, listed_needed c.args.g.now c.args.inode.now c.args.n v))
    (λ h. absurd (not_ok c.from_residual.result false c.from_residual.ensures.0 h)) c.in-Ok.ensures.consults

pub returns-in_err-set_known-in-Ok-clause-consults : goal.returns-in_err-set_known-in-Ok-clause-consults
returns-in_err-set_known-in-Ok-clause-consults g c =
    consults_along g.V.View (λ is v holds. (holds, listed_needed c.args.g.now c.args.inode.now c.args.n v))
    (λ h. absurd (not_ok c.from_residual-in_err-set_known-in-Ok.result false c.from_residual-in_err-set_known-in-Ok.ensures.0 h)) c.in-Ok.ensures.consults

pub returns-in_ok-set_known-in-Ok-clause-found : goal.returns-in_ok-set_known-in-Ok-clause-found
returns-in_ok-set_known-in-Ok-clause-found g c = λ _ is v holds entries said run known.
    let G = c.args.g.now in
    let old = kept_in c.args.table.now.directories in
    let new = kept_in c.add_chunks.new.directories in
    let read : Ok (entries_among G.endian (chunks_in c.in-Ok.chunks c.read_entries.new.levels.block)) ≡ Ok entries = (c.in-Ok.ensures.rule.rule is v holds).answer ∙ said in
    let same : entries_among G.endian (chunks_in c.in-Ok.chunks c.read_entries.new.levels.block) ≡ entries = cc in
    let added : AddsEntries c.args.i entries old new = subst (λ es. AddsEntries c.args.i es old new) same (rw c.block.ensures at c.in_ok-add_chunks-in-Ok.ensures) in
    let e = c.in_ok-set_known-in-Ok.ensures in (
      known_more G v new c.args.table.now.runs.entries c.set_known.new.runs.entries c.args.run Entered e.run e.others
          (entries, sym run ∙ said, adds_named c.args.i entries old new added)
          (known_grows G v old new c.args.table.now.runs.entries (adds_stays c.args.i entries old new added) known),
      added,
    )

pub returns-in_ok-set_known-in-Ok-clause-consults : goal.returns-in_ok-set_known-in-Ok-clause-consults
returns-in_ok-set_known-in-Ok-clause-consults g c =
    consults_along g.V.View (λ is v holds. (holds, listed_needed c.args.g.now c.args.inode.now c.args.n v))
    (λ h. let no : Ok true ≡ Ok false = h in cc) c.in-Ok.ensures.consults

pub returns-in-Unavailable-clause-consults : goal.returns-in-Unavailable-clause-consults
returns-in-Unavailable-clause-consults g c =
    consults_along g.V.View (λ is v holds. (holds, listed_needed c.args.g.now c.args.inode.now c.args.n v)) (λ h. subst IsUnavailable (sym c.in-Unavailable.is) tt) c.in-Err.ensures.consults

pub returns-in-NotFound : goal.returns-in-NotFound
returns-in-NotFound g c = record {
  keeps = c.read_entries.ensures.keeps;
  levels = c.read_entries.ensures.levels;
  found = λ _ is v holds entries said.
      let bad = refused_said c.in-Err.fault _ c.in-NotFound.is ((c.in-Err.ensures.rule.rule is v holds).answer) in
      let no : true ≡ false = sym (ap (λ r. is_ok r) said) ∙ bad in cc;
  consults = consults_along g.V.View (λ is v holds. (holds, listed_needed c.args.g.now c.args.inode.now c.args.n v)) (λ h. let no : Ok true ≡ Ok false = h in cc) c.in-Err.ensures.consults;
}
