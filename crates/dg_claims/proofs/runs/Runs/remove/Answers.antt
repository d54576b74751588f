use Rattle.std.proofs.Common.{◌∙◌, sym, ap, List}
use Rattle.ufs_model.specs.declared.claims.ClaimSource.{ClaimSource}
use Rattle.dg_claims.proofs.RunLaws.{at_entry}
use Rattle.dg_claims.specs.Runs.{run_at}
use Rattle.dg_claims.specs.declared.runs.Run.{Run}
use Rattle.dg_claims.proofs.runs.Runs.remove.Goals as goal

pub returns-clause-place : goal.returns-clause-place
returns-clause-place c = at_entry c.remove_in.new.map.entries c.args.place ∙ c.remove_in.ensures.place

pub returns-clause-others : goal.returns-clause-others
returns-clause-others c = λ other apart.
    at_entry c.remove_in.new.map.entries other ∙ c.remove_in.ensures.others other apart ∙ sym (at_entry c.self.inside.map.entries other)
    ∙ ap (λ (rs : List (ClaimSource × Run)). run_at rs other) c.self.view_is
