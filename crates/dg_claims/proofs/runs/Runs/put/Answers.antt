use Rattle.std.proofs.Common.{◌∙◌, sym, ap, List}
use Rattle.ufs_model.specs.declared.claims.ClaimSource.{ClaimSource}
use Rattle.dg_claims.proofs.RunLaws.{at_entry, on_ok}
use Rattle.dg_claims.specs.Runs.{run_at}
use Rattle.dg_claims.specs.declared.runs.Run.{Run}
use Rattle.dg_claims.proofs.runs.Runs.put.Goals as goal

pub returns-clause-place : goal.returns-clause-place
returns-clause-place c = on_ok c.put_in.result (λ is. at_entry c.put_in.new.map.entries c.args.place ∙ is) c.put_in.ensures.place

pub returns-clause-others : goal.returns-clause-others
returns-clause-others c =
    on_ok c.put_in.result (λ is other apart. at_entry c.put_in.new.map.entries other ∙ is other apart ∙ sym (at_entry c.self.inside.map.entries other)
    ∙ ap (λ (rs : List (ClaimSource × Run)). run_at rs other) c.self.view_is) c.put_in.ensures.others
