use Rattle.std.proofs.Common.{◌∙◌, sym, ap, List}
use Rattle.ufs_model.specs.declared.claims.ClaimSource.{ClaimSource}
use Rattle.dg_claims.proofs.RunLaws.{at_entry}
use Rattle.dg_claims.specs.Runs.{run_at}
use Rattle.dg_claims.specs.declared.runs.Run.{Run}
use Rattle.dg_claims.proofs.runs.Runs.get.Goals as goal

pub returns : goal.returns
returns c = c.get_in.ensures ∙ sym (at_entry c.self.inside.map.entries c.args.place) ∙ ap (λ (rs : List (ClaimSource × Run)). run_at rs c.args.place) c.self.view_is
