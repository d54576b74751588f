use Rattle.std.proofs.Common.{◌∙◌, sym, ap}
use Rattle.dg_claims.proofs.LevelLaws.{run_fits}
use Rattle.dg_claims.proofs.SourceLaws.{kept_run}
use Rattle.dg_claims.specs.Kept.{KeptClaims}
use Rattle.dg_claims.specs.Runs.{run_at, run_fragments}
use Rattle.dg_claims.proofs.claims.Claims.run.Goals as goal

pub returns-in_err-place-clause-value : goal.returns-in_err-place-clause-value
returns-in_err-place-clause-value c = ap run_fragments c.from_residual.ensures ∙ sym c.in_err-place.ensures.none

pub returns-clause-value : goal.returns-clause-value
returns-clause-value c =
    kept_run c.args.self.now.runs c.args.source.now c.in_ok-place.place c.get.result c.in_ok-place.ensures.place (c.get.ensures ∙ ap (λ (k : KeptClaims). run_at k.runs c.in_ok-place.place) c.self.view_is)

pub returns-clause-run : goal.returns-clause-run
returns-clause-run c = run_fits c.self.inside c.args.self.now c.in_ok-place.place c.get.result c.self.view_is c.self.invariant c.get.ensures
