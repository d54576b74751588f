use Rattle.std.proofs.Common.{ap}
use Rattle.std.specs.Prelude.{Err}
use Rattle.std.proofs.lemmas.Result.{err_from_is_err_and}
use Rattle.dg_save.proofs.PartLemmas.{failed, none_behind, sites_once}
use Rattle.dg_save.proofs.parts.read_sites.Goals as goal

pub returns-in_err-read_site : goal.returns-in_err-read_site
returns-in_err-read_site c =
    let p = err_from_is_err_and c.from_residual-in_err-read_site.result c.from_residual-in_err-read_site.ensures.1 in
    failed _ _ _ _ _ _ _ _ p.1 p.2
    (λ m. none_behind sites_once _ _ _ _ _ c.loop-site.invariant c.loop-site-test.true (c.in_err-read_site.ensures.malformed (ap Err m)))
