use Rattle.std.proofs.Common.{ap}
use Rattle.std.specs.Prelude.{Err}
use Rattle.std.proofs.lemmas.Result.{err_from_is_err_and}
use Rattle.dg_save.proofs.PartLemmas.{failed, rest_refused}
use Rattle.dg_save.proofs.parts.read_rest.Goals as goal

pub returns-in_err-recent : goal.returns-in_err-recent
returns-in_err-recent c =
    let p = err_from_is_err_and c.from_residual-in_err-recent.result c.from_residual-in_err-recent.ensures.1 in
    failed _ _ _ _ _ _ _ _ p.1 p.2
    (λ m. rest_refused _ _ _ _ c.if-format-eq1.false c.in_ok-copies.ensures.fits c.in_ok-copies.ensures.read (c.in_err-recent.ensures.malformed (ap Err m)))
