use Rattle.std.proofs.Common.{ap, ◌∙◌, ◌++◌}
use Rattle.std.specs.Prelude.{Err, not}
use Rattle.std.proofs.lemmas.Result.{err_from_is_err_and}
use Rattle.dg_save.proofs.PartLemmas.{failed, flag_of_mark}
use Rattle.dg_save.proofs.parts.read_mark.Goals as goal

pub returns-in_err-out : goal.returns-in_err-out
returns-in_err-out c =
    let p = err_from_is_err_and c.from_residual.result c.from_residual.ensures.1 in
    failed _ _ _ _ _ _ _ _ p.1 p.2
    (λ m x rest fits says. c.in_err-out.ensures.malformed (ap Err m) (not x) rest tt (says ∙ ap (λ l. l ++ rest) (flag_of_mark x)))
