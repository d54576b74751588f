use Rattle.std.proofs.Common.{ap}
use Rattle.std.specs.Prelude.{Err}
use Rattle.std.proofs.lemmas.Result.{err_from_is_err_and}
use Rattle.dg_save.proofs.PartLemmas.{failed, none_behind, numbers_once}
use Rattle.dg_save.proofs.parts.read_numbers.Goals as goal

pub returns-in_err-number : goal.returns-in_err-number
returns-in_err-number c =
    let p = err_from_is_err_and c.from_residual-in_err-number.result c.from_residual-in_err-number.ensures.1 in
    failed _ _ _ _ _ _ _ _ p.1 p.2
    (λ m. none_behind numbers_once _ _ _ _ _ c.loop-number.invariant c.loop-number-test.true (c.in_err-number.ensures.malformed (ap Err m)))
