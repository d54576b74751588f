use Rattle.std.proofs.Common.{ap}
use Rattle.std.specs.Prelude.{Err}
use Rattle.std.proofs.lemmas.Result.{err_from_is_err_and}
use Rattle.dg_save.proofs.PartLemmas.{failed, none_behind, homes_once}
use Rattle.dg_save.proofs.parts.read_each_home.Goals as goal

pub returns-in_err-read_home : goal.returns-in_err-read_home
returns-in_err-read_home c =
    let p = err_from_is_err_and c.from_residual-in_err-read_home.result c.from_residual-in_err-read_home.ensures.1 in
    failed _ _ _ _ _ _ _ _ p.1 p.2
    (λ m. none_behind homes_once _ _ _ _ _ c.loop-home.invariant c.loop-home-test.true (c.in_err-read_home.ensures.malformed (ap Err m)))
