use Rattle.std.proofs.Common.{ap}
use Rattle.std.specs.Prelude.{Err}
use Rattle.std.proofs.lemmas.Result.{err_from_is_err_and}
use Rattle.dg_save.proofs.PartLemmas.{failed, none_behind, marks_once}
use Rattle.dg_save.proofs.parts.read_good.Goals as goal

pub returns-in_err-read_mark : goal.returns-in_err-read_mark
returns-in_err-read_mark c =
    let p = err_from_is_err_and c.from_residual-in_err-read_mark.result c.from_residual-in_err-read_mark.ensures.1 in
    failed _ _ _ _ _ _ _ _ p.1 p.2
    (λ m. none_behind marks_once _ _ _ _ _ c.loop-member.invariant c.loop-member-test.true (c.in_err-read_mark.ensures.malformed (ap Err m)))
