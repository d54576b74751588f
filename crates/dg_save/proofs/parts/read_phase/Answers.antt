use Rattle.std.proofs.Common.{ap, ◌∙◌, ◌++◌}
use Rattle.std.specs.Prelude.{Err}
use Rattle.std.proofs.lemmas.Result.{err_from_is_err_and}
use Rattle.dg_model.specs.Saves.{phase_byte}
use Rattle.dg_save.proofs.PartLemmas.{failed, phase_number}
use Rattle.dg_save.proofs.parts.read_phase.Goals as goal

pub returns-in_err-number : goal.returns-in_err-number
returns-in_err-number c =
    let p = err_from_is_err_and c.from_residual.result c.from_residual.ensures.1 in
    failed _ _ _ _ _ _ _ _ p.1 p.2
    (λ m x rest fits says. c.in_err-number.ensures.malformed (ap Err m) (phase_byte x) rest (phase_number x).0 (says ∙ ap (λ l. l ++ rest) (phase_number x).1))
