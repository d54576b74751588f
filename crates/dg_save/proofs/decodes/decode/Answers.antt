use Rattle.std.proofs.Common.{ap}
use Rattle.std.specs.Prelude.{Err}
use Rattle.std.proofs.lemmas.Result.{IfOk-weaker}
use Rattle.dg_save.specs.Decodes.{IsDecoded}
use Rattle.dg_save.proofs.CheckLemmas.{decoded}
use Rattle.dg_save.proofs.FormLemmas.{parts_of_form}
use Rattle.dg_save.proofs.decodes.decode.Goals as goal

pub returns-in-Ok : goal.returns-in-Ok
returns-in-Ok c =
    IfOk-weaker _ _ (IsDecoded c.args.format c.args.shape.now c.args.body.now)
    (λ found is. decoded c.args.format c.args.shape.now c.args.body.now c.in-Ok.state found c.requires c.in-Ok.ensures.says is) c.if_saved.ensures

pub returns-in-Err-Malformed : goal.returns-in-Err-Malformed
returns-in-Err-Malformed c = λ saved is.
    c.in-Err-Malformed.ensures.malformed (ap Err c.in-Err-Malformed.field-0-is) saved (parts_of_form c.args.format c.args.shape.now saved is.numbers is.form) is.says
