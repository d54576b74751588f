use Rattle.std.proofs.Common.{subst}
use Rattle.std.specs.Prelude.{Result}
use Rattle.dg_volume.specs.Planned.{AnswersCheck}
use Rattle.dg_volume.specs.declared.settles.Unsettled.{Unsettled}
use Rattle.dg_volume.proofs.OpenLaws.{bad_check}
use Rattle.dg_volume.proofs.ArrayLaws.{read_none}
use Rattle.dg_volume.proofs.opens.is_in_order.Goals as goal

pub returns-clause-order : goal.returns-clause-order
returns-clause-order g c =
    let old = c.args.store.now in
    let new = c.checked.new.store in
    bad_check g.R.Rack old new c.args.inference.now c.args.homes.now c.args.copies.now c.in-Err.field-0
    (subst (λ (r : Result (Unit {0}) Unsettled). AnswersCheck g.R.Rack old new c.args.inference.now r) c.in-Err.is c.in_ok-checked.ensures.answer)

pub returns-in_err-wants-clause-reads : goal.returns-in_err-wants-clause-reads
returns-in_err-wants-clause-reads g c = read_none g.R.Rack c.args.store.now c.requires.sound

pub returns-in_err-is_placed-clause-reads : goal.returns-in_err-is_placed-clause-reads
returns-in_err-is_placed-clause-reads g c = read_none g.R.Rack c.args.store.now c.requires.sound

pub returns-then-not-branch-clause-reads : goal.returns-then-not-branch-clause-reads
returns-then-not-branch-clause-reads g c = read_none g.R.Rack c.args.store.now c.requires.sound
