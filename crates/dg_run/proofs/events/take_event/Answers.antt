use Rattle.std.proofs.Common.{◌<◌, sym, arith}
use Rattle.std.specs.Option.{option_copied}
use Rattle.dg_text.specs.Lines.{longest}
use Rattle.dg_run.proofs.Refusing.{refused_cut, refused_full}
use Rattle.dg_run.proofs.ToldSteps.{Told-each}
use Rattle.dg_run.proofs.events.take_event.Goals as goal

pub returns-in-Ok-Full-clause-took : goal.returns-in-Ok-Full-clause-took
returns-in-Ok-Full-clause-took g c =
    let shape = option_copied c.args.shape in
    let most = c.longest_line-most in
    let took = rw c.in-Ok-Full.field-0-is at c.in-Ok-Full.ensures.took in
    Told-each _ _ (λ a b full. refused_full shape most.result c.args.room a c.judge_full.result (omega (arith, most.ensures.value)) most.ensures.fits (c.judge_full.ensures.fits shape a (sym most.ensures.value) full) full) _ _ took

pub returns-in-Ok-Cut-clause-took : goal.returns-in-Ok-Cut-clause-took
returns-in-Ok-Cut-clause-took g c =
    let shape = option_copied c.args.shape in
    let arm = c.in-Ok-Cut in
    let most = c.longest_line-most in
    let step = rw arm.field-0-is at arm.ensures.step in
    let took = rw arm.field-0-is at arm.ensures.took in
    let short : arm.n < longest shape = omega (arith, step, most.ensures.value) in
    Told-each _ _ (λ a b cut. refused_cut shape arm.n c.args.room a c.judge_cut.result (c.judge_cut.ensures.fits shape a short cut) cut) _ _ took
