use Rattle.std.specs.Prelude.{Some, None}
use Rattle.dg_placed.proofs.StandLaws.{by_homes}
use Rattle.dg_placed.proofs.standing.stand_on_homes.Goals as goal

pub returns-in-Some-Some : goal.returns-in-Some-Some
returns-in-Some-Some c =
    let arm = c.in-Some-Some in
    by_homes c.args.sites.now c.args.home c.args.copy (Some arm.home) (Some arm.copy) c.stand_on_just.result arm.is-0 arm.is-1 c.stand_on_just.ensures

pub returns-in-Some-None : goal.returns-in-Some-None
returns-in-Some-None c =
    let arm = c.in-Some-None in
    by_homes c.args.sites.now c.args.home c.args.copy (Some arm.home) None c.stand_on_just-in-Some-None.result arm.is-0 arm.is-1 c.stand_on_just-in-Some-None.ensures

pub returns-in-None-Some : goal.returns-in-None-Some
returns-in-None-Some c =
    let arm = c.in-None-Some in
    by_homes c.args.sites.now c.args.home c.args.copy None (Some arm.copy) c.stand_on_just-in-None-Some.result arm.is-0 arm.is-1 c.stand_on_just-in-None-Some.ensures

pub returns-in-None-None : goal.returns-in-None-None
returns-in-None-None c =
    let arm = c.in-None-None in
    by_homes c.args.sites.now c.args.home c.args.copy None None c.stand_on_just-in-None-None.result arm.is-0 arm.is-1 c.stand_on_just-in-None-None.ensures
