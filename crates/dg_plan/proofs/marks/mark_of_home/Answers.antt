use Rattle.std.proofs.Common.{sym}
use Rattle.dg_plan.proofs.MarkLaws.{home_none, home_some}
use Rattle.dg_plan.proofs.marks.mark_of_home.Goals as goal

pub returns-in-Some : goal.returns-in-Some
returns-in-Some c =
    let found = sym c.in-Some.ensures.value in
    home_some c.args.homes.now c.args.inode c.in-Some.boundary.now found (c.requires c.args.inode c.in-Some.boundary.now found)

pub returns-in-None : goal.returns-in-None
returns-in-None c = home_none c.args.homes.now c.args.inode (sym c.in-None.ensures.value)
