use Rattle.dg_placed.proofs.UseLaws.{mark_none, mark_set}
use Rattle.dg_placed.proofs.files.mark_home.Goals as goal

pub returns-in-Some : goal.returns-in-Some
returns-in-Some c = mark_set c.args.homes.now c.args.inode c.in-Some.place c.args.used.now.items c.requires.homes c.requires.size c.in-Some.ensures

pub returns-in_default : goal.returns-in_default
returns-in_default c = mark_none c.args.homes.now c.args.inode c.args.used.now.items c.in_default.ensures
