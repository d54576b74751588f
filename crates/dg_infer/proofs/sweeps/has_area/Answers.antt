use Rattle.std.proofs.Common.{◌∙◌, sym, arith}
use Rattle.dg_infer.proofs.SweepLaws.{area_of_group, area_of_inode, first_inode}
use Rattle.dg_infer.proofs.sweeps.has_area.Goals as goal

pub returns-then-is_some-clause-area : goal.returns-then-is_some-clause-area
returns-then-is_some-clause-area c = λ is v.
    area_of_group c.args.g.now v c.args.place c.group_with.result (sym c.is_some.ensures ∙ c.if-is_some.true) c.group_with.ensures.within c.group_with.ensures.inside

pub returns-clause-area : goal.returns-clause-area
returns-clause-area c = λ is v.
    let some = first_inode c.inodes_near-first.result.0 c.inodes_near-first.result.1 is in
    area_of_inode c.args.g.now v c.args.place c.inodes_near-first.result.0 (let most = c.inodes_near-first.ensures.inside in omega (arith, some, most))
    (c.inodes_near-first.ensures.each c.inodes_near-first.result.0 (omega arith) some)
