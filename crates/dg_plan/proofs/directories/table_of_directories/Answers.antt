use Rattle.std.proofs.Common.{◌<◌, ◌≡◌, ◌-◌, ◌+◌, length, arith}
use Rattle.dg_model.specs.declared.parents.Parent.{Parent}
use Rattle.dg_plan.proofs.BesideLaws.{directory_more}
use Rattle.dg_plan.proofs.directories.table_of_directories.Goals as goal

pub loop-place-preserved : goal.loop-place-preserved
loop-place-preserved c =
    let inv = c.loop-place.invariant.within in
    let k = c.loop-place.place - 1 in
    let some = c.loop-place-test.true in
    let below : k < length c.args.parents.now = omega arith in
    let one : c.loop-place.place ≡ k + 1 = omega arith in
    let none : Parent = record { inode = 0; directory = 0 } in
    record {
      within = omega arith;
      are = directory_more c.args.parents.now k c.loop-place.place none c.loop-place.table c.insert.new.self one below c.loop-place.invariant.are c.in-Ok.ensures.updates.0;
    }
