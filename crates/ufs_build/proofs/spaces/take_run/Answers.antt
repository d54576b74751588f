use Rattle.std.proofs.Common.{◌<◌, arith}
use Rattle.ufs_build.specs.Spaces.{NoneBelow}
use Rattle.ufs_build.proofs.SpaceLaws.{lowest_is, lowest_none, searched_marked, searched_set}
use Rattle.ufs_build.proofs.spaces.take_run.Goals as goal

pub returns-then-a-g-clause-place : goal.returns-then-a-g-clause-place
returns-then-a-g-clause-place c =
    let below : NoneBelow c.args.g.now c.args.space.now.used.items c.args.k c.next_fit-a.result = rw c.deref.ensures.value at c.next_fit-a.ensures.below in
    lowest_none c.args.g.now c.args.space.now.used.items c.args.k c.next_fit-a.result c.if-a-g.true below

pub returns-clause-place : goal.returns-clause-place
returns-clause-place c =
    let below : NoneBelow c.args.g.now c.args.space.now.used.items c.args.k c.next_fit-a.result = rw c.deref.ensures.value at c.next_fit-a.ensures.below in
    let inside = c.next_fit-a.ensures.inside in
    let differ = c.if-a-g.false in
    let low : c.next_fit-a.result < c.args.g.now.size = omega arith in
    lowest_is c.args.g.now c.args.space.now.used.items c.args.k c.next_fit-a.result below low
    (rw c.deref.ensures.value at (c.next_fit-a.ensures.here low))

pub returns-clause-searched : goal.returns-clause-searched
returns-clause-searched c =
    let below : NoneBelow c.args.g.now c.args.space.now.used.items c.args.k c.next_fit-a.result = rw c.deref.ensures.value at c.next_fit-a.ensures.below in
    rw c.mark.ensures
    (searched_marked c.args.g.now c.args.space.now.used.items _ c.next_fit-a.result c.args.k
    (searched_set c.args.g.now c.args.space.now.used.items c.args.space.now.searched.items c.args.k c.next_fit-a.result c.requires.searched c.requires.count
    below c.next_fit-a.ensures.inside))
