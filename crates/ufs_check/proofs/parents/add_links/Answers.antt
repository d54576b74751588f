use Rattle.ufs_check.proofs.OwnedLaws.{owned_read}
use Rattle.ufs_check.proofs.ParentLaws.{parents_end, parents_next}
use Rattle.ufs_check.proofs.parents.add_links.Goals as goal

pub loop-entry-preserved : goal.loop-entry-preserved
loop-entry-preserved c = λ g v all so_far.
    parents_next g v c.args.i c.loop-entry.entry-index c.args.entries.now c.entry-item.result c.loop-entry.parents c.add_link.new.parents all
    (owned_read c.args.entries.now c.loop-entry.entry-index c.entry-item.result c.loop-entry-test.true c.entry-item.is)
    c.in_ok-add_link.ensures (c.loop-entry.invariant g v all so_far)

pub returns : goal.returns
returns c = λ g v all so_far.
    parents_end g v c.args.i c.loop-entry.entry-index c.args.entries.now c.loop-entry.parents all.are c.loop-entry-test.false (c.loop-entry.invariant g v all so_far)
