use Rattle.std.proofs.Common.{◌<◌, ◌∙◌, ◌+◌, ◌++◌, length, refl, ap, sym}
use Rattle.ufs_build.specs.Directories.{directory_entries}
use Rattle.ufs_build.specs.Entries.{entries_in}
use Rattle.ufs_build.proofs.DirectoryLaws.{entries_begun, two_begun}
use Rattle.ufs_build.proofs.directories.directory_entries.Goals as goal

pub loop-k-init : goal.loop-k-init
unfolding directory_entries
loop-k-init c =
    two_begun _ _ _ _ _ _ _ _ (ap entries_in c.new-entries.ensures.items) c.in_ok-push_entry.ensures c.in_ok-push_entry-2.ensures c.own_entry.ensures c.own_entry-2.ensures

pub loop-k-preserved : goal.loop-k-preserved
loop-k-preserved c =
    let low : c.loop-k.k < length c.args.parents.now = rw (c.requires.parents) c.loop-k-test.true in
    c.in_ok-push_item.ensures _
    ∙ ap (λ r. entries_in c.loop-k.entries.items ++ r)
    (sym (entries_begun c.args.directory c.loop-k.k (c.loop-k.k + 1) c.args.items.now c.args.parents.now c.index-items-k.result c.loop-k-test.true low
    c.index-items-k.is refl))
    ∙ c.loop-k.invariant
