use Rattle.std.proofs.Common.{◌<◌, ◌∙◌, ◌+◌, ◌++◌, length, refl, ap, sym}
use Rattle.ufs_build.specs.Directories.{directories_of}
use Rattle.ufs_build.proofs.DirectoryLaws.{directories_begun, one_begun}
use Rattle.ufs_build.proofs.ListSteps.{moved_as}
use Rattle.ufs_build.proofs.directories.directories_of.Goals as goal

pub loop-k-init : goal.loop-k-init
unfolding directories_of
loop-k-init c =
    one_begun _ _ _ _ _ c.new-directories.ensures.items c.in_ok-push_bytes.ensures c.in_ok-root.ensures

pub loop-k-preserved : goal.loop-k-preserved
loop-k-preserved c =
    let low : c.loop-k.k < length c.args.parents.now = rw (c.requires.parents) c.loop-k-test.true in
    moved_as c.loop-k.directories.items _ _ _ c.in_ok-bytes.bytes.items _ c.in_ok-push_bytes-2.ensures c.in_ok-bytes.ensures
    (ap (λ r. c.loop-k.directories.items ++ r)
    (sym (directories_begun c.args.endian c.args.items.now c.args.parents.now c.loop-k.k (c.loop-k.k + 1) c.args.items.now c.args.parents.now
    c.index-items-k.result c.loop-k-test.true low c.index-items-k.is refl))
    ∙ c.loop-k.invariant)
