use Rattle.std.proofs.Common.{◌<◌, ◌∙◌, ◌+◌, length, refl}
use Rattle.ufs_build.proofs.PartLaws.{file_step}
use Rattle.ufs_build.proofs.images.put_files.Goals as goal

pub loop-k-preserved : goal.loop-k-preserved
loop-k-preserved c =
    let low : c.loop-k.k < length c.args.files.now = rw (← c.requires.each) c.loop-k-test.true in
    file_step c.args.g.now c.args.nodes.now c.args.files.now c.loop-k.k (c.loop-k.k + 1) c.index-nodes-k.result c.index-files-k.result _ _ c.loop-k-test.true low
    c.index-nodes-k.is c.index-files-k.is refl c.in_ok-put_file.ensures
    ∙ c.loop-k.invariant
