use Rattle.std.proofs.Common.{◌≡◌, ◌∙◌, ◌+◌, length, ap, sym, arith}
use Rattle.std.proofs.lemmas.List.{length-map}
use Rattle.ufs_build.specs.Directories.{directories_of}
use Rattle.ufs_build.specs.Nodes.{nodes_of}
use Rattle.ufs_build.specs.Placings.{file_of, files_of}
use Rattle.ufs_build.proofs.BuildLaws.{directories_length, nodes_length}
use Rattle.ufs_build.proofs.builds.volume_of_items.Goals as goal

pub nodes_of-requires : goal.nodes_of-requires
nodes_of-requires c =
    let made : c.in-Ok.directories.items ≡ directories_of c.args.g.now.endian c.args.items.now c.args.parents.now = c.in-Ok.ensures in
    ap length (c.deref.ensures.value ∙ made) ∙ directories_length c.args.g.now.endian c.args.items.now c.args.parents.now c.requires.parents

pub volume_of_files-requires-clause-few : goal.volume_of_files-requires-clause-few
volume_of_files-requires-clause-few c =
    let made : c.in-Ok.directories.items ≡ directories_of c.args.g.now.endian c.args.items.now c.args.parents.now = c.in-Ok.ensures in
    let directories : length c.deref.result.now ≡ length c.args.items.now + 1 =
    ap length (c.deref.ensures.value ∙ made) ∙ directories_length c.args.g.now.endian c.args.items.now c.args.parents.now c.requires.parents in
    let files : files_of c.in-Ok-nodes_of.nodes.items ≡ nodes_of c.args.items.now c.deref.result.now = c.in-Ok-nodes_of.ensures in
    let each : length c.in-Ok-nodes_of.nodes.items ≡ length c.args.items.now + 1 =
    sym (length-map c.in-Ok-nodes_of.nodes.items file_of) ∙ ap length files ∙ nodes_length c.args.items.now c.deref.result.now directories in
    let nodes : length c.deref-2.result.now ≡ length c.args.items.now + 1 = ap length c.deref-2.ensures.value ∙ each in
    omega (arith, c.requires.few)
