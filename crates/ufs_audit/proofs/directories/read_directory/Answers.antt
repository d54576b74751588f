use Rattle.std.proofs.Common.{◌∙◌, ◌<◌, ◌≤◌, sym, arith}
use Rattle.ufs_audit.proofs.HolderLaws.{directory_decides, inode_there, one_block, read_value}
use Rattle.ufs_model.specs.Metadata.{IsMetadataBy}
use Rattle.ufs_model.specs.Metadata.IsMetadataBy.{of_inode}
use Rattle.ufs_pointer.specs.KindLaws.{loses_once, only_once}
use Rattle.ufs_audit.proofs.directories.read_directory.Goals as goal

pub returns-then-not-read_aside-clause-gone : goal.returns-then-not-read_aside-clause-gone
returns-then-not-read_aside-clause-gone g c =
    let inside : c.place_of-block.result.0 < g.V.View.count c.args.view.now = let low = c.place_of-block.ensures.inside in let most = c.requires.geometry.size in omega arith in
    loses_once (IsMetadataBy c.args.g.now) inside (c.read_aside.ensures.gone c.if-not-read_aside.true) (λ v stands. of_inode c.args.number c.requires.number c.place_of-block.ensures.block)

pub returns-then-not-read_aside-clause-fetched : goal.returns-then-not-read_aside-clause-fetched
returns-then-not-read_aside-clause-fetched g c =
    only_once (IsMetadataBy c.args.g.now) (λ v stands. of_inode c.args.number c.requires.number c.place_of-block.ensures.block) c.read_aside.ensures.once

pub returns-clause-found : goal.returns-clause-found
returns-clause-found g c = λ told v stands.
    let low : 2 ≤ c.args.number = omega arith in
    directory_decides c.args.g.now v c.args.number c.inode_at.result c.is_directory.result
    (c.inode_at.ensures ∙ sym (inode_there c.args.g.now v c.args.number _ _ low c.requires.number c.place_of-block.ensures.byte
    (c.aside.ensures ∙ rw (← c.place_of-block.ensures.block, c.requires.geometry.fsize)
    (read_value c.read_aside.result _ (rw one_block at c.read_aside.ensures.rule) c.if-not-read_aside.false told v stands))))
    c.is_directory.ensures

pub returns-clause-fetched : goal.returns-clause-fetched
returns-clause-fetched g c =
    only_once (IsMetadataBy c.args.g.now) (λ v stands. of_inode c.args.number c.requires.number c.place_of-block.ensures.block) c.read_aside.ensures.once
