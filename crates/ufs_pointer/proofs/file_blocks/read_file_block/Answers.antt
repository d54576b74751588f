use Rattle.std.proofs.Common.{◌≤◌, length}
use Rattle.ufs_model.specs.Paths.{bytes_in_block}
use Rattle.ufs_pointer.proofs.BlockLaws.{block_gone, block_hole, block_there, block_wild, fetches_gone, fetches_hole, fetches_there, fetches_wild, if_read, lost_gone, lost_there}
use Rattle.ufs_pointer.proofs.Sizes.{covers}
use Rattle.ufs_pointer.proofs.file_blocks.read_file_block.Goals as goal

pub returns-in-Hole-clause-rule : goal.returns-in-Hole-clause-rule
returns-in-Hole-clause-rule g c = block_hole _ _ _ c.file_block.ensures.keeps.stays c.in-Hole.ensures.rule

pub returns-in-Hole-clause-fetched : goal.returns-in-Hole-clause-fetched
returns-in-Hole-clause-fetched g c =
    fetches_hole _ _ _ g.met.V.View.fetched_both (g.met.V.View.fetched_none c.file_block.new.view) c.in-Hole.ensures.rule c.in-Hole.ensures.fetched

pub returns-in-Wild-clause-rule : goal.returns-in-Wild-clause-rule
returns-in-Wild-clause-rule g c = block_wild _ _ _ c.file_block.ensures.keeps.stays c.in-Wild.ensures.rule

pub returns-in-Wild-clause-fetched : goal.returns-in-Wild-clause-fetched
returns-in-Wild-clause-fetched g c =
    fetches_wild _ _ _ g.met.V.View.fetched_both (g.met.V.View.fetched_none c.file_block.new.view) c.in-Wild.ensures.rule c.in-Wild.ensures.fetched

pub returns-in-Gone-clause-rule : goal.returns-in-Gone-clause-rule
returns-in-Gone-clause-rule g c = block_gone _ _ _ c.in-Gone.ensures.rule

pub returns-in-Gone-clause-fetched : goal.returns-in-Gone-clause-fetched
returns-in-Gone-clause-fetched g c = fetches_gone _ _ _ c.in-Gone.ensures.fetched

pub returns-in-At-clause-rule : goal.returns-in-At-clause-rule
returns-in-At-clause-rule g c =
    let first = c.file_block.ensures.keeps in
    block_there _ _ _ _ _ first.stays first.stands c.read_run.ensures.keeps.told c.in-At.ensures.rule c.read_run.ensures.rule

pub returns-in-At-clause-fetched : goal.returns-in-At-clause-fetched
returns-in-At-clause-fetched g c =
    let first = c.file_block.ensures.keeps in
    fetches_there _ _ _ _ _ g.met.V.View.fetched_both first.stands c.read_run.ensures.keeps.told c.in-At.ensures.rule c.in-At.ensures.fetched c.read_run.ensures.fetched

pub returns-in-At-clause-covered : goal.returns-in-At-clause-covered
returns-in-At-clause-covered g c =
    let room : bytes_in_block c.args.g.now c.args.inode.now c.args.n ≤ length c.read_run.new.levels.block =
    rw (c.read_run.ensures.room, c.in-At.ensures.span) (covers c.args.g.now c.args.inode.now c.args.n c.requires.geometry.tests) in
    if_read _ c.read_run.result room

pub returns-in-Gone-clause-lost : goal.returns-in-Gone-clause-lost
returns-in-Gone-clause-lost g c = lost_gone _ _ _ c.in-Gone.ensures.lost

pub returns-in-At-clause-lost : goal.returns-in-At-clause-lost
returns-in-At-clause-lost g c =
    let first = c.file_block.ensures.keeps in
    lost_there c.args.g.now c.args.inode.now c.args.n _ c.read_run.result _ first.blocks first.stands c.read_run.ensures.keeps.told c.in-At.ensures.rule c.read_run.ensures.lost
