use Rattle.ufs_path.proofs.DirectoryLaws.{block_unread, found_in, not_in_hole}
use Rattle.ufs_path.proofs.ConsultLaws.{consults_along}
use Rattle.ufs_path.proofs.NeedLaws.{block_found}
use Rattle.ufs_path.proofs.directories.find_in_block.Goals as goal

pub returns-in-Ok-Data-clause-rule : goal.returns-in-Ok-Data-clause-rule
returns-in-Ok-Data-clause-rule g c =
    found_in c.args.g.now c.args.inode.now c.args.name.now c.args.n c.read_block.new.levels.block _ _ c.read_block.ensures.keeps.stays
    (rw (c.bytes_in_block-chunks.ensures.value, c.block.ensures) at c.find_through.ensures) c.or_bad_chunk.ensures.value (rw c.in-Ok-Data.field-0-is at c.in-Ok-Data.ensures.rule)

pub returns-in-Ok-Hole-clause-rule : goal.returns-in-Ok-Hole-clause-rule
returns-in-Ok-Hole-clause-rule g c =
    not_in_hole c.args.g.now c.args.inode.now c.args.name.now c.args.n c.read_block.ensures.keeps.stays (rw c.in-Ok-Hole.field-0-is at c.in-Ok-Hole.ensures.rule)

pub returns-in-Err-clause-rule : goal.returns-in-Err-clause-rule
returns-in-Err-clause-rule g c =
    block_unread c.args.g.now c.args.inode.now c.args.name.now c.args.n c.in-Err.fault c.read_block.ensures.keeps.stays c.in-Err.ensures.rule

pub returns-in-Ok-Data-clause-consults : goal.returns-in-Ok-Data-clause-consults
returns-in-Ok-Data-clause-consults g c = consults_along g.V.View (λ is v holds. (holds, block_found c.args.g.now c.args.inode.now c.args.name.now c.args.n v)) (λ h. absurd (c.or_bad_chunk.ensures.read h)) c.read_block.ensures.consults

pub returns-in-Ok-Hole-clause-consults : goal.returns-in-Ok-Hole-clause-consults
returns-in-Ok-Hole-clause-consults g c = consults_along g.V.View (λ is v holds. (holds, block_found c.args.g.now c.args.inode.now c.args.name.now c.args.n v)) (λ h. absurd h) c.read_block.ensures.consults

pub returns-in-Err-clause-consults : goal.returns-in-Err-clause-consults
returns-in-Err-clause-consults g c = consults_along g.V.View (λ is v holds. (holds, block_found c.args.g.now c.args.inode.now c.args.name.now c.args.n v)) (λ h. h) c.in-Err.ensures.consults
