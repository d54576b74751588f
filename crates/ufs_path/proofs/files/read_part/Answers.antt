use Rattle.std.proofs.Common.{◌∙◌, ap, take}
use Rattle.ufs_path.proofs.FileLaws.{part_hole, part_read, part_unread}
use Rattle.std.proofs.lemmas.List.{take-replicate}
use Rattle.ufs_path.proofs.ConsultLaws.{consults_along}
use Rattle.ufs_path.proofs.NeedLaws.{block_read}
use Rattle.ufs_path.proofs.files.read_part.Goals as goal

pub returns-in-Ok-Data-clause-rule : goal.returns-in-Ok-Data-clause-rule
returns-in-Ok-Data-clause-rule g c =
    part_read _ _ _ _ c.read_block.new.levels.block c.read_block.ensures.keeps.stays c.bytes_in_block-count.ensures.value
    (rw c.in-Ok-Data.field-0-is at c.in-Ok-Data.ensures.rule)

pub returns-in-Ok-Hole-clause-rule : goal.returns-in-Ok-Hole-clause-rule
returns-in-Ok-Hole-clause-rule g c =
    part_hole _ _ _ _ _ c.read_block.ensures.keeps.stays c.bytes_in_block-count.ensures.value
    (ap (take c.bytes_in_block-count.result) c.clear.ensures.block ∙ take-replicate c.bytes_in_block-count.result _ 0
    (rw (c.read_block.ensures.levels, c.requires.levels, ← c.requires.geometry.fsize) c.bytes_in_block-count.ensures.fits))
    (rw c.in-Ok-Hole.field-0-is at c.in-Ok-Hole.ensures.rule)

pub returns-in-Err-clause-rule : goal.returns-in-Err-clause-rule
returns-in-Err-clause-rule g c = part_unread _ _ _ c.in-Err.fault c.read_block.ensures.keeps.stays c.in-Err.ensures.rule

pub returns-in-Ok-Data-clause-consults : goal.returns-in-Ok-Data-clause-consults
returns-in-Ok-Data-clause-consults g c = consults_along g.V.View (λ is v holds. (holds, block_read c.args.g.now c.args.inode.now c.args.n v)) (λ h. absurd h) c.read_block.ensures.consults

pub returns-in-Ok-Hole-clause-consults : goal.returns-in-Ok-Hole-clause-consults
returns-in-Ok-Hole-clause-consults g c = consults_along g.V.View (λ is v holds. (holds, block_read c.args.g.now c.args.inode.now c.args.n v)) (λ h. absurd h) c.read_block.ensures.consults

pub returns-in-Err-clause-consults : goal.returns-in-Err-clause-consults
returns-in-Err-clause-consults g c = consults_along g.V.View (λ is v holds. (holds, block_read c.args.g.now c.args.inode.now c.args.n v)) (λ h. h) c.in-Err.ensures.consults
