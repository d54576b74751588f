use Rattle.ufs_build.proofs.volumes.put_superblock.Goals as goal

pub returns : goal.returns
returns c = rw c.superblock_fields-fields.ensures at c.put_fields.ensures
