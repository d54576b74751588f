use Rattle.ufs_frames.proofs.BlockLaws.{local_block, local_chunks, local_file_block, local_free, local_group, local_inode, local_unused}
use Rattle.ufs_frames.proofs.PathLaws.{local_contents, local_entries, local_listing, local_look}
use Rattle.ufs_frames.proofs.readings.parts_are_local.Goals as goal

pub returns-clause-inode : goal.returns-clause-inode
returns-clause-inode c = local_inode

pub returns-clause-group : goal.returns-clause-group
returns-clause-group c = local_group

pub returns-clause-free : goal.returns-clause-free
returns-clause-free c = local_free

pub returns-clause-unused : goal.returns-clause-unused
returns-clause-unused c = local_unused

pub returns-clause-address : goal.returns-clause-address
returns-clause-address c = local_file_block

pub returns-clause-block : goal.returns-clause-block
returns-clause-block c = local_block

pub returns-clause-contents : goal.returns-clause-contents
returns-clause-contents c = local_contents

pub returns-clause-chunks : goal.returns-clause-chunks
returns-clause-chunks c = local_chunks

pub returns-clause-entries : goal.returns-clause-entries
returns-clause-entries c = local_entries

pub returns-clause-listing : goal.returns-clause-listing
returns-clause-listing c = local_listing

pub returns-clause-look : goal.returns-clause-look
returns-clause-look c = local_look
