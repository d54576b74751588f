use Rattle.ufs_frames.proofs.VolumeLaws.{local_cat_of, local_file_of, local_geometry, local_look_of, local_ls_of, local_tree_of}
use Rattle.ufs_frames.proofs.readings.readings_are_local.Goals as goal

pub returns-clause-geometry : goal.returns-clause-geometry
returns-clause-geometry c = local_geometry

pub returns-clause-look : goal.returns-clause-look
returns-clause-look c = local_look_of

pub returns-clause-cat : goal.returns-clause-cat
returns-clause-cat c = local_cat_of

pub returns-clause-ls : goal.returns-clause-ls
returns-clause-ls c = local_ls_of

pub returns-clause-file : goal.returns-clause-file
returns-clause-file c = local_file_of

pub returns-clause-tree : goal.returns-clause-tree
returns-clause-tree c = local_tree_of
