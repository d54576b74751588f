use Rattle.ufs_frames.proofs.LooseLaws.{cat_used, file_used, look_used, ls_used, structure_used, tree_used}
use Rattle.ufs_frames.proofs.loose_blocks.needed_blocks_are_used.Goals as goal

pub returns-clause-structure : goal.returns-clause-structure
returns-clause-structure c = λ l n v g b is h. structure_used l n v g is b h

pub returns-clause-look : goal.returns-clause-look
returns-clause-look c = λ l n v g path b is whole h. look_used l n v g is whole path b h

pub returns-clause-cat : goal.returns-clause-cat
returns-clause-cat c = λ l n v g path b is whole h. cat_used l n v g is whole path b h

pub returns-clause-ls : goal.returns-clause-ls
returns-clause-ls c = λ l n v g path b is whole h. ls_used l n v g is whole path b h

pub returns-clause-file : goal.returns-clause-file
returns-clause-file c = λ l n v g path b is whole h. file_used l n v g is whole path b h

pub returns-clause-tree : goal.returns-clause-tree
returns-clause-tree c = λ l n v g b is whole h. tree_used l n v g is whole b h
