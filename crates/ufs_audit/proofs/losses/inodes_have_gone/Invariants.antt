use Rattle.std.proofs.Common.{◌≡◌, ◌<◌, ℕ, false}
use Rattle.ufs_model.specs.Inodes.{inode_block}
use Rattle.ufs_audit.proofs.losses.inodes_have_gone.Given as goal

abbrev pub invariant-loop-i : goal.invariant-loop-i
invariant-loop-i g l = (j : ℕ) → j < l.i → g.V.View.is_gone l.view (inode_block l.g j) ≡ false
