use Rattle.std.proofs.Common.{◌≡◌, ◌++◌, map, take}
use Rattle.dg_model.specs.declared.findings.Finding.TheVariants.{Unnamed}
use Rattle.ufs_audit.proofs.told.tell_unnamed.Given as goal

abbrev pub invariant-loop-inode : goal.invariant-loop-inode
invariant-loop-inode l = l.lines.items ≡ l.fn.lines.items ++ map Unnamed (take l.inode-index l.inodes)
