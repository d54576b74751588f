use Rattle.std.proofs.Common.{◌≡◌, ◌++◌, ◌+◌, drop}
use Rattle.ufs_build.specs.Nodes.{item_nodes, nodes_of}
use Rattle.ufs_build.specs.Placings.{files_of}
use Rattle.ufs_build.proofs.nodes.nodes_of.Given as goal

abbrev pub invariant-loop-k : goal.invariant-loop-k
invariant-loop-k l = files_of l.nodes.items ++ item_nodes (drop l.k l.items) (drop (l.k + 1) l.directories) ≡ nodes_of l.items l.directories
