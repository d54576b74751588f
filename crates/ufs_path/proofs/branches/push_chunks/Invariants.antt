use Rattle.std.proofs.Common.{◌≡◌, ◌++◌, ◌-◌, ◌*◌, List, drop}
use Rattle.ufs_model.specs.Chunks.{DirEntry}
use Rattle.ufs_model.specs.Paths.{chunks_in}
use Rattle.ufs_path.specs.Trees.{AddsBranches}
use Rattle.ufs_path.specs.Walks.{entries_among}
use Rattle.ufs_path.proofs.branches.push_chunks.Given as goal

abbrev pub invariant-loop-k : goal.invariant-loop-k
invariant-loop-k l =
    (done : List DirEntry) × (entries_among l.endian (chunks_in l.count l.block) ≡ done ++ entries_among l.endian (chunks_in (l.count - l.k) (drop (l.k * 512) l.block)))
    × AddsBranches l.depth done l.fn.kept.items l.kept.items
