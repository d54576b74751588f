use Rattle.std.proofs.Common.{◌≢◌, ◌%◌, ◌⊎◌}
use Rattle.ufs_model.specs.Malformations.{HasBadChunk, HasHole, IsBad}
use Rattle.ufs_model.specs.declared.malformations.BadKind.TheVariants.{Hole, Chunk}
use Rattle.ufs_check.proofs.FaultLaws.{HasSmallChunk, HasSmallHole, bad_chunk_decides, directory_decides, has_hole_decides, small_decides}
use Rattle.ufs_check.proofs.NoteLaws.{all_noted}
use Rattle.ufs_check.proofs.directories.note_blocks.Goals as goal

pub returns-clause-blocks : goal.returns-clause-blocks
returns-clause-blocks c = λ g v is kind whole so_far.
    let i = c.args.i in
    let inode = c.args.inode.now in
    let scan = c.args.scan.now in record {
      hole = all_noted (IsBad g v Hole) i _ _ scan.hole c.in_ok-note.ensures
          (directory_decides g v i (HasSmallHole g v) inode scan.hole is kind (small_decides inode.size scan.hole (HasHole g v inode) c.requires (has_hole_decides g inode v scan.hole whole.hole))) so_far.hole;
      chunk = all_noted (IsBad g v Chunk) i _ _ c.has_bad_chunk.result c.in_ok-note-2.ensures
          (directory_decides g v i (HasSmallChunk g v) inode c.has_bad_chunk.result is kind
          (small_decides inode.size c.has_bad_chunk.result ((inode.size % 512 ≢ 0) ⊎ HasBadChunk g v inode) c.requires
          (bad_chunk_decides g inode v c.has_bad_chunk.result scan.chunk c.has_bad_chunk.ensures whole.chunk))) so_far.chunk;
    }
