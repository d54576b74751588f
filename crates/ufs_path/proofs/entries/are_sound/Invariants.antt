use Rattle.std.proofs.Common.{◌≡◌, ◌-◌, ◌*◌, drop}
use Rattle.ufs_model.specs.Paths.{chunks_in}
use Rattle.ufs_path.specs.Walks.{are_sound}
use Rattle.ufs_path.proofs.entries.are_sound.Given as goal

abbrev pub invariant-loop-i : goal.invariant-loop-i
invariant-loop-i l = are_sound l.endian (chunks_in (l.count - l.i) (drop (l.i * 512) l.bytes)) ≡ are_sound l.endian (chunks_in l.count l.bytes)
