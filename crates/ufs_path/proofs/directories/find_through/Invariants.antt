use Rattle.std.proofs.Common.{◌≡◌, ◌-◌, ◌*◌, drop}
use Rattle.ufs_model.specs.Paths.{chunks_in, find_through}
use Rattle.ufs_path.proofs.directories.find_through.Given as goal

abbrev pub invariant-loop-i : goal.invariant-loop-i
invariant-loop-i l =
    find_through l.endian l.name (chunks_in (l.count - l.i) (drop (l.i * 512) l.bytes)) ≡ find_through l.endian l.name (chunks_in l.count l.bytes)
