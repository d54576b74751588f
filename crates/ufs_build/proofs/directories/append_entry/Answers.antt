use Rattle.ufs_build.specs.Directories.{entry_bytes}
use Rattle.ufs_build.proofs.DirectoryLaws.{five}
use Rattle.ufs_build.proofs.directories.append_entry.Goals as goal

pub returns : goal.returns
unfolding entry_bytes
returns c =
    five c.args.bytes.now.items _ _ _ _ _ _ _ _ _ _ c.in_ok-append_u32.ensures c.in_ok-append_u16.ensures c.in_ok-append.ensures c.in_ok-append-2.ensures
    (rw c.from.ensures at c.in_ok-append_zeros.ensures)
