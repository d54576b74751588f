use Rattle.std.proofs.Common.{◌≡◌, ◌++◌, drop}
use Rattle.ufs_build.specs.Directories.{packed}
use Rattle.ufs_build.specs.Entries.{HasRoom, entries_in}
use Rattle.ufs_build.proofs.directories.pack.Given as goal

abbrev pub invariant-loop-k : goal.invariant-loop-k
invariant-loop-k l = record {
  packed : l.bytes.items ++ packed l.endian l.room (entries_in (drop l.k l.entries)) ≡ packed l.endian 512 (entries_in l.entries);
  room : HasRoom l.room (entries_in (drop l.k l.entries));
}
