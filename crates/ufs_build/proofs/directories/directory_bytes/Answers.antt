use Rattle.std.proofs.Common.{◌∙◌, ap}
use Rattle.ufs_build.specs.Directories.{directory_bytes, packed}
use Rattle.ufs_build.specs.Entries.{entries_in}
use Rattle.ufs_build.proofs.DirectoryLaws.{has_room}
use Rattle.ufs_build.proofs.directories.directory_bytes.Goals as goal

pub pack-requires : goal.pack-requires
pack-requires c =
    has_room c.args.items.now c.args.parents.now c.args.directory c.args.up _ (ap entries_in c.deref.ensures.value ∙ c.in_ok-entries.ensures)

pub returns : goal.returns
unfolding directory_bytes
returns c =
    c.in_ok-bytes.ensures ∙ ap (λ entries. packed c.args.endian 512 entries) (ap entries_in c.deref.ensures.value ∙ c.in_ok-entries.ensures)
