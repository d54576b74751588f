-- The volume of a drill.
use Rattle.ufs_build.specs.declared.volumes.Spec.{Spec}
use Rattle.ufs_model.specs.declared.numbers.Endian.TheVariants.{Little}

-- sixteen groups of 2048 fragments of 1024 bytes, each with 256 inodes: 32 MiB
abbrev pub drill_spec : Spec
drill_spec = record { l = 1024; frag = 8; ncg = 16; fpg = 2048; ipg = 256; cgoffset = 32; cgmask = 0xfffffff8; endian = Little }
