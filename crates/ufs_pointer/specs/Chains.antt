-- What stands at the end of a chain.
use Rattle.std.specs.Prelude.{ℕ}
use Rattle.ufs_model.specs.Inodes.{span}
use Rattle.ufs_model.specs.declared.geometries.Geometry.{Geometry}
use Rattle.ufs_model.specs.declared.inodes.Inode.{Inode}
use Rattle.ufs_model.specs.declared.pointers.Chain.{Chain}
use Rattle.ufs_model.specs.declared.pointers.Chain.TheVariants.{Direct, One, Two, Three}

-- the fragments of the block at the end of a chain: those of its slot, or of a whole file block
abbrev pub chain_span : Geometry → Inode → Chain → ℕ
chain_span g inode (Direct slot) = span g inode slot
chain_span g inode (One i) = g.frag
chain_span g inode (Two i j) = g.frag
chain_span g inode (Three i j k) = g.frag
