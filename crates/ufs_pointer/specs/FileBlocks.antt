-- What a read of a file block says.
use Rattle.std.specs.Prelude.{ℕ, List, Option, Some, None, Result, Ok, Err}
use Rattle.ufs_model.specs.declared.reads.BadRead.TheVariants.{Wild as BadWild}
use Rattle.ufs_model.specs.declared.reads.PathRefusal.{PathRefusal}
use Rattle.ufs_model.specs.declared.reads.PathRefusal.TheVariants.{Bad}
use Rattle.ufs_pointer.specs.declared.file_blocks.FileBlock.{FileBlock}
use Rattle.ufs_pointer.specs.declared.file_blocks.FileBlock.TheVariants.{Data, Hole, Wild}

-- where there are bytes
abbrev pub IfData : FileBlock → Type 0 → Type 0
IfData Data holds = holds
IfData Hole holds = Unit {0}
IfData Wild holds = Unit {0}

-- what a read of a file block says, whose bytes are in the buffer
abbrev pub block_said : Option FileBlock → List ℕ → Option (Result (Option (List ℕ)) PathRefusal)
block_said None block = None
block_said (Some Data) block = Some (Ok (Some block))
block_said (Some Hole) block = Some (Ok None)
block_said (Some Wild) block = Some (Err (Bad BadWild))
