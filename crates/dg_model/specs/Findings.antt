-- The lines of an audit of a volume: every malformation, and then what belongs to nothing. The kinds and their order are this project's own.
use Rattle.std.specs.Prelude.{◌≡◌, ◌++◌, ℕ, List, map}
use Rattle.ufs_model.specs.Audits.{AreFindings}
use Rattle.ufs_model.specs.Blocks.{Volume}
use Rattle.ufs_model.specs.declared.malformations.BadKind.{BadKind}
use Rattle.dg_model.specs.declared.findings.Finding.{Finding}
use Rattle.dg_model.specs.declared.findings.Finding.TheVariants.{Bad, Unnamed, Unclaimed}

-- a malformation as a line
abbrev pub bad_line : BadKind × ℕ → Finding
bad_line found = Bad (found.0) (found.1)

-- These are the lines of an audit of a volume of n blocks of l bytes: each malformation once, in its order; and ascending each unnamed inode
-- and each unclaimed fragment.
pub record TellsFindings (l n : ℕ) (v : Volume) (lines : List Finding) : Type 0 where
  pub bad : List (BadKind × ℕ)
  pub unnamed : List ℕ
  pub unclaimed : List ℕ
  pub is : lines ≡ map bad_line bad ++ map Unnamed unnamed ++ map Unclaimed unclaimed
  pub are : AreFindings l n v bad unnamed unclaimed
