-- Why a block is needed to read a file by its path. The words are this project's own.
use Rattle.std.specs.Prelude.{◌≡◌, ℕ, List, Ok}
use Rattle.ufs_model.specs.Blocks.{Volume}
use Rattle.ufs_model.specs.Trees.{file_of}
use Rattle.dg_model.specs.Volumes.{IsRegularFile, IsSystemBlock}
use Rattle.dg_model.specs.Wants.{IsOf}

-- Block b of a volume v of n blocks of l bytes is one of the file system itself, or belongs to an inode that is no regular file, or to the
-- file at the path.
pub data IsNeeded (l n : ℕ) (v : Volume) (path : List ℕ) (b : ℕ) : Type 0 where
  of_system : IsSystemBlock l n v b → IsNeeded l n v path b
  of_directory : (i : ℕ) → IsOf l n v b i → (IsRegularFile l n v i → ⊥) → IsNeeded l n v path b
  of_file : (i : ℕ) → (file_of l n path v).value ≡ Ok i → IsOf l n v b i → IsRegularFile l n v i → IsNeeded l n v path b
