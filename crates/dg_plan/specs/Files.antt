-- The files that have a written block, with their numbers of blocks, ascending by inode.
use Rattle.std.specs.Prelude.{ℕ, Bool, false, ◌+◌, List, [], ◌∷◌, Option, Some, None, unwrap_or}
use Rattle.std.specs.Ordering.{nat_cmp}
use Rattle.std.specs.BTreeMap.{insert_entry, is_at}
use Rattle.std.specs.Map.{lookup}
use Rattle.dg_model.specs.Plans.{is_file}
use Rattle.dg_model.specs.declared.wants.Want.{Want}
use Rattle.dg_model.specs.declared.wants.Want.TheVariants.{Kept, File, Stray}

-- how many blocks these pairs have for file i
abbrev pub blocks_at : List (ℕ × ℕ) → ℕ → ℕ
blocks_at files i = unwrap_or (lookup (is_at (nat_cmp i)) files) 0

-- so many blocks of file i more
abbrev pub with_blocks : List (ℕ × ℕ) → ℕ → ℕ → List (ℕ × ℕ)
with_blocks files i count = insert_entry nat_cmp files i (blocks_at files i + count)

-- so many blocks more that are the same to the plan
abbrev pub add_want : ℕ → Option Want → List (ℕ × ℕ) → List (ℕ × ℕ)
add_want count None files = files
add_want count (Some Kept) files = files
add_want count (Some (File i)) files = with_blocks files i count
add_want count (Some Stray) files = files

-- the files of these blocks
abbrev pub files_with : List (Option Want) → List (ℕ × ℕ)
files_with [] = []
files_with (want ∷ wants) = add_want 1 want (files_with wants)

-- whether both blocks are of one file
abbrev pub are_of_one_file : Option Want → Option Want → Bool
are_of_one_file None other = false
are_of_one_file (Some Kept) other = false
are_of_one_file (Some (File i)) other = is_file i other
are_of_one_file (Some Stray) other = false
