-- The paths of a listing of all directories, and which files of it lost a block. The rules are this project's own.
use Rattle.std.specs.Prelude.{◌≡◌, ◌⊎◌, ◌++◌, ◌-◌, ℕ, Bool, true, List, [], ◌∷◌, take}
use Rattle.ufs_model.specs.Blocks.{Volume}
use Rattle.ufs_model.specs.Listings.{Listed}
use Rattle.ufs_model.specs.declared.inodes.Kind.TheVariants.{Regular}
use Rattle.dg_model.specs.Marks.{is_marked}
use Rattle.dg_model.specs.Wants.{IsOf}

-- An inode, and a path that leads to it.
pub record PathOf : Type 0 where
  pub inode : ℕ
  pub path : List ℕ

-- the names above an entry and its own, where these are those of the entry before it: as many of them as it is deep, and its own
abbrev pub names_to : List (List ℕ) → Listed → List (List ℕ)
names_to before entry = take (entry.depth - 1) before ++ entry.name ∷ []

-- a path of these names: a slash before each
abbrev pub path_by : List (List ℕ) → List ℕ
path_by [] = []
path_by (name ∷ names) = 47 ∷ name ++ path_by names

-- the file lost a block: it has a claim on one that was cut
pub record LostBlock (l n : ℕ) (v : Volume) (cut : List Bool) (i : ℕ) : Type 0 where
  pub block : ℕ
  pub cut_is : is_marked cut block ≡ true
  pub claimed : IsOf l n v block i

-- an entry for a regular file that lost a block
abbrev pub IsLostFile : ℕ → ℕ → Volume → List Bool → Listed → Type 0
IsLostFile l n v cut entry = (entry.kind ≡ Regular) × LostBlock l n v cut entry.inode

-- these are the files that lost blocks, in the order of the entries, of which the one before the first has these names
abbrev pub AreLostFrom : ℕ → ℕ → Volume → List Bool → List (List ℕ) → List Listed → List PathOf → Type 0
AreLostFrom l n v cut before [] lost = lost ≡ []
AreLostFrom l n v cut before (entry ∷ entries) lost =
    ((rest : List PathOf) × IsLostFile l n v cut entry
    × (lost ≡ record { inode = entry.inode; path = path_by (names_to before entry) } ∷ rest) × AreLostFrom l n v cut (names_to before entry) entries rest)
    ⊎ ((IsLostFile l n v cut entry → ⊥) × AreLostFrom l n v cut (names_to before entry) entries lost)

abbrev pub AreLost : ℕ → ℕ → Volume → List Bool → List Listed → List PathOf → Type 0
AreLost l n v cut entries lost = AreLostFrom l n v cut [] entries lost
