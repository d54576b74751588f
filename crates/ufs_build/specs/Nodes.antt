-- What stands in the inodes of a volume (`struct dinode` in `dinode.h`, `IFDIR`, `IFREG`, `IFLNK`).
use Rattle.std.specs.Prelude.{ℕ, ◌&&◌, nat_lt, Bool, true, false, List, [], ◌∷◌, if◌then◌else◌, length}
use Rattle.ufs_build.specs.Items.{is_dir}
use Rattle.ufs_build.specs.declared.items.Item.{Item}
use Rattle.ufs_build.specs.declared.items.ItemKind.{ItemKind}
use Rattle.ufs_build.specs.declared.items.ItemKind.TheVariants.{Dir, File, Link}

-- A file of the volume: its mode, its bytes, whether whole file blocks of zeros are holes, and whether the bytes stand in the inode.
pub record Node : Type 0 where
  pub mode : ℕ
  pub bytes : List ℕ
  pub sparse : Bool
  pub inside : Bool

-- the mode of an item: its type, and who may do what
abbrev pub mode_of : ItemKind → ℕ
mode_of Dir = 0x41ed
mode_of File = 0x81a4
mode_of Link = 0xa1a4

abbrev pub is_link : ItemKind → Bool
is_link Link = true
is_link Dir = false
is_link File = false

-- an item, with its bytes if it is a directory
abbrev pub node_of : Item → List ℕ → Node
node_of item directory = record {
  mode = mode_of item.kind;
  bytes = if is_dir item.kind then directory else item.bytes;
  sparse = item.sparse;
  inside = is_link item.kind && nat_lt (length item.bytes) 60;
}

abbrev pub item_nodes : List Item → List (List ℕ) → List Node
item_nodes [] directories = []
item_nodes (item ∷ items) [] = []
item_nodes (item ∷ items) (directory ∷ directories) = node_of item directory ∷ item_nodes items directories

-- the root, and the items
abbrev pub nodes_of : List Item → List (List ℕ) → List Node
nodes_of items [] = []
nodes_of items (root ∷ directories) = record { mode = 0x41ed; bytes = root; sparse = false; inside = false } ∷ item_nodes items directories
