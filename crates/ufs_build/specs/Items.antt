-- Where items stand: the directory and the name in a path, and which items can't stand where their path says.
use Rattle.std.specs.Prelude.{◌≡◌, ◌≤◌, ℕ, ◌+◌, ◌^◌, ◌==◌, ◌&&◌, ◌||◌, nat_le, nat_lt, not, Bool, true, false, List, [], ◌∷◌, ◌++◌, Option, Some, None, Result, Ok, Err, if◌then◌else◌, length, slice_get}
use Rattle.std.specs.Cmp.Lexicographic.{pointwise}
use Rattle.std.specs.List.{list_any, position}
use Rattle.std.specs.Option.{is_none}
use Rattle.ufs_model.specs.Paths.{is_path}
use Rattle.ufs_build.specs.declared.items.Item.{Item}
use Rattle.ufs_build.specs.declared.items.ItemKind.{ItemKind}
use Rattle.ufs_build.specs.declared.items.ItemKind.TheVariants.{Dir, File, Link}
use Rattle.ufs_build.specs.declared.refusals.BuildRefused.{BuildRefused}
use Rattle.ufs_build.specs.declared.refusals.BuildRefused.TheVariants.{BadItem, NoMemory}

abbrev pub is_slash : ℕ → Bool
is_slash b = b == 47

-- the bytes of a path behind its last slash
abbrev pub name_of : List ℕ → List ℕ
name_of [] = []
name_of (b ∷ path) = if list_any is_slash path then name_of path else path

-- the bytes of a path before its last slash: those of the path of its directory, and none where that is the root
abbrev pub parent_of : List ℕ → List ℕ
parent_of [] = []
parent_of (b ∷ path) = if list_any is_slash path then b ∷ parent_of path else []

-- ---- items by themselves

abbrev pub is_dir : ItemKind → Bool
is_dir Dir = true
is_dir File = false
is_dir Link = false

-- the names of a directory's own entries
abbrev pub dot : List ℕ
dot = 46 ∷ []

abbrev pub dot_dot : List ℕ
dot_dot = 46 ∷ 46 ∷ []

abbrev pub is_dots : List ℕ → Bool
is_dots name = pointwise ◌==◌ name dot || pointwise ◌==◌ name dot_dot

-- a path with a name, which isn't one of a directory's own
unfoldable pub has_place : List ℕ → Bool
has_place path = is_path path && (nat_le 2 (length path) && not (is_dots (name_of path)))

-- a directory has no bytes of its own, and no item has 2^32 bytes
unfoldable pub has_contents : Item → Bool
has_contents item = not (is_dir item.kind && nat_lt 0 (length item.bytes)) && nat_lt (length item.bytes) (2 ^ 32)

-- ---- items among others

-- the first of the items with a path
abbrev pub place_of_path : List Item → List ℕ → Option ℕ
place_of_path items path = position (λ item. pointwise ◌==◌ item.path path) items

-- the inode of item k: the root's is 2
abbrev pub inode_of_item : ℕ → ℕ
inode_of_item k = k + 3

abbrev pub inode_if_dir : ℕ → Option Item → Option ℕ
inode_if_dir k None = None
inode_if_dir k (Some item) = if is_dir item.kind then Some (inode_of_item k) else None

abbrev pub inode_if_found : List Item → Option ℕ → Option ℕ
inode_if_found items None = None
inode_if_found items (Some k) = inode_if_dir k (slice_get items k)

-- the inode of the directory at a path, which is the root or among the items
unfoldable pub directory_at : List Item → List ℕ → Option ℕ
directory_at items path = if length path == 0 then Some 2 else inode_if_found items (place_of_path items path)

-- The inode of the directory of an item that comes after others. There is none where the item can't stand there.
unfoldable pub parent_inode : List Item → Item → Option ℕ
parent_inode before item =
    if has_place item.path && (has_contents item && is_none (place_of_path before item.path)) then directory_at before (parent_of item.path) else None

-- an inode before others, if there are any
abbrev pub inode_before : ℕ → Result (List ℕ) ℕ → Result (List ℕ) ℕ
inode_before inode (Ok inodes) = Ok (inode ∷ inodes)
inode_before inode (Err k) = Err k

-- what follows for the item at a place from where its directory is
abbrev pub if_placed : ℕ → Option ℕ → Result (List ℕ) ℕ → Result (List ℕ) ℕ
if_placed k None further = Err k
if_placed k (Some inode) further = inode_before inode further

-- the inodes of the directories of items that come after others, or the place of the first that can't stand there
abbrev pub parents_after : List Item → List Item → Result (List ℕ) ℕ
parents_after before [] = Ok []
parents_after before (item ∷ items) = if_placed (length before) (parent_inode before item) (parents_after (before ++ item ∷ []) items)

unfoldable pub parents_of : List Item → Result (List ℕ) ℕ
parents_of items = parents_after [] items

-- what is told of items where memory is wanting for these inodes: the first item that can't stand where its path says, or else the want
abbrev pub without_memory : Result (List ℕ) ℕ → BuildRefused
without_memory (Ok inodes) = NoMemory
without_memory (Err k) = BadItem k

-- the name has at most 255 bytes (`MAXNAMLEN`)
abbrev pub HasShortName : Item → Type 0
HasShortName item = length (name_of item.path) ≤ 255

-- a slash begins the path
abbrev pub HasSlash : Item → Type 0
HasSlash item = slice_get item.path 0 ≡ Some 47
