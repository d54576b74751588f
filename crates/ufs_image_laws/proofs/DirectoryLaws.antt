-- The directories of a built volume, by their items.
use Rattle.std.proofs.Common.{◌≡◌, ◌∙◌, ℕ, suc, ◌+◌, ◌^◌, ◌<◌, ◌≤◌, ◌&&◌, Bool, true, false, List, [], length, get_or, refl, sym, ap, subst, arith, Some}
use Rattle.std.specs.Prelude.{Ok, if◌then◌else◌, nat_lt, replicate, slice_get}
use Rattle.std.proofs.lemmas.Option.{slice_get-get_or, slice_get_within}
use Rattle.ufs_model.specs.Inodes.{inode_of, kind_of}
use Rattle.ufs_model.specs.Paths.{entries_of, is_directory}
use Rattle.ufs_model.specs.declared.inodes.Inode.{Inode}
use Rattle.ufs_build.specs.Directories.{directory_bytes, directory_entries}
use Rattle.ufs_build.specs.Items.{is_dir}
use Rattle.ufs_build.specs.Nodes.{Node, is_link, mode_of, node_of}
use Rattle.ufs_build.specs.Placements.{Addresses}
use Rattle.ufs_build.specs.declared.items.Item.{Item}
use Rattle.ufs_build.specs.declared.items.ItemKind.{ItemKind}
use Rattle.ufs_build.specs.declared.items.ItemKind.TheVariants.{Dir}
use Rattle.ufs_build.specs.declared.volumes.Spec.{Spec}
use Rattle.ufs_image_laws.specs.Built.{IsBuilt, blocks_in, nodes_in, root_of}
use Rattle.ufs_image_laws.proofs.BuiltLaws.{are_volume, at_place, whole_geometry}
use Rattle.ufs_image_laws.proofs.DirectoryReads.{AreChunks, IsDirectory, entries_read}
use Rattle.ufs_image_laws.proofs.FileLaws.{file_of, inode_is}
use Rattle.ufs_image_laws.proofs.ItemLaws.{file_of_item, file_of_root, good_items}
use Rattle.ufs_image_laws.proofs.NameLaws.{directory_chunks, directory_good}
use Rattle.ufs_image_laws.proofs.ParentLaws.{IsLow, parents_low}
use Rattle.ufs_image_laws.proofs.PlacingLaws.{count_placed}

-- there are fewer than 2^32 inodes
pub few_inodes : (spec : Spec) (items : List Item) (image : List ℕ) (is : IsBuilt spec items image) → 3 + length items < 2 ^ 32
few_inodes spec items image is =
    let whole = whole_geometry spec is.g is.geometry in
    let tests = whole.tests in
    let inodes = tests.inodes in
    let most = inodes.2 in
    let few = is.few in
    omega arith

no_addresses : Addresses
no_addresses = record { data_blocks = []; ones = []; twos = []; threes = [] }

-- each file has addresses
pub addresses_at : (spec : Spec) (items : List Item) (image : List ℕ) (is : IsBuilt spec items image) (k : ℕ) (node : Node) → slice_get (nodes_in is) k ≡ Some node
    → (addresses : Addresses) × (slice_get is.all.files k ≡ Some addresses)
addresses_at spec items image is k node e =
    let volume = are_volume spec items image is in
    let files = count_placed is.g (nodes_in is) is.all.files (replicate is.g.size false) is.all.used volume.placed in
    let low = slice_get_within (nodes_in is) k node e in
    (get_or is.all.files k no_addresses, slice_get-get_or is.all.files k no_addresses (omega (arith, files, low)))

directory_mode : (mode : ℕ) → mode ≡ 0x41ed → is_directory (kind_of mode) ≡ true
unfolding kind_of
directory_mode mode e = subst (λ (m : ℕ). is_directory (kind_of m) ≡ true) (sym e) refl

-- the entries of the directory that is file k
read_at : (spec : Spec) (items : List Item) (image : List ℕ) (is : IsBuilt spec items image) (k : ℕ) (node : Node) (inode : Inode) (directory up : ℕ)
    → slice_get (nodes_in is) k ≡ Some node → node.inside ≡ false → node.mode ≡ 0x41ed → node.bytes ≡ directory_bytes is.g.endian items is.parents directory up
    → length (directory_bytes is.g.endian items is.parents directory up) < 2 ^ 32 → 1 ≤ directory → directory < 2 ^ 32 → 1 ≤ up → up < 2 ^ 32
    → (inode_of is.g (2 + k) (blocks_in is.g.fsize is.g.size image)).value ≡ Some inode
    → (entries_of is.g inode (blocks_in is.g.fsize is.g.size image)).value ≡ Ok (directory_entries items is.parents directory up)
read_at spec items image is k node inode directory up e outside mode bytes small one low two low' here =
    let addresses = addresses_at spec items image is k node e in
    let own = inode_is spec items image is k node (addresses.0) inode e (addresses.1) outside here in
    let good = good_items items is.parents is.stand in
    let entries = directory_good items is.parents directory up good.each one low two low' (few_inodes spec items image is) in
    let chunks = directory_chunks is.g.endian items is.parents directory up entries in
    let dir : IsDirectory is.g node (directory_entries items is.parents directory up) = record {
      chunks = subst (AreChunks is.g.endian (directory_entries items is.parents directory up)) (sym bytes) chunks;
      outside = outside;
      small = rw bytes small;
    } in
    ap (λ (image' : List ℕ). (entries_of is.g inode (blocks_in is.g.fsize is.g.size image')).value) is.bytes
    ∙ entries_read is.g (nodes_in is) is.all k node (addresses.0) inode (directory_entries items is.parents directory up)
    (file_of spec items image is k node (addresses.0) e (addresses.1)) own.slots dir (directory_mode inode.mode (own.mode ∙ mode))

pub root_entries : (spec : Spec) (items : List Item) (image : List ℕ) (is : IsBuilt spec items image) (inode : Inode)
    → length (directory_bytes is.g.endian items is.parents 2 2) < 2 ^ 32 → (inode_of is.g (2 + 0) (blocks_in is.g.fsize is.g.size image)).value ≡ Some inode
    → (entries_of is.g inode (blocks_in is.g.fsize is.g.size image)).value ≡ Ok (directory_entries items is.parents 2 2)
root_entries spec items image is inode small here =
    read_at spec items image is 0 (root_of is.g.endian items is.parents) inode 2 2 (file_of_root is.g.endian items is.parents) refl refl refl small
    (omega arith) (omega arith) (omega arith) (omega arith) here

record IsDirNode (kind : ItemKind) (directory own : List ℕ) (small : Bool) : Type 0 where
  mode : mode_of kind ≡ 0x41ed
  bytes : (if is_dir kind then directory else own) ≡ directory
  outside : (is_link kind && small) ≡ false

dir_node : (kind : ItemKind) (directory own : List ℕ) (small : Bool) → kind ≡ Dir → IsDirNode kind directory own small
dir_node kind directory own small e = subst (λ (k : ItemKind). IsDirNode k directory own small) (sym e) (record { mode = refl; bytes = refl; outside = refl })

pub item_entries : (spec : Spec) (items : List Item) (image : List ℕ) (is : IsBuilt spec items image) (k : ℕ) (item : Item) (parent : ℕ) (inode : Inode)
    → slice_get items k ≡ Some item → item.kind ≡ Dir → slice_get is.parents k ≡ Some parent
    → length (directory_bytes is.g.endian items is.parents (3 + k) parent) < 2 ^ 32 → (inode_of is.g (2 + suc k) (blocks_in is.g.fsize is.g.size image)).value ≡ Some inode
    → (entries_of is.g inode (blocks_in is.g.fsize is.g.size image)).value ≡ Ok (directory_entries items is.parents (3 + k) parent)
item_entries spec items image is k item parent inode e dir f small here =
    let directory = directory_bytes is.g.endian items is.parents (3 + k) parent in
    let own = dir_node item.kind directory item.bytes (nat_lt (length item.bytes) 60) dir in
    let low = at_place (IsLow (3 + length items)) is.parents k parent (parents_low items is.parents is.stand) f in
    let place = slice_get_within items k item e in
    let few = few_inodes spec items image is in
    let some = low.some in
    let less = low.low in
    read_at spec items image is (suc k) (node_of item directory) inode (3 + k) parent (file_of_item is.g.endian items is.parents k item parent e f) own.outside own.mode own.bytes small
    (omega arith) (omega arith) (omega arith) (omega arith) here
