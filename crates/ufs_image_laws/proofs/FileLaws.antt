-- A file of a built volume, by its item.
use Rattle.std.proofs.Common.{◌≡◌, ◌∙◌, ℕ, suc, ◌+◌, ◌&&◌, Bool, true, false, List, [], length, get_or, refl, sym, ap, subst, arith, Some}
use Rattle.std.specs.Prelude.{Ok, if◌then◌else◌, nat_lt, replicate, slice_get}
use Rattle.std.proofs.lemmas.Option.{same_Some, slice_get-get_or, slice_get_within}
use Rattle.ufs_model.specs.Inodes.{inode_of, kind_of}
use Rattle.ufs_model.specs.Paths.{contents_of, is_regular}
use Rattle.ufs_model.specs.declared.geometries.Geometry.{Geometry}
use Rattle.ufs_model.specs.declared.inodes.Inode.{Inode}
use Rattle.ufs_build.specs.Directories.{directory_bytes}
use Rattle.ufs_build.specs.Nodes.{Node, is_link, mode_of, node_of}
use Rattle.ufs_build.specs.Items.{is_dir}
use Rattle.ufs_build.specs.Placements.{Addresses}
use Rattle.ufs_build.specs.declared.items.Item.{Item}
use Rattle.ufs_build.specs.declared.items.ItemKind.{ItemKind}
use Rattle.ufs_build.specs.declared.items.ItemKind.TheVariants.{File}
use Rattle.ufs_build.specs.declared.volumes.Spec.{Spec}
use Rattle.ufs_image_laws.specs.Built.{IsBuilt, blocks_in, nodes_in}
use Rattle.ufs_image_laws.proofs.AddressReads.{FileOf, SlotsLead}
use Rattle.ufs_image_laws.proofs.BuiltLaws.{are_volume, at_place, built_numbers}
use Rattle.ufs_image_laws.proofs.ContentReads.{contents_read}
use Rattle.ufs_image_laws.proofs.InodeReads.{inode_read}
use Rattle.ufs_image_laws.proofs.ItemLaws.{HasNumbers, IsGoodItem, contents_small, file_of_item, good_items}
use Rattle.ufs_image_laws.proofs.PlacingLaws.{count_placed}
use Rattle.ufs_image_laws.proofs.SuperLaws.{geometry_of_built}

pub file_of : (spec : Spec) (items : List Item) (image : List ℕ) (is : IsBuilt spec items image) (k : ℕ) (node : Node) (addresses : Addresses)
    → slice_get (nodes_in is) k ≡ Some node → slice_get is.all.files k ≡ Some addresses → FileOf is.g (nodes_in is) is.all k node addresses
file_of spec items image is k node addresses e f =
    let geometry = geometry_of_built spec is.g is.geometry in
    record { volume = are_volume spec items image is; numbers = geometry.numbers; node_is = e; addresses_are = f }

-- the inode of a file as it is read
pub record HasInode (g : Geometry) (node : Node) (addresses : Addresses) (inode : Inode) : Type 0 where
  pub slots : SlotsLead g node addresses inode
  pub mode : inode.mode ≡ node.mode

pub inode_is : (spec : Spec) (items : List Item) (image : List ℕ) (is : IsBuilt spec items image) (k : ℕ) (node : Node) (addresses : Addresses) (inode : Inode)
    → slice_get (nodes_in is) k ≡ Some node → slice_get is.all.files k ≡ Some addresses → node.inside ≡ false
    → (inode_of is.g (2 + k) (blocks_in is.g.fsize is.g.size image)).value ≡ Some inode → HasInode is.g node addresses inode
inode_is spec items image is k node addresses inode e f outside here =
    let geometry = geometry_of_built spec is.g is.geometry in
    let numbers = at_place HasNumbers (nodes_in is) k node (built_numbers spec items image is) e in
    let read = inode_read is.g (nodes_in is) is.all k node addresses geometry.numbers (are_volume spec items image is) e f numbers.some numbers.mode numbers.size in
    let turned = ap (λ (bytes : List ℕ). (inode_of is.g (2 + k) (blocks_in is.g.fsize is.g.size bytes)).value) is.bytes in
    let same : read.inode ≡ inode = same_Some read.inode inode (sym read.is ∙ sym turned ∙ here) in
    let own : HasInode is.g node addresses read.inode = record { slots = record { size = read.size; slots = read.slots outside }; mode = read.mode } in
    subst (λ (i : Inode). HasInode is.g node addresses i) same own

regular_file : (kind : ItemKind) (small : Bool) → kind ≡ File → (is_regular (kind_of (mode_of kind)) ≡ true) × ((is_link kind && small) ≡ false)
unfolding kind_of
regular_file kind small e =
    subst (λ (k : ItemKind). (is_regular (kind_of (mode_of k)) ≡ true) × ((is_link k && small) ≡ false)) (sym e) (refl, refl)

own_bytes : (kind : ItemKind) (directory own : List ℕ) → kind ≡ File → (if is_dir kind then directory else own) ≡ own
own_bytes kind directory own e = subst (λ (k : ItemKind). (if is_dir k then directory else own) ≡ own) (sym e) refl

pub item_contents : (spec : Spec) (items : List Item) (image : List ℕ) (is : IsBuilt spec items image) (k : ℕ) (item : Item) (inode : Inode)
    → slice_get items k ≡ Some item → item.kind ≡ File → (inode_of is.g (2 + suc k) (blocks_in is.g.fsize is.g.size image)).value ≡ Some inode
    → (contents_of is.g inode (blocks_in is.g.fsize is.g.size image)).value ≡ Ok item.bytes
item_contents spec items image is k item inode e file here =
    let good = good_items items is.parents is.stand in
    let count = good.count in
    let low = slice_get_within items k item e in
    let parent = get_or is.parents k 0 in
    let directory = directory_bytes is.g.endian items is.parents (3 + k) parent in
    let node = node_of item directory in
    let node_is = file_of_item is.g.endian items is.parents k item parent e (slice_get-get_or is.parents k 0 (omega (arith, count, low))) in
    let volume = are_volume spec items image is in
    let files = count_placed is.g (nodes_in is) is.all.files (replicate is.g.size false) is.all.used volume.placed in
    let nodes = slice_get_within (nodes_in is) (suc k) node node_is in
    let none : Addresses = record { data_blocks = []; ones = []; twos = []; threes = [] } in
    let addresses = get_or is.all.files (suc k) none in
    let addresses_are : slice_get is.all.files (suc k) ≡ Some addresses = slice_get-get_or is.all.files (suc k) none (omega (arith, files, nodes)) in
    let kinds = regular_file item.kind (nat_lt (length item.bytes) 60) file in
    let inode_of_it = inode_is spec items image is (suc k) node addresses inode node_is addresses_are (kinds.1) here in
    let bytes : node.bytes ≡ item.bytes = own_bytes item.kind directory item.bytes file in
    let small = contents_small item (at_place IsGoodItem items k item good.each e) in
    let of_file = file_of spec items image is (suc k) node addresses node_is addresses_are in
    ap (λ (image' : List ℕ). (contents_of is.g inode (blocks_in is.g.fsize is.g.size image')).value) is.bytes
    ∙ contents_read is.g (nodes_in is) is.all (suc k) node addresses inode of_file inode_of_it.slots (kinds.1) (rw inode_of_it.mode (kinds.0)) (rw bytes small)
    ∙ ap Ok bytes
