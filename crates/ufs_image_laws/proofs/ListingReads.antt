-- The listings of the directories of a built volume are read.
use Rattle.std.proofs.Common.{◌≡◌, ◌∙◌, ℕ, suc, ◌+◌, ◌-◌, ◌%◌, ◌^◌, ◌<◌, Bool, true, false, List, [], ◌∷◌, length, get_or, refl, sym, ap, subst, arith, inl, inr, Some, None}
use Rattle.std.specs.Prelude.{MatchOption, Ok, Option, if◌then◌else◌, slice_get}
use Rattle.std.proofs.lemmas.Option.{get_or_from_slice_get, slice_get_within}
use Rattle.ufs_model.specs.Blocks.{Volume}
use Rattle.ufs_model.specs.Chunks.{DirEntry}
use Rattle.ufs_model.specs.Inodes.{inode_of, is_inode_number, kind_of}
use Rattle.ufs_model.specs.Listings.{Listed, listed_entries, listed_entry, listing_of, ls_of}
use Rattle.ufs_model.specs.Malformations.{IsInode}
use Rattle.ufs_model.specs.Paths.{entries_of, look_from, named_inode, names_of, volume_geometry}
use Rattle.ufs_model.specs.Superblocks.{geometry_of}
use Rattle.ufs_model.specs.declared.geometries.Geometry.{Geometry}
use Rattle.ufs_model.specs.declared.inodes.Inode.{Inode}
use Rattle.ufs_build.specs.Directories.{directory_entries}
use Rattle.ufs_build.specs.Nodes.{Node}
use Rattle.ufs_build.specs.declared.items.Item.{Item}
use Rattle.ufs_build.specs.declared.items.ItemKind.TheVariants.{Dir}
use Rattle.ufs_build.specs.declared.volumes.Spec.{Spec}
use Rattle.ufs_image_laws.specs.Built.{IsBuilt, blocks_in, nodes_in, root_of}
use Rattle.ufs_image_laws.specs.Lines.{line_of, lines_of, node_at}
use Rattle.ufs_image_laws.proofs.BuiltFiles.{built_whole}
use Rattle.ufs_image_laws.proofs.ContentReads.{ok_then}
use Rattle.ufs_image_laws.proofs.EntryLaws.{DirIs, IsOfType, UpIs, entry_of, target_by}
use Rattle.ufs_image_laws.proofs.LookLaws.{geometry_is, geometry_named, inode_of_file, inode_of_item, item_node, look_item, named_by, number_is}
use Rattle.ufs_image_laws.proofs.ItemLaws.{file_of_root}
use Rattle.ufs_image_laws.proofs.ParentLaws.{IsLow, parents_low}
use Rattle.ufs_image_laws.proofs.SoundLaws.{small_directory}
use Rattle.ufs_image_laws.proofs.BuiltLaws.{at_place}
use Rattle.ufs_image_laws.proofs.DirectoryLaws.{item_entries, root_entries}
use Rattle.ufs_image_laws.proofs.StructureLaws.{found_inode, volume_of}

-- ---- one line

if_parts : (b : Bool) (o : Option Inode) (inode : Inode) → (if b then o else None) ≡ Some inode → (b ≡ true) × (o ≡ Some inode)
if_parts true o inode e = (refl, e)
if_parts false o inode e = absurd (cc e)

-- what is listed of an entry that names a file
listed : (spec : Spec) (items : List Item) (image : List ℕ) (is : IsBuilt spec items image) (entry : DirEntry) → IsOfType is.g (volume_of is.g (nodes_in is) is.all) entry.inode entry.kind
    → (listed_entry is.g 1 entry (volume_of is.g (nodes_in is) is.all)).value ≡ Ok (line_of (nodes_in is) entry)
unfolding listed_entry
listed spec items image is entry there =
    let g = is.g in
    let nodes = nodes_in is in
    let v = volume_of g nodes is.all in
    let whole = built_whole spec items image is in
    let named : IsInode g v entry.inode (λ inode. inode ≡ there.inode) = subst (λ (o : Option Inode). MatchOption o ⊥ (λ inode. inode ≡ there.inode)) (sym there.is) refl in
    let found = found_inode g nodes is.all entry.inode (λ inode. inode ≡ there.inode) whole named in
    let file = found.file in
    let parts = if_parts (is_inode_number g entry.inode) ((inode_of g entry.inode v).value) there.inode there.is in
    let number = found.number in
    let place : entry.inode - 2 ≡ found.k = omega arith in
    let node : node_at nodes entry.inode ≡ found.node =
    ap (λ (k : ℕ). get_or nodes k (record { mode = 0; bytes = []; sparse = false; inside = false })) place
    ∙ get_or_from_slice_get nodes found.k found.node (record { mode = 0; bytes = []; sparse = false; inside = false }) file.node_is in
    let same : found.inode ≡ there.inode = found.holds in
    let mode : there.inode.mode ≡ (node_at nodes entry.inode).mode = ap (λ (i : Inode). i.mode) (sym same) ∙ found.mode ∙ ap (λ (n : Node). n.mode) (sym node) in
    let size : there.inode.size ≡ length (node_at nodes entry.inode).bytes = ap (λ (i : Inode). i.size) (sym same) ∙ found.size ∙ ap (λ (n : Node). length n.bytes) (sym node) in
    ok_then (named_inode g entry.inode) _ v there.inode (named_by g entry.inode v there.inode (parts.0) (parts.1))
    ∙ ap (λ (m : ℕ). Ok (record { depth = 1; inode = entry.inode; kind = kind_of m; size = there.inode.size; name = entry.name })) mode
    ∙ ap (λ (s : ℕ). Ok (record { depth = 1; inode = entry.inode; kind = kind_of (node_at nodes entry.inode).mode; size = s; name = entry.name })) size

-- ---- all lines

abbrev pub IsListedAs : Geometry → Volume → List Node → DirEntry → Type 0
IsListedAs g v nodes entry = (listed_entry g 1 entry v).value ≡ Ok (line_of nodes entry)

all_listed : (g : Geometry) (v : Volume) (nodes : List Node) (entries : List DirEntry) → ((k : ℕ) (entry : DirEntry) → slice_get entries k ≡ Some entry → IsListedAs g v nodes entry)
    → (listed_entries g 1 entries v).value ≡ Ok (lines_of nodes entries)
unfolding listed_entries
all_listed g v nodes [] each = refl
all_listed g v nodes (entry ∷ entries) each =
    ok_then (listed_entry g 1 entry) _ v (line_of nodes entry) (each 0 entry refl)
    ∙ ok_then (listed_entries g 1 entries) _ v (lines_of nodes entries) (all_listed g v nodes entries (λ k e f. each (suc k) e f))

-- the listing of the directory that is file k
listing_at : (spec : Spec) (items : List Item) (image : List ℕ) (is : IsBuilt spec items image) (k up : ℕ) (inode : Inode) → k < length (nodes_in is) → UpIs items is.parents k up
    → (entries_of is.g inode (volume_of is.g (nodes_in is) is.all)).value ≡ Ok (directory_entries items is.parents (2 + k) up)
    → (listing_of is.g inode (volume_of is.g (nodes_in is) is.all)).value ≡ Ok (lines_of (nodes_in is) (directory_entries items is.parents (2 + k) up))
unfolding listing_of
listing_at spec items image is k up inode low up_is e =
    let v = volume_of is.g (nodes_in is) is.all in
    let entries = directory_entries items is.parents (2 + k) up in
    let dir : DirIs items is.parents (length (nodes_in is)) (2 + k) entries = record { k = k; number = refl; low = low; up = up; up_is = up_is; are = refl } in
    ok_then (entries_of is.g inode) _ v entries e
    ∙ all_listed is.g v (nodes_in is) entries
    (λ n entry at. listed spec items image is entry (target_by spec items image is (2 + k) n entry entries dir (entry_of items is.parents (2 + k) up n entry at)))

pub ls_read : (l n : ℕ) (v : Volume) (g : Geometry) (path : List ℕ) (i : ℕ) (inode : Inode) (lines : List Listed) → (geometry_of l n v).value ≡ Ok g
    → (look_from g (names_of path) 2 v).value ≡ Ok (i, inode) → (listing_of g inode v).value ≡ Ok lines → (ls_of l n path v).value ≡ Ok lines
unfolding ls_of
ls_read l n v g path i inode lines e f h =
    ok_then (volume_geometry l n) _ v g (geometry_named l n v g e) ∙ ok_then (look_from g (names_of path) 2) _ v (i, inode) f ∙ h

-- the root's listing, at `/`
pub root_listed : (spec : Spec) (items : List Item) (image : List ℕ) (is : IsBuilt spec items image) → 8192 % spec.l ≡ 0 → length items + 2 < 2 ^ 23
    → (ls_of is.g.fsize is.g.size (47 ∷ []) (blocks_in is.g.fsize is.g.size image)).value ≡ Ok (lines_of (nodes_in is) (directory_entries items is.parents 2 2))
unfolding look_from
root_listed spec items image is divides few =
    let v = volume_of is.g (nodes_in is) is.all in
    let root = file_of_root is.g.endian items is.parents in
    let own = inode_of_file spec items image is 0 (root_of is.g.endian items is.parents) root in
    let room = is.few in
    let low = slice_get_within (nodes_in is) 0 (root_of is.g.endian items is.parents) root in
    let turned = ap (λ (bytes : List ℕ). (inode_of is.g (2 + 0) (blocks_in is.g.fsize is.g.size bytes)).value) is.bytes in
    let small = small_directory spec items image is 2 2 few (omega arith) (omega arith) (omega arith) (omega arith) in
    let entries = ap (λ (bytes : List ℕ). (entries_of is.g (own.0) (blocks_in is.g.fsize is.g.size bytes)).value) (sym is.bytes) ∙ root_entries spec items image is (own.0) small (turned ∙ own.1) in
    let named = named_by is.g (2 + 0) v (own.0) (number_is is.g (2 + 0) (omega arith) (omega arith)) (own.1) in
    let look : (look_from is.g (names_of (47 ∷ [])) 2 v).value ≡ Ok (2, own.0) = ok_then (named_inode is.g 2) _ v (own.0) named in
    let listing = listing_at spec items image is 0 2 (own.0) low (inl (refl, refl)) entries in
    ap (λ (bytes : List ℕ). (ls_of is.g.fsize is.g.size (47 ∷ []) (blocks_in is.g.fsize is.g.size bytes)).value) is.bytes
    ∙ ls_read is.g.fsize is.g.size v is.g (47 ∷ []) 2 (own.0) (lines_of (nodes_in is) (directory_entries items is.parents 2 2)) (geometry_is spec items image is divides) look listing

pub item_listed : (spec : Spec) (items : List Item) (image : List ℕ) (is : IsBuilt spec items image) (j : ℕ) (item : Item) (parent : ℕ) → 8192 % spec.l ≡ 0 → length items + 2 < 2 ^ 23
    → slice_get items j ≡ Some item → item.kind ≡ Dir → slice_get is.parents j ≡ Some parent
    → (ls_of is.g.fsize is.g.size item.path (blocks_in is.g.fsize is.g.size image)).value ≡ Ok (lines_of (nodes_in is) (directory_entries items is.parents (3 + j) parent))
item_listed spec items image is j item parent divides few e dir f =
    let v = volume_of is.g (nodes_in is) is.all in
    let own = inode_of_item spec items image is j item e in
    let node = item_node spec items image is j item e in
    let low = slice_get_within (nodes_in is) (suc j) (node.0) (node.1) in
    let next : 3 + j ≡ 2 + suc j = omega arith in
    let here : (inode_of is.g (2 + suc j) (blocks_in is.g.fsize is.g.size image)).value ≡ Some (own.0) =
    ap (λ (bytes : List ℕ). (inode_of is.g (2 + suc j) (blocks_in is.g.fsize is.g.size bytes)).value) is.bytes ∙ ap (λ (i : ℕ). (inode_of is.g i v).value) (sym next) ∙ own.1 in
    let bounds = at_place (IsLow (3 + length items)) is.parents j parent (parents_low items is.parents is.stand) f in
    let some = bounds.some in
    let less = bounds.low in
    let place = slice_get_within items j item e in
    let small = small_directory spec items image is (3 + j) parent few (omega arith) (omega arith) (omega arith) (omega arith) in
    let entries = ap (λ (bytes : List ℕ). (entries_of is.g (own.0) (blocks_in is.g.fsize is.g.size bytes)).value) (sym is.bytes)
    ∙ item_entries spec items image is j item parent (own.0) e dir f small here ∙ ap (λ (i : ℕ). Ok (directory_entries items is.parents i parent)) next in
    let listing = listing_at spec items image is (suc j) parent (own.0) low (inr (j, item, refl, e, dir, f)) entries ∙ ap (λ (i : ℕ). Ok (lines_of (nodes_in is) (directory_entries items is.parents i parent))) (sym next) in
    ap (λ (bytes : List ℕ). (ls_of is.g.fsize is.g.size item.path (blocks_in is.g.fsize is.g.size bytes)).value) is.bytes
    ∙ ls_read is.g.fsize is.g.size v is.g item.path (3 + j) (own.0) (lines_of (nodes_in is) (directory_entries items is.parents (3 + j) parent)) (geometry_is spec items image is divides)
    (look_item spec items image is j item (own.0) few e (own.1)) listing
