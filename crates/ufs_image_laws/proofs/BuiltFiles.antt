-- The kinds of the files of a built volume.
use Rattle.std.proofs.Common.{◌≡◌, ◌∙◌, ℕ, suc, ◌+◌, ◌^◌, ◌<◌, ◌≤◌, ◌&&◌, not, Bool, false, List, [], ◌∷◌, length, refl, sym, ap, arith, inl, inr}
use Rattle.std.specs.Prelude.{if◌then◌else◌, nat_le, nat_lt, replicate}
use Rattle.std.proofs.lemmas.Bool.{cases_lt, le-leb, le-ltb, lt-leb, lt-ltb}
use Rattle.ufs_model.specs.Chunks.{DirEntry}
use Rattle.ufs_model.specs.Inodes.{kind_has_pointers, kind_of}
use Rattle.ufs_model.specs.declared.geometries.Geometry.{Geometry}
use Rattle.ufs_model.specs.declared.inodes.Kind.TheVariants.{Directory, Unknown}
use Rattle.ufs_build.specs.Directories.{directories_from, directories_of, directory_bytes, directory_entries}
use Rattle.ufs_build.specs.Items.{is_dir}
use Rattle.ufs_build.specs.Nodes.{Node, is_link, item_nodes, mode_of, nodes_of}
use Rattle.ufs_build.specs.declared.items.Item.{Item}
use Rattle.ufs_build.specs.declared.items.ItemKind.{ItemKind}
use Rattle.ufs_build.specs.declared.items.ItemKind.TheVariants.{Dir, File, Link}
use Rattle.ufs_build.specs.declared.volumes.Spec.{Spec}
use Rattle.ufs_image_laws.specs.Built.{IsBuilt, nodes_in, root_of}
use Rattle.ufs_image_laws.proofs.BuiltLaws.{are_volume, at_place, built_numbers}
use Rattle.ufs_image_laws.proofs.DirectoryLaws.{few_inodes}
use Rattle.ufs_image_laws.proofs.DirectoryReads.{AreChunks}
use Rattle.ufs_image_laws.proofs.ItemLaws.{HasNumbers, IsGoodItem, good_items}
use Rattle.ufs_image_laws.proofs.ListLaws.{Each}
use Rattle.ufs_image_laws.proofs.NameLaws.{directory_chunks, directory_good}
use Rattle.ufs_image_laws.proofs.ParentLaws.{IsLow, parents_low}
use Rattle.ufs_image_laws.proofs.PlacingLaws.{count_placed}
use Rattle.ufs_image_laws.proofs.StructureLaws.{AreWhole}
use Rattle.ufs_image_laws.proofs.SuperLaws.{geometry_of_built}

-- the bytes of a directory
abbrev pub HasEntries : Geometry → List ℕ → Type 0
HasEntries g bytes = (entries : List DirEntry) × AreChunks g.endian entries bytes

pub record IsGoodNode (g : Geometry) (node : Node) : Type 0 where
  pub pointers : kind_has_pointers g (length node.bytes) (kind_of node.mode) ≡ not node.inside
  pub known : kind_of node.mode ≡ Unknown → ⊥
  pub directory : kind_of node.mode ≡ Directory → HasEntries g node.bytes

link_pointers : (n most : ℕ) → most ≡ 60 → nat_le most n ≡ not (nat_lt n 60)
link_pointers n most e = rw e (elim (cases_lt n 60) as (λ _. nat_le 60 n ≡ not (nat_lt n 60)) [
  | inl low ↦ lt-leb 60 n low ∙ ap not (sym (lt-ltb n 60 low))
  | inr high ↦ le-leb 60 n high ∙ ap not (sym (le-ltb n 60 high))
])

node_good_by : (g : Geometry) (kind : ItemKind) (directory own : List ℕ) (sparse : Bool) → g.maxsymlinklen ≡ 60 → (kind ≡ Dir → HasEntries g directory)
    → IsGoodNode g (record { mode = mode_of kind; bytes = if is_dir kind then directory else own; sparse = sparse; inside = is_link kind && nat_lt (length own) 60 })
unfolding kind_of
node_good_by g Dir directory own sparse links entries = record { pointers = refl; known = λ e. cc e; directory = λ e. entries refl }
node_good_by g File directory own sparse links entries = record { pointers = refl; known = λ e. cc e; directory = λ e. cc e }
node_good_by g Link directory own sparse links entries = record { pointers = link_pointers (length own) g.maxsymlinklen links; known = λ e. cc e; directory = λ e. cc e }

-- the bytes that an item has, if it is a directory
given_by : (g : Geometry) (kind : ItemKind) (directory : List ℕ) → HasEntries g directory → kind ≡ Dir → HasEntries g (if is_dir kind then directory else [])
given_by g Dir directory is e = is
given_by g File directory is e = cc e
given_by g Link directory is e = cc e

items_good : (g : Geometry) (all : List Item) (above : List ℕ) (inode : ℕ) (items : List Item) (parents : List ℕ) → g.maxsymlinklen ≡ 60 → Each IsGoodItem all → 3 + length all < 2 ^ 32
    → 3 ≤ inode → inode + length items ≤ 3 + length all → Each (IsLow (3 + length all)) parents → Each (IsGoodNode g) (item_nodes items (directories_from g.endian all above inode items parents))
items_good g all above inode [] parents links good few from to low = tt
items_good g all above inode (item ∷ items) [] links good few from to low = tt
items_good g all above inode (item ∷ items) (parent ∷ parents) links good few from to low =
    let up = low.0 in
    let some = up.some in
    let less = up.low in
    let entries = directory_good all above inode parent good (omega arith) (omega arith) (omega arith) (omega arith) few in
    let chunks : HasEntries g (directory_bytes g.endian all above inode parent) = (directory_entries all above inode parent, directory_chunks g.endian all above inode parent entries) in (
      node_good_by g item.kind (if is_dir item.kind then directory_bytes g.endian all above inode parent else []) item.bytes item.sparse links
          (given_by g item.kind (directory_bytes g.endian all above inode parent) chunks),
      items_good g all above (suc inode) items parents links good few (omega arith) (omega arith) (low.1),
    )

root_good : (g : Geometry) (items : List Item) (parents : List ℕ) → Each IsGoodItem items → 3 + length items < 2 ^ 32 → IsGoodNode g (root_of g.endian items parents)
unfolding kind_of
root_good g items parents good few =
    let entries = directory_good items parents 2 2 good (omega arith) (omega arith) (omega arith) (omega arith) few in
    record { pointers = refl; known = λ e. cc e; directory = λ e. (directory_entries items parents 2 2, directory_chunks g.endian items parents 2 2 entries) }

nodes_good : (g : Geometry) (items : List Item) (parents : List ℕ) → g.maxsymlinklen ≡ 60 → Each IsGoodItem items → 3 + length items < 2 ^ 32 → Each (IsLow (3 + length items)) parents
    → Each (IsGoodNode g) (nodes_of items (directories_of g.endian items parents))
unfolding directories_of
nodes_good g items parents links good few low =
    (root_good g items parents good few, items_good g items parents 3 items parents links good few (omega arith) (omega arith) low)

pub built_whole : (spec : Spec) (items : List Item) (image : List ℕ) (is : IsBuilt spec items image) → AreWhole is.g (nodes_in is) is.all
built_whole spec items image is =
    let geometry = geometry_of_built spec is.g is.geometry in
    let volume = are_volume spec items image is in
    let good = good_items items is.parents is.stand in
    let kinds = nodes_good is.g items is.parents geometry.links good.each (few_inodes spec items image is) (parents_low items is.parents is.stand) in
    let numbers = built_numbers spec items image is in
    record {
      files = record {
        volume = volume;
        numbers = geometry.numbers;
        kinds = λ k node e.
            let kind = at_place (IsGoodNode is.g) (nodes_in is) k node kinds e in
            record { numbers = at_place HasNumbers (nodes_in is) k node numbers e; pointers = kind.pointers; known = kind.known };
        count = count_placed is.g (nodes_in is) is.all.files (replicate is.g.size false) is.all.used volume.placed;
      };
      cgsize = geometry.cgsize;
      directories = λ k node e. let kind = at_place (IsGoodNode is.g) (nodes_in is) k node kinds e in kind.directory;
    }
