-- What a built volume is made of, and its blocks.
use Rattle.std.specs.Prelude.{false, ◌≡◌, ◌+◌, ◌*◌, ◌≤◌, ℕ, List, Some, Ok, length, map}
use Rattle.std.specs.List.{range_with_len}
use Rattle.ufs_model.specs.Blocks.{Volume}
use Rattle.ufs_model.specs.Geometries.{IsGeometryOn}
use Rattle.ufs_model.specs.declared.geometries.Geometry.{Geometry}
use Rattle.ufs_model.specs.declared.group_maps.Group.{Group}
use Rattle.ufs_model.specs.declared.numbers.Endian.{Endian}
use Rattle.ufs_build.specs.Builds.{volume_nodes}
use Rattle.ufs_build.specs.Directories.{directory_bytes}
use Rattle.ufs_build.specs.Images.{volume_bytes, volume_parts}
use Rattle.ufs_build.specs.Items.{parents_of}
use Rattle.ufs_build.specs.Nodes.{Node}
use Rattle.ufs_build.specs.Parts.{Part}
use Rattle.ufs_build.specs.Placements.{AllPlaced, placed_files}
use Rattle.ufs_build.specs.Traces.{block_in}
use Rattle.ufs_build.specs.Volumes.{freeoff_of, iusedoff, volume_of_spec}
use Rattle.ufs_build.specs.declared.items.Item.{Item}
use Rattle.ufs_build.specs.declared.volumes.Spec.{Spec}

-- What the volume of a spec and items is made of: its geometry, the inodes of the items' directories, and the fragments that files got.
-- Each of them is given by the spec and the items alone.
pub record IsBuilt (spec : Spec) (items : List Item) (image : List ℕ) : Type 0 where
  pub g : Geometry
  pub parents : List ℕ
  pub all : AllPlaced
  pub geometry : volume_of_spec spec ≡ Some g
  pub few : length items + 3 ≤ g.ncg * g.ipg
  pub stand : parents_of items ≡ Ok parents
  pub placed : placed_files g (volume_nodes g items parents) ≡ Some all
  pub bytes : image ≡ volume_bytes g (volume_nodes g items parents) all

-- its files, the root's directory first
abbrev pub nodes_in : {spec : Spec} {items : List Item} {image : List ℕ} → IsBuilt spec items image → List Node
nodes_in {items = items} built = volume_nodes built.g items built.parents

-- the root's directory
abbrev pub root_of : Endian → List Item → List ℕ → Node
root_of endian items parents = record { mode = 0x41ed; bytes = directory_bytes endian items parents 2 2; sparse = false; inside = false }

-- its parts
abbrev pub parts_in : {spec : Spec} {items : List Item} {image : List ℕ} → IsBuilt spec items image → List Part
parts_in built = volume_parts built.g (nodes_in built) built.all

-- the blocks of an image: n blocks of l bytes
unfoldable pub blocks_in : ℕ → ℕ → List ℕ → Volume
blocks_in l n image = map (block_in l image) (range_with_len 0 n)

-- a geometry has the numbers of a spec
pub record IsOfSpec (spec : Spec) (g : Geometry) : Type 0 where
  pub tests : IsGeometryOn spec.l (spec.ncg * spec.fpg) g
  pub endian : g.endian ≡ spec.endian
  pub fsize : g.fsize ≡ spec.l
  pub frag : g.frag ≡ spec.frag
  pub ncg : g.ncg ≡ spec.ncg
  pub ipg : g.ipg ≡ spec.ipg
  pub fpg : g.fpg ≡ spec.fpg
  pub size : g.size ≡ spec.ncg * spec.fpg

-- where the maps of group c stand in its block
abbrev pub group_of : Geometry → ℕ → Group
group_of g c = record { c = c; iusedoff = iusedoff; freeoff = freeoff_of g.ipg; count = g.fpg }
