-- What a built volume is made of.
use Rattle.std.proofs.Common.{◌≡◌, ◌∙◌, ℕ, zero, suc, ◌+◌, ◌*◌, ◌<◌, ◌≤◌, ◌&&◌, Bool, true, false, List, [], ◌∷◌, length, refl, sym, subst, arith, Some, None}
use Rattle.std.specs.Prelude.{Err, Ok, Option, Result, if◌then◌else◌, nat_le, nat_lt, slice_get}
use Rattle.std.proofs.lemmas.Bool.{false≢true, leb-true, ltb-true}
use Rattle.std.proofs.lemmas.Option.{same_Some}
use Rattle.ufs_model.specs.declared.geometries.Geometry.{Geometry}
use Rattle.ufs_build.specs.Builds.{built, volume_nodes, with_geometry, with_parents, with_placed}
use Rattle.ufs_build.specs.Directories.{directories_of}
use Rattle.ufs_build.specs.Images.{volume_bytes}
use Rattle.ufs_build.specs.Items.{is_dir, parents_of}
use Rattle.ufs_build.specs.Nodes.{is_link, item_nodes, node_of, nodes_of}
use Rattle.ufs_build.specs.Placements.{AllPlaced, placed_files}
use Rattle.ufs_build.specs.Volumes.{volume_of_spec}
use Rattle.ufs_build.specs.declared.items.Item.{Item}
use Rattle.ufs_build.specs.declared.items.ItemKind.{ItemKind}
use Rattle.ufs_build.specs.declared.items.ItemKind.TheVariants.{Dir, File, Link}
use Rattle.ufs_build.specs.declared.refusals.BuildRefused.{BuildRefused}
use Rattle.ufs_build.specs.declared.volumes.Spec.{Spec}
use Rattle.ufs_image_laws.specs.Built.{IsBuilt}
use Rattle.ufs_image_laws.proofs.ItemLaws.{HasNumbers, files_numbers, good_items}
use Rattle.ufs_image_laws.proofs.ListLaws.{Each}
use Rattle.ufs_image_laws.proofs.PartLaws.{FitsInode, IsWhole}
use Rattle.ufs_image_laws.proofs.PlacingLaws.{all_placed}
use Rattle.ufs_image_laws.proofs.SuperLaws.{geometry_of_built}
use Rattle.ufs_image_laws.proofs.VolumeLaws.{AreVolume}

same_Ok : (x y : List ℕ) → ◌≡◌ {A = Result (List ℕ) BuildRefused} (Ok x) (Ok y) → x ≡ y
same_Ok x y e = cc e

by_placed : (spec : Spec) (items : List Item) (image : List ℕ) (g : Geometry) (parents : List ℕ) (found : Option AllPlaced) → volume_of_spec spec ≡ Some g
    → length items + 3 ≤ g.ncg * g.ipg → parents_of items ≡ Ok parents → placed_files g (volume_nodes g items parents) ≡ found
    → with_placed g (volume_nodes g items parents) found ≡ Ok image → IsBuilt spec items image
by_placed spec items image g parents None geometry few stand placed e = absurd (cc e)
by_placed spec items image g parents (Some all) geometry few stand placed e = record {
  g = g;
  parents = parents;
  all = all;
  geometry = geometry;
  few = few;
  stand = stand;
  placed = placed;
  bytes = sym (same_Ok (volume_bytes g (volume_nodes g items parents) all) image e);
}

by_parents : (spec : Spec) (items : List Item) (image : List ℕ) (g : Geometry) (found : Result (List ℕ) ℕ) → volume_of_spec spec ≡ Some g
    → length items + 3 ≤ g.ncg * g.ipg → parents_of items ≡ found → with_parents g items found ≡ Ok image → IsBuilt spec items image
by_parents spec items image g (Err k) geometry few stand e = absurd (cc e)
by_parents spec items image g (Ok parents) geometry few stand e =
    by_placed spec items image g parents (placed_files g (volume_nodes g items parents)) geometry few stand refl e

by_count : (spec : Spec) (items : List Item) (image : List ℕ) (g : Geometry) (fits : Bool) (refusal : BuildRefused) → volume_of_spec spec ≡ Some g
    → nat_le (length items + 3) (g.ncg * g.ipg) ≡ fits → (if fits then with_parents g items (parents_of items) else Err refusal) ≡ Ok image → IsBuilt spec items image
by_count spec items image g false refusal geometry few e = absurd (cc e)
by_count spec items image g true refusal geometry few e =
    by_parents spec items image g (parents_of items) geometry (leb-true (length items + 3) (g.ncg * g.ipg) few) refl e

by_geometry : (spec : Spec) (items : List Item) (image : List ℕ) (found : Option Geometry) → volume_of_spec spec ≡ found → with_geometry items found ≡ Ok image
    → IsBuilt spec items image
by_geometry spec items image None geometry e = absurd (cc e)
by_geometry spec items image (Some g) geometry e = by_count spec items image g (nat_le (length items + 3) (g.ncg * g.ipg)) _ geometry refl e

pub is_built : (spec : Spec) (items : List Item) (image : List ℕ) → built spec items ≡ Ok image → IsBuilt spec items image
unfolding built
is_built spec items image e = by_geometry spec items image (volume_of_spec spec) refl e

-- ---- its files

short_link : (kind : ItemKind) (small : Bool) (size : ℕ) (own directory : List ℕ) → length own ≡ size → (small ≡ true → size < 60)
    → (is_link kind && small) ≡ true → length (if is_dir kind then directory else own) ≤ 60
short_link Dir small size own directory e h is = absurd (false≢true is)
short_link File small size own directory e h is = absurd (false≢true is)
short_link Link small size own directory e h is = let low = h is in omega arith

item_fits : (item : Item) (directory : List ℕ) → FitsInode (node_of item directory)
item_fits item directory = record {
  small = short_link item.kind (nat_lt (length item.bytes) 60) (length item.bytes) item.bytes directory refl (λ e. ltb-true (length item.bytes) 60 e);
}

items_fit : (items : List Item) (directories : List (List ℕ)) → Each FitsInode (item_nodes items directories) × (length (item_nodes items directories) ≤ length items)
items_fit [] directories = (tt, omega arith)
items_fit (item ∷ items) [] = (tt, omega arith)
items_fit (item ∷ items) (directory ∷ directories) =
    let rest = items_fit items directories in ((item_fits item directory, rest.0), let few = rest.1 in omega arith)

nodes_fit : (items : List Item) (directories : List (List ℕ)) → Each FitsInode (nodes_of items directories) × (length (nodes_of items directories) ≤ length items + 1)
nodes_fit items [] = (tt, omega arith)
nodes_fit items (root ∷ directories) =
    let rest = items_fit items directories in ((record { small = λ e. absurd (false≢true e) }, rest.0), let few = rest.1 in omega arith)

pub whole_geometry : (spec : Spec) (g : Geometry) → volume_of_spec spec ≡ Some g → IsWhole g
whole_geometry spec g e =
    let is = geometry_of_built spec g e in
    record { tests = is.tests; group = is.group; size = is.size ∙ rw (is.ncg, is.fpg) refl; maps = is.maps }

pub are_volume : (spec : Spec) (items : List Item) (image : List ℕ) (is : IsBuilt spec items image) → AreVolume is.g (volume_nodes is.g items is.parents) is.all
are_volume spec items image is =
    let fits = nodes_fit items (directories_of is.g.endian items is.parents) in
    record {
      geometry = whole_geometry spec is.g is.geometry;
      few = let a = fits.1 in let b = is.few in omega (arith, a, b);
      fits = fits.0;
      placed = all_placed is.g (volume_nodes is.g items is.parents) is.all is.placed;
    }

pub built_numbers : (spec : Spec) (items : List Item) (image : List ℕ) (is : IsBuilt spec items image) → Each HasNumbers (volume_nodes is.g items is.parents)
built_numbers spec items image is =
    let good = good_items items is.parents is.stand in
    let whole = whole_geometry spec is.g is.geometry in
    let tests = whole.tests in
    let inodes = tests.inodes in
    let most = inodes.2 in
    let few = is.few in
    files_numbers is.g.endian items is.parents good.each (omega arith)

-- the file at a place has what each has
pub at_place : {X : Type 0} (P : X → Type 0) (xs : List X) (k : ℕ) (x : X) → Each P xs → slice_get xs k ≡ Some x → P x
at_place P [] k x each e = absurd (cc e)
at_place P (y ∷ xs) zero x each e = subst P (same_Some y x e) (each.0)
at_place P (y ∷ xs) (suc k) x each e = at_place P xs k x (each.1) e
