-- What is read of a volume by its superblock is local.
use Rattle.std.proofs.Common.{◌≡◌, ℕ, ◌*◌, ◌/◌, List, Result, Ok, Err, subst, arith}
use Rattle.std.specs.Prelude.{if◌then◌else◌}
use Rattle.std.specs.Int.{div_ceil}
use Rattle.ufs_model.specs.Blocks.{Reading, Volume, bind, known}
use Rattle.ufs_model.specs.Geometries.{IsGeometryOn}
use Rattle.ufs_model.specs.Inodes.{kind_of}
use Rattle.ufs_model.specs.Listings.{ls_of}
use Rattle.ufs_model.specs.Paths.{cat_of, is_directory, is_regular, look_from, look_of, named_inode, names_of, or_bad_super, volume_geometry}
use Rattle.ufs_model.specs.Superblocks.{geometry_in, geometry_of, superblock_of}
use Rattle.ufs_model.specs.Trees.{file_of, tree_below, tree_of}
use Rattle.ufs_model.specs.declared.geometries.BadSuper.{BadSuper}
use Rattle.ufs_model.specs.declared.geometries.Geometry.{Geometry}
use Rattle.ufs_model.specs.declared.reads.PathRefusal.{PathRefusal}
use Rattle.ufs_model.specs.declared.reads.PathRefusal.TheVariants.{NotDirectory, NotRegular}
use Rattle.ufs_model.proofs.GeometryLaws.{accepted_is}
use Rattle.ufs_frames.specs.Frames.{IsLocal}
use Rattle.ufs_frames.proofs.LocalLaws.{local_bind, local_if, local_known, local_ok, local_then, local_within}
use Rattle.ufs_frames.proofs.PathLaws.{local_contents, local_listing, local_look, local_named, local_tree}

pub local_geometry : (l n : ℕ) → IsLocal l (geometry_of l n)
unfolding geometry_of superblock_of
local_geometry l n = local_bind l (superblock_of l n) _ (local_within l n (8192 / l) (div_ceil 1376 l)) (λ bytes. local_known l (geometry_in bytes l n))

-- the geometry of a volume is one on its blocks
pub geometry_is : (l n : ℕ) (v : Volume) (g : Geometry) → (geometry_of l n v).value ≡ Ok g → IsGeometryOn l n g
unfolding geometry_of bind
geometry_is l n v g has = (accepted_is ((superblock_of l n v).value) l n g has).geometry

pub local_volume : (l n : ℕ) → IsLocal l (volume_geometry l n)
unfolding volume_geometry
local_volume l n = local_bind l (geometry_of l n) _ (local_geometry l n) (λ found. local_known l (or_bad_super found))

accepted_by : (found : Result Geometry BadSuper) (g : Geometry) → or_bad_super found ≡ Ok g → found ≡ Ok g
accepted_by (Ok h) g has = grind (arith, has)
accepted_by (Err kind) g has = grind (arith, has)

pub volume_accepted : (l n : ℕ) (v : Volume) (g : Geometry) → (volume_geometry l n v).value ≡ Ok g → (geometry_of l n v).value ≡ Ok g
unfolding volume_geometry bind
volume_accepted l n v g has = accepted_by ((geometry_of l n v).value) g has

-- what is read by the geometry of a volume
local_by : {A : Type 0} (l n : ℕ) (f : Geometry → Reading (Result A PathRefusal)) → ((g : Geometry) → IsLocal g.fsize (f g))
    → (v : Volume) (g : Geometry) → (volume_geometry l n v).value ≡ Ok g → IsLocal l (f g)
local_by l n f each v g has = subst (λ (k : ℕ). IsLocal k (f g)) ((geometry_is l n v g (volume_accepted l n v g has)).fsize) (each g)

pub local_look_of : (l n : ℕ) (path : List ℕ) → IsLocal l (look_of l n path)
unfolding look_of
local_look_of l n path = local_ok l (volume_geometry l n) _ (local_volume l n) (local_by l n _ (λ g. local_look g (names_of path) 2))

pub local_cat_of : (l n : ℕ) (path : List ℕ) → IsLocal l (cat_of l n path)
unfolding cat_of
local_cat_of l n path = local_ok l (volume_geometry l n) _ (local_volume l n) (local_by l n _ (λ g.
    local_then g.fsize (look_from g (names_of path) 2) _ (local_look g (names_of path) 2) (λ found. local_contents g (found.1))))

pub local_ls_of : (l n : ℕ) (path : List ℕ) → IsLocal l (ls_of l n path)
unfolding ls_of
local_ls_of l n path = local_ok l (volume_geometry l n) _ (local_volume l n) (local_by l n _ (λ g.
    local_then g.fsize (look_from g (names_of path) 2) _ (local_look g (names_of path) 2) (λ found. local_listing g (found.1))))

pub local_tree_of : (l n : ℕ) → IsLocal l (tree_of l n)
unfolding tree_of
local_tree_of l n = local_ok l (volume_geometry l n) _ (local_volume l n) (local_by l n _ (λ g.
    local_then g.fsize (named_inode g 2) _ (local_named g 2) (λ root.
    local_if g.fsize (is_directory (kind_of root.mode)) (tree_below g (g.ncg * g.ipg) 1 root) (known (Err NotDirectory))
    (local_tree g (g.ncg * g.ipg) 1 root) (local_known g.fsize (Err NotDirectory)))))

pub local_file_of : (l n : ℕ) (path : List ℕ) → IsLocal l (file_of l n path)
unfolding file_of
local_file_of l n path = local_then l (look_of l n path) _ (local_look_of l n path) (λ found.
    local_known l (if is_regular (kind_of found.1.mode) then Ok found.0 else Err NotRegular))
