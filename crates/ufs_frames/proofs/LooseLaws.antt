-- What is read of a volume, and its structure, need used blocks alone, so that the others may change.
use Rattle.std.proofs.Common.{◌≡◌, ◌≢◌, ◌∙◌, ℕ, ◌*◌, length, List, Result, Ok, Err, sym, ap, subst}
use Rattle.std.specs.Prelude.{Contains}
use Rattle.ufs_model.specs.Blocks.{Consulted, Reading, Volume, block_at, known}
use Rattle.ufs_model.specs.Inodes.{kind_of}
use Rattle.ufs_model.specs.Listings.{ls_of}
use Rattle.ufs_model.specs.Metadata.{IsMetadata, IsStructure}
use Rattle.ufs_model.specs.Metadata.IsMetadata.{by_geometry, of_superblock}
use Rattle.ufs_model.specs.Metadata.IsStructure.{of_directory, of_metadata}
use Rattle.ufs_model.specs.Paths.{cat_of, is_directory, look_of, named_inode, names_of, volume_geometry}
use Rattle.ufs_model.specs.Readings.{and_then}
use Rattle.ufs_model.specs.Superblocks.{geometry_of, superblock_of}
use Rattle.ufs_model.specs.Trees.{file_of, tree_below, tree_of}
use Rattle.ufs_model.specs.declared.geometries.BadSuper.{BadSuper}
use Rattle.ufs_model.specs.declared.geometries.Geometry.{Geometry}
use Rattle.ufs_model.specs.declared.reads.PathRefusal.{PathRefusal}
use Rattle.ufs_model.specs.declared.reads.PathRefusal.TheVariants.{NotDirectory}
use Rattle.ufs_frames.specs.Frames.{AgreeOn, DifferLoosely, HasWholeIndirects, HaveSameStructure, IsLoose, IsUsed, ReadTheSame}
use Rattle.ufs_frames.specs.Frames.IsUsed.{of_claim, of_system}
use Rattle.ufs_frames.proofs.NeedLaws.{Needs, needs_bind, needs_if, needs_known, needs_then}
use Rattle.ufs_frames.proofs.RoleLaws.{superblock_system}
use Rattle.ufs_frames.proofs.StructureLaws.{claims_by, geometry_needs, same_structure, whole_by}
use Rattle.ufs_frames.proofs.UseLaws.{IsUsed as IsUsedBy, metadata_used, needs_cat, needs_look, needs_ls, needs_named, needs_tree}
use Rattle.ufs_frames.proofs.UseLaws.IsUsed.{by_claim, by_system}
use Rattle.ufs_frames.proofs.VolumeLaws.{geometry_is, local_cat_of, local_file_of, local_look_of, local_ls_of, local_tree_of, volume_accepted}

-- ---- by the geometry

pub one_geometry : (l n : ℕ) (v : Volume) (g h : Geometry) → (geometry_of l n v).value ≡ Ok g → (geometry_of l n v).value ≡ Ok h → h ≡ g
one_geometry l n v g h one other = let same : ◌≡◌ {A = Result Geometry BadSuper} (Ok h) (Ok g) = sym other ∙ one in cc

module _ (l n : ℕ) (v : Volume) (g : Geometry) (is : (geometry_of l n v).value ≡ Ok g) where
  used : (b : ℕ) → IsUsedBy g v b → IsUsed l n v b
  used b (by_system h) = of_system g is h
  used b (by_claim source claim) = of_claim source ((claims_by l n v g is b source).1 claim)

  superblock_used : (b : ℕ) → Contains ((superblock_of l n v).needs) b → IsUsedBy g v b
  superblock_used b h = by_system (superblock_system l n b g v (geometry_is l n v g is) h)

  metadata_by : (b : ℕ) → IsMetadata l n v b → IsUsedBy g v b
  metadata_by b (of_superblock h) = superblock_used b h
  metadata_by b (by_geometry h other metadata) =
      subst (λ (k : Geometry). IsUsedBy k v b) (one_geometry l n v g h is other) (metadata_used h v b (geometry_is l n v h other).tests metadata)

  structure_by : (b : ℕ) → IsStructure l n v b → IsUsedBy g v b
  structure_by b (of_metadata h) = metadata_by b h
  structure_by b (of_directory h i first source other directory claim reaches) =
      subst (λ (k : Geometry). IsUsedBy k v b) (one_geometry l n v g h is other) (by_claim source claim)

  pub structure_used : (b : ℕ) → IsStructure l n v b → IsUsed l n v b
  structure_used b h = used b (structure_by b h)

  needs_volume : Needs (IsUsedBy g v) v (volume_geometry l n)
  unfolding volume_geometry
  needs_volume = needs_bind (IsUsedBy g v) v (geometry_of l n) _ (record { each = λ b h. superblock_used b (geometry_needs l n v b h) }) (needs_known (IsUsedBy g v) v _)

  -- what is read by the geometry
  needs_by : {A : Type 0} (f : Geometry → Reading (Result A PathRefusal)) → Needs (IsUsedBy g v) v (f g) → Needs (IsUsedBy g v) v (and_then (volume_geometry l n) f)
  needs_by f needs = needs_then (IsUsedBy g v) v (volume_geometry l n) f needs_volume (λ h has.
      subst (λ (k : Geometry). Needs (IsUsedBy g v) v (f k)) (sym (one_geometry l n v g h is (volume_accepted l n v h has))) needs)

  module _ (whole : HasWholeIndirects l n v) where
    by_look : (path : List ℕ) → Needs (IsUsedBy g v) v (look_of l n path)
    unfolding look_of
    by_look path = needs_by _ (needs_look g v (whole_by l n v g is whole) (names_of path) 2)

    pub look_used : (path : List ℕ) (b : ℕ) → Contains ((look_of l n path v).needs) b → IsUsed l n v b
    look_used path b h = used b ((by_look path).each b h)

    by_cat : (path : List ℕ) → Needs (IsUsedBy g v) v (cat_of l n path)
    unfolding cat_of
    by_cat path = needs_by _ (needs_cat g v (whole_by l n v g is whole) (names_of path) 2)

    pub cat_used : (path : List ℕ) (b : ℕ) → Contains ((cat_of l n path v).needs) b → IsUsed l n v b
    cat_used path b h = used b ((by_cat path).each b h)

    by_ls : (path : List ℕ) → Needs (IsUsedBy g v) v (ls_of l n path)
    unfolding ls_of
    by_ls path = needs_by _ (needs_ls g v (whole_by l n v g is whole) (names_of path) 2)

    pub ls_used : (path : List ℕ) (b : ℕ) → Contains ((ls_of l n path v).needs) b → IsUsed l n v b
    ls_used path b h = used b ((by_ls path).each b h)

    by_file : (path : List ℕ) → Needs (IsUsedBy g v) v (file_of l n path)
    unfolding file_of
    by_file path = needs_then (IsUsedBy g v) v (look_of l n path) _ (by_look path) (λ found has. needs_known (IsUsedBy g v) v _)

    pub file_used : (path : List ℕ) (b : ℕ) → Contains ((file_of l n path v).needs) b → IsUsed l n v b
    file_used path b h = used b ((by_file path).each b h)

    by_tree : Needs (IsUsedBy g v) v (tree_of l n)
    unfolding tree_of
    by_tree = needs_by _ (needs_then (IsUsedBy g v) v (named_inode g 2) _ (needs_named g v (whole_by l n v g is whole) 2) (λ root has.
        needs_if (IsUsedBy g v) v (is_directory (kind_of root.mode)) (tree_below g (g.ncg * g.ipg) 1 root) (known (Err NotDirectory))
        (λ directory. needs_tree g v (whole_by l n v g is whole) (g.ncg * g.ipg) 1 2 root has) (λ other. needs_known (IsUsedBy g v) v (Err NotDirectory))))

    pub tree_used : (b : ℕ) → Contains ((tree_of l n v).needs) b → IsUsed l n v b
    tree_used b h = used b (by_tree.each b h)

-- ---- loose blocks

module _ (l n : ℕ) (v w : Volume) (g : Geometry) (is : (geometry_of l n v).value ≡ Ok g) (whole : HasWholeIndirects l n v) (agree : AgreeOn l (λ b. IsLoose l n v b → ⊥) v w) where
  same_used : (b : ℕ) → IsUsed l n v b → block_at l w b ≡ block_at l v b
  same_used b used = agree b (λ loose. loose.unused used)

  structured : HaveSameStructure l n v w
  structured = same_structure l n v w whole (λ b h. same_used b (structure_used l n v g is b h))

  found_same : (geometry_of l n w).value ≡ (geometry_of l n v).value
  found_same = ap (λ (c : Consulted (Result Geometry BadSuper)). c.value) structured.claims.geometry

  read_same : ReadTheSame l n v w
  read_same = record {
    look = λ path. (local_look_of l n path).same v w (λ b h. same_used b (look_used l n v g is whole path b h));
    cat = λ path. (local_cat_of l n path).same v w (λ b h. same_used b (cat_used l n v g is whole path b h));
    ls = λ path. (local_ls_of l n path).same v w (λ b h. same_used b (ls_used l n v g is whole path b h));
    file = λ path. (local_file_of l n path).same v w (λ b h. same_used b (file_used l n v g is whole path b h));
    tree = (local_tree_of l n).same v w (λ b h. same_used b (tree_used l n v g is whole b h));
  }

  used_onto : (b : ℕ) → IsUsed l n v b → IsUsed l n w b
  used_onto b (of_system h accepted system) = of_system h (found_same ∙ accepted) system
  used_onto b (of_claim source claim) = of_claim source ((structured.claims.claims b source).1 claim)

  used_back : (b : ℕ) → IsUsed l n w b → IsUsed l n v b
  used_back b (of_system h accepted system) = of_system h (sym found_same ∙ accepted) system
  used_back b (of_claim source claim) = of_claim source ((structured.claims.claims b source).0 claim)

  pub differ_loosely : DifferLoosely l n v w
  differ_loosely = record {
    structure = structured;
    reads = read_same;
    whole = λ b source claim above.
        let before = (structured.claims.claims b source).0 claim in
        ap length (same_used b (of_claim source before)) ∙ whole b source before above;
    loose = λ b. (
      λ h. record { geometry = h.geometry; accepted = sym found_same ∙ h.accepted; unused = λ u. h.unused (used_onto b u) },
      λ h. record { geometry = h.geometry; accepted = found_same ∙ h.accepted; unused = λ u. h.unused (used_back b u) },
    );
  }

-- one loose block may change
pub one_loose : (l n : ℕ) (v w : Volume) (b : ℕ) → HasWholeIndirects l n v → IsLoose l n v b → AgreeOn l (λ other. other ≢ b) v w → DifferLoosely l n v w
one_loose l n v w b whole loose agree = differ_loosely l n v w loose.geometry loose.accepted whole (λ c tight.
    agree c (λ same. tight (subst (λ (k : ℕ). IsLoose l n v k) (sym same) loose)))
