-- Reading the file at a path of a sound volume: which blocks it needs, and that it needs each of the file's own.
use Rattle.std.proofs.Common.{◌≡◌, ◌∙◌, ◌⊎◌, ℕ, inl, inr, Bool, true, false, List, Some, Result, Ok, Err, refl, sym, ap, subst, arith}
use Rattle.std.specs.Prelude.{Contains, IsOk, IsOkAnd, MatchOption, if◌then◌else◌}
use Rattle.ufs_model.specs.Blocks.{Volume}
use Rattle.ufs_model.specs.Claims.{IsClaim, level_of}
use Rattle.ufs_model.specs.Inodes.{kind_of}
use Rattle.ufs_model.specs.Malformations.{IsSoundVolume, inode_at}
use Rattle.ufs_model.specs.Owners.{IsOwner}
use Rattle.ufs_model.specs.Owners.IsOwner.{by_own_slot, by_upper}
use Rattle.ufs_model.specs.Paths.{cat_of, contents_of, file_refusal, is_regular, look_from, look_of, names_of, volume_geometry}
use Rattle.ufs_model.specs.Readings.{and_then}
use Rattle.ufs_model.specs.Roles.{is_data_of, is_system, role}
use Rattle.ufs_model.specs.Superblocks.{geometry_of}
use Rattle.ufs_model.specs.Trees.{file_of}
use Rattle.ufs_model.specs.declared.claims.ClaimSource.{ClaimSource}
use Rattle.ufs_model.specs.declared.geometries.BadSuper.{BadSuper}
use Rattle.ufs_model.specs.declared.geometries.Geometry.{Geometry}
use Rattle.ufs_model.specs.declared.inodes.Inode.{Inode}
use Rattle.ufs_model.specs.declared.inodes.Kind.TheVariants.{Directory, Regular}
use Rattle.ufs_model.specs.declared.malformations.BadKind.TheVariants.{Twice}
use Rattle.ufs_model.specs.declared.reads.PathRefusal.{PathRefusal}
use Rattle.ufs_model.specs.declared.reads.PathRefusal.TheVariants.{NotRegular}
use Rattle.ufs_model.specs.declared.roles.Role.{Role}
use Rattle.ufs_model.specs.declared.roles.Role.TheVariants.{Data, Outside, System}
use Rattle.ufs_frames.specs.Frames.{FilesAreTame, HasWholeIndirects}
use Rattle.ufs_frames.proofs.DataLaws.{claim_data}
use Rattle.ufs_frames.proofs.LooseLaws.{one_geometry}
use Rattle.ufs_frames.proofs.NeedLaws.{Needs, look_value, named_value, needs_bind, needs_cat, needs_known, needs_then, ok_same, regular_kind, then_value}
use Rattle.ufs_frames.proofs.ReachLaws.{IsReachedFor}
use Rattle.ufs_frames.proofs.RoleLaws.{superblock_system}
use Rattle.ufs_frames.proofs.StructureLaws.{geometry_needs, whole_by}
use Rattle.ufs_frames.proofs.VolumeLaws.{geometry_is, volume_accepted}
use Rattle.dg_model.specs.Volumes.{IsRegularFile, IsSystemBlock}
use Rattle.dg_model.specs.Wants.{IsOf}
use Rattle.dg_promise.proofs.CatLaws.{file_needs, file_read}
use Rattle.dg_promise.proofs.OwnerLaws.{one_owner, owner_of_reached}
use Rattle.dg_promise.proofs.ReadLaws.{IsRead, then_ok, then_refused, then_second}
use Rattle.dg_promise.proofs.VolumeLaws.{accepted_is_read, fragments_by, sound_by, sound_geometry}
use Rattle.dg_promise.specs.Needed.{IsNeeded}
use Rattle.dg_promise.specs.Needed.IsNeeded.{of_directory, of_file, of_system}

-- ---- the file at a path

-- a path leads to a regular file
record IsFound (l n : ℕ) (v : Volume) (path : List ℕ) (i : ℕ) : Type 0 where
  geometry : Geometry
  accepted : (geometry_of l n v).value ≡ Ok geometry
  inode : Inode
  look : (look_from geometry (names_of path) 2 v).value ≡ Ok (i, inode)
  regular : is_regular (kind_of inode.mode) ≡ true

if_regular : (test : Bool) (i j : ℕ) → ◌≡◌ {A = Result ℕ PathRefusal} (if test then Ok j else Err NotRegular) (Ok i) → (test ≡ true) × (j ≡ i)
if_regular true i j is = (refl, ok_same {R = PathRefusal} j i is)
if_regular false i j is = let no : ◌≡◌ {A = Result ℕ PathRefusal} (Err NotRegular) (Ok i) = is in grind (arith, no)

found_by : (l n : ℕ) (v : Volume) (path : List ℕ) (i : ℕ) → (file_of l n path v).value ≡ Ok i → IsFound l n v path i
unfolding file_of look_of
found_by l n v path i has =
    let look = then_value (look_of l n path) _ v i has in
    let steps = then_value (volume_geometry l n) (λ g. look_from g (names_of path) 2) v look.0 look.1 in
    let test = if_regular (is_regular (kind_of ((look.0).1).mode)) i ((look.0).0) look.2 in
    record {
      geometry = steps.0;
      accepted = volume_accepted l n v steps.0 steps.1;
      inode = (look.0).1;
      look = steps.2 ∙ ap (λ (j : ℕ). Ok (j, (look.0).1)) test.1;
      regular = test.0;
    }

cat_is : (l n : ℕ) (v : Volume) (path : List ℕ) (i : ℕ) (found : IsFound l n v path i) → (cat_of l n path v).value ≡ (contents_of found.geometry found.inode v).value
unfolding cat_of
cat_is l n v path i found =
    then_ok (volume_geometry l n) _ v found.geometry (accepted_is_read l n v found.geometry found.accepted)
    ∙ then_ok (look_from found.geometry (names_of path) 2) _ v (i, found.inode) found.look

cat_has : (l n : ℕ) (v : Volume) (path : List ℕ) (i b : ℕ) (found : IsFound l n v path i) → Contains ((contents_of found.geometry found.inode v).needs) b
    → Contains ((cat_of l n path v).needs) b
unfolding cat_of
cat_has l n v path i b found h =
    then_second (volume_geometry l n) _ v found.geometry b (accepted_is_read l n v found.geometry found.accepted)
    (then_second (look_from found.geometry (names_of path) 2) _ v (i, found.inode) b found.look h)

-- ---- what is refused

not_regular : (g : Geometry) (v : Volume) (inode : Inode) → is_regular (kind_of inode.mode) ≡ false → (contents_of g inode v).value ≡ Err NotRegular
unfolding contents_of file_refusal
not_regular g v inode is = rw is refl

refused_test : (test : Bool) (i : ℕ) (refusal : PathRefusal) → ◌≡◌ {A = Result ℕ PathRefusal} (if test then Ok i else Err NotRegular) (Err refusal) → (test ≡ false) × (NotRegular ≡ refusal)
refused_test true i refusal is = grind (arith, is)
refused_test false i refusal is = (refl, grind (arith, is))

same_refusal : (one other : PathRefusal) → ◌≡◌ {A = Result ℕ PathRefusal} (Err one) (Err other) → one ≡ other
same_refusal one other is = grind (arith, is)

pub refused_too : (l n : ℕ) (v : Volume) (path : List ℕ) (refusal : PathRefusal) → (file_of l n path v).value ≡ Err refusal → (cat_of l n path v).value ≡ Err refusal
unfolding cat_of file_of look_of
refused_too l n v path refusal has = on ((volume_geometry l n v).value) refl
  where
    by_inode : (g : Geometry) → (volume_geometry l n v).value ≡ Ok g → (found : Result (ℕ × Inode) PathRefusal) → (look_from g (names_of path) 2 v).value ≡ found → (cat_of l n path v).value ≡ Err refusal
    by_inode g accepted (Ok place) is =
        let look = then_ok (volume_geometry l n) (λ g. look_from g (names_of path) 2) v g accepted ∙ is in
        let test = refused_test (is_regular (kind_of (place.1).mode)) (place.0) refusal (sym (then_ok (look_of l n path) _ v place look) ∙ has) in
        then_ok (volume_geometry l n) _ v g accepted ∙ then_ok (look_from g (names_of path) 2) _ v place is ∙ not_regular g v (place.1) test.0 ∙ ap Err test.1
    by_inode g accepted (Err other) is =
        let look = then_ok (volume_geometry l n) (λ g. look_from g (names_of path) 2) v g accepted ∙ is in
        then_ok (volume_geometry l n) _ v g accepted ∙ then_refused (look_from g (names_of path) 2) _ v other is
        ∙ ap Err (same_refusal other refusal (sym (then_refused (look_of l n path) _ v other look) ∙ has))

    on : (found : Result Geometry PathRefusal) → (volume_geometry l n v).value ≡ found → (cat_of l n path v).value ≡ Err refusal
    on (Ok g) is = by_inode g is ((look_from g (names_of path) 2 v).value) refl
    on (Err other) is =
        let look = then_refused (volume_geometry l n) (λ g. look_from g (names_of path) 2) v other is in
        then_refused (volume_geometry l n) _ v other is ∙ ap Err (same_refusal other refusal (sym (then_refused (look_of l n path) _ v other look) ∙ has))

-- ---- which blocks are needed

-- a block of the file system itself, or one that is reached for one of some inodes
data IsNeededBy (g : Geometry) (v : Volume) (wanted : ℕ → Type 0) (b : ℕ) : Type 0 where
  by_system : is_system (role g b) ≡ true → IsNeededBy g v wanted b
  by_file : (i : ℕ) → wanted i → IsReachedFor g v i b → IsNeededBy g v wanted b

data_no_system : (group : ℕ) (one : Role) → is_data_of group one ≡ true → is_system one ≡ true → ⊥
data_no_system group Outside is system = let no : false ≡ true = is in cc
data_no_system group (System kind) is system = let no : false ≡ true = is in cc
data_no_system group (Data c) is system = let no : false ≡ true = system in cc

pub owner_claim : {claims : ℕ → ClaimSource → Type 0} {b i level : ℕ} → IsOwner claims b i level → (source : ClaimSource) × claims b source
owner_claim (by_own_slot one is) = (_, one.claim)
owner_claim (by_upper one is owner) = (_, one.claim)

-- a block that belongs to an inode is none of the file system itself
pub no_system : (l n : ℕ) (v : Volume) (b i : ℕ) → IsOf l n v b i → IsSystemBlock l n v b → ⊥
no_system l n v b i owner system = on ((geometry_of l n v).value) refl
  where
    on : (found : Result Geometry BadSuper) → (geometry_of l n v).value ≡ found → ⊥
    on (Ok g) is =
        let claim = owner_claim (subst (λ claimed. IsOwner (IsClaim claimed) b i owner.0) (fragments_by l n v g is) owner.1) in
        let data_of = claim_data g v b claim.0 claim.1 in
        data_no_system data_of.group (role g b) data_of.is (rw is at system)
    on (Err bad) is = rw is at system

-- and belongs to no other
pub alone : (l n : ℕ) (v : Volume) (b i j : ℕ) → IsOf l n v b i → IsOf l n v b j → i ≡ j
alone l n v b i j one other = one_owner _ one.1 other.1

regular_inode : (l n : ℕ) (v : Volume) (g : Geometry) (i : ℕ) (inode : Inode) → (geometry_of l n v).value ≡ Ok g → inode_at g v i ≡ Some inode
    → IsRegularFile l n v i → kind_of inode.mode ≡ Regular
regular_inode l n v g i inode is there h =
    let here : MatchOption (inode_at g v i) ⊥ (λ inode. kind_of inode.mode ≡ Regular) = rw is at h in
    subst (λ found. MatchOption found ⊥ (λ inode. kind_of inode.mode ≡ Regular)) there here

is_regular_file : (l n : ℕ) (v : Volume) (g : Geometry) (i : ℕ) (inode : Inode) → (geometry_of l n v).value ≡ Ok g → inode_at g v i ≡ Some inode
    → kind_of inode.mode ≡ Regular → IsRegularFile l n v i
is_regular_file l n v g i inode is there kind =
    let here : MatchOption (inode_at g v i) ⊥ (λ inode. kind_of inode.mode ≡ Regular) = subst (λ found. MatchOption found ⊥ (λ inode. kind_of inode.mode ≡ Regular)) (sym there) kind in
    subst (λ found. IsOkAnd found (λ g. MatchOption (inode_at g v i) ⊥ (λ inode. kind_of inode.mode ≡ Regular))) (sym is) here

module _ (l n : ℕ) (v : Volume) (whole_blocks : HasWholeIndirects l n v) (sound : IsSoundVolume l n v) (path : List ℕ) where
  -- an inode is a directory, or the file at the path
  abbrev Wanted : Geometry → ℕ → Type 0
  Wanted g i = ((inode : Inode) × (inode_at g v i ≡ Some inode) × (kind_of inode.mode ≡ Directory)) ⊎ ((file_of l n path v).value ≡ Ok i)

  file_value : (g : Geometry) (found : ℕ × Inode) → (volume_geometry l n v).value ≡ Ok g → (look_from g (names_of path) 2 v).value ≡ Ok found
      → is_regular (kind_of (found.1).mode) ≡ true → (file_of l n path v).value ≡ Ok (found.0)
  unfolding file_of look_of
  file_value g found is look regular =
      then_ok (look_of l n path) _ v found (then_ok (volume_geometry l n) (λ g. look_from g (names_of path) 2) v g is ∙ look) ∙ rw regular refl

  needs_volume : (g : Geometry) → (geometry_of l n v).value ≡ Ok g → Needs (IsNeededBy g v (Wanted g)) v (volume_geometry l n)
  unfolding volume_geometry
  needs_volume g is = needs_bind (IsNeededBy g v (Wanted g)) v (geometry_of l n) _
      (record { each = λ b h. by_system (superblock_system l n b g v (geometry_is l n v g is) (geometry_needs l n v b h)) }) (needs_known (IsNeededBy g v (Wanted g)) v _)

  needs_of_cat : (g : Geometry) → (geometry_of l n v).value ≡ Ok g → Needs (IsNeededBy g v (Wanted g)) v (cat_of l n path)
  unfolding cat_of
  needs_of_cat g is = needs_then (IsNeededBy g v (Wanted g)) v (volume_geometry l n) _ (needs_volume g is) (λ h has.
      subst (λ (k : Geometry). Needs (IsNeededBy g v (Wanted g)) v (and_then (look_from k (names_of path) 2) (λ found. contents_of k found.1)))
      (sym (one_geometry l n v g h is (volume_accepted l n v h has)))
      (needs_cat g v (whole_by l n v g is whole_blocks) (IsNeededBy g v (Wanted g)) (Wanted g) (λ b h. by_system h) (λ i b wanted reached. by_file i wanted reached) (λ i inode there kind. inl (inode, there, kind)) (names_of path) 2
      (λ found look regular. inr (file_value g found (accepted_is_read l n v g is) look regular))))

  owner_by : (g : Geometry) (is : (geometry_of l n v).value ≡ Ok g) (i b : ℕ) → IsReachedFor g v i b → IsOf l n v b i
  owner_by g is i b reached =
      let owner = owner_of_reached g v (λ f twice. sound_by l n v g is sound Twice f twice) reached.source i reached.first b reached.reaches reached.claim in
      (level_of reached.source, subst (λ claimed. IsOwner (IsClaim claimed) b i (level_of reached.source)) (sym (fragments_by l n v g is)) owner)

  found_regular : (i : ℕ) → (file_of l n path v).value ≡ Ok i → IsRegularFile l n v i
  found_regular i is =
      let found = found_by l n v path i is in
      is_regular_file l n v found.geometry i found.inode found.accepted
      (named_value found.geometry v i found.inode (look_value found.geometry v (names_of path) 2 (i, found.inode) found.look))
      (regular_kind (kind_of found.inode.mode) found.regular)

  needed_by : (g : Geometry) (is : (geometry_of l n v).value ≡ Ok g) (b : ℕ) → IsNeededBy g v (Wanted g) b → IsNeeded l n v path b
  needed_by g is b (by_system h) = of_system (subst (λ found. IsOkAnd found (λ g. is_system (role g b) ≡ true)) (sym is) h)
  needed_by g is b (by_file i (inl (inode, there, kind)) reached) = of_directory i (owner_by g is i b reached) (λ regular.
      let other = regular_inode l n v g i inode is there regular in
      let no : Regular ≡ Directory = sym other ∙ kind in cc)
  needed_by g is b (by_file i (inr file) reached) = of_file i file (owner_by g is i b reached) (found_regular i file)

  pub needed : (b : ℕ) → Contains ((cat_of l n path v).needs) b → IsNeeded l n v path b
  needed b h =
      let has = sound_geometry l n v sound in
      needed_by has.0 has.1 b ((needs_of_cat has.0 has.1).each b h)

  -- ---- the file's own blocks

  module _ (tame : FilesAreTame) (i : ℕ) (file : (file_of l n path v).value ≡ Ok i) where
    the_found : IsFound l n v path i
    the_found = found_by l n v path i file

    the_inode : inode_at the_found.geometry v i ≡ Some the_found.inode
    the_inode = named_value the_found.geometry v i the_found.inode (look_value the_found.geometry v (names_of path) 2 (i, the_found.inode) the_found.look)

    pub cat_read : IsRead (cat_of l n path) v
    cat_read =
        let g = the_found.geometry in
        let is = the_found.accepted in
        let read = file_read tame g v (whole_by l n v g is whole_blocks) (sound_by l n v g is sound) i the_found.inode the_inode the_found.regular in
        record { answer = read.answer; is = cat_is l n v path i the_found ∙ read.is }

    pub own_needed : (b : ℕ) → IsOf l n v b i → Contains ((cat_of l n path v).needs) b
    own_needed b owner =
        let g = the_found.geometry in
        let is = the_found.accepted in
        cat_has l n v path i b the_found (file_needs tame g v (whole_by l n v g is whole_blocks) (sound_by l n v g is sound) i the_found.inode the_inode the_found.regular b owner.0
        (subst (λ claimed. IsOwner (IsClaim claimed) b i owner.0) (fragments_by l n v g is) owner.1))

pub file_is_read : FilesAreTame → (l n : ℕ) (v : Volume) (path : List ℕ) (i : ℕ) → HasWholeIndirects l n v → IsSoundVolume l n v → (file_of l n path v).value ≡ Ok i → IsOk (cat_of l n path v).value
file_is_read tame l n v path i whole sound file = rw ((cat_read l n v whole sound path tame i file).is) refl
