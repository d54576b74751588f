-- A settled array from which dead blocks were reaped is in order.
use Rattle.std.proofs.Common.{◌≡◌, ◌∙◌, ℕ, inl, inr, length, Bool, true, false, List, [], map, Option, Some, None, Result, Ok, Err, refl, sym, ap, subst, arith}
use Rattle.std.specs.Prelude.{◌==◌, IsOkAnd, MatchOption, if◌then◌else◌, is_some, nat_lt, replicate}
use Rattle.std.specs.List.{list_any, range_with_len}
use Rattle.std.proofs.lemmas.Bool.{cases_Bool, cases_lt, false≢true}
use Rattle.std.proofs.lemmas.List.{get_or_default, get_or_past}
use Rattle.std.proofs.lemmas.List.FromFn.{get_or-map-range_with_len, length-map-range_with_len}
use Rattle.ufs_model.specs.Blocks.{Consulted, Volume, block_at}
use Rattle.ufs_model.specs.Inodes.{inode_of, is_inode_number, kind_of}
use Rattle.ufs_model.specs.Malformations.{IsSoundVolume, inode_at}
use Rattle.ufs_model.specs.Roles.{is_system, role}
use Rattle.ufs_model.specs.Superblocks.{geometry_of}
use Rattle.ufs_model.specs.declared.geometries.BadSuper.{BadSuper}
use Rattle.ufs_model.specs.declared.geometries.Geometry.{Geometry}
use Rattle.ufs_model.specs.declared.inodes.Inode.{Inode}
use Rattle.ufs_model.specs.declared.inodes.Kind.TheVariants.{Regular}
use Rattle.ufs_model.specs.declared.roles.Role.TheVariants.{Data}
use Rattle.ufs_frames.specs.Frames.{AgreeOn, DifferLoosely, HasWholeIndirects, IsLocal, IsLoose, IsUsed}
use Rattle.ufs_frames.specs.Frames.IsUsed.{of_claim, of_system}
use Rattle.ufs_frames.proofs.ClaimLaws.{inode_needs, number_below}
use Rattle.ufs_frames.proofs.RoleLaws.{inode_system}
use Rattle.ufs_frames.proofs.VolumeLaws.{geometry_is}
use Rattle.dg_model.specs.Blocks.{block_in, zeros}
use Rattle.dg_model.specs.Marks.{IsDead}
use Rattle.dg_model.specs.Placed.{IsPlaced}
use Rattle.dg_model.specs.Plans.{places_of}
use Rattle.dg_model.specs.Refills.{Reaps}
use Rattle.dg_model.specs.Sites.{has_site}
use Rattle.dg_model.specs.Tables.{Table, count_on, is_on, sites_in}
use Rattle.dg_model.specs.Volumes.{IsClaimed, IsMarkedFree, IsRegularFile, IsSystemBlock, geometry_on}
use Rattle.dg_model.specs.Wants.{AreWants, FitWants, IsOf, IsWant, want_of}
use Rattle.dg_model.specs.declared.homes.Home.{Home}
use Rattle.dg_model.specs.declared.shapes.Shape.{Shape}
use Rattle.dg_model.specs.declared.sites.Site.{Site}
use Rattle.dg_model.specs.declared.wants.Want.{Want}
use Rattle.dg_model.specs.declared.wants.Want.TheVariants.{File, Kept, Stray}
use Rattle.dg_promise.proofs.PathLaws.{owner_claim}
use Rattle.dg_promise.proofs.WantLaws.{block_counts, some_block}

-- loose blocks may change
abbrev pub LooseMayChange : Type 0
LooseMayChange = (l n : ℕ) (v w : Volume) (g : Geometry) → (geometry_of l n v).value ≡ Ok g → HasWholeIndirects l n v
    → AgreeOn l (λ b. IsLoose l n v b → ⊥) v w → DifferLoosely l n v w

abbrev pub InodesAreLocal : Type 0
InodesAreLocal = (g : Geometry) (i : ℕ) → IsLocal g.fsize (inode_of g i)

-- ---- dead blocks are loose

data_free : (found : Result Geometry BadSuper) (g : Geometry) (b : ℕ) → found ≡ Ok g → IsOkAnd found (λ g. (c : ℕ) × (role g b ≡ Data c)) → is_system (role g b) ≡ true → ⊥
data_free (Ok h) g b is data_of system =
    let same : h ≡ g = cc in
    let place : role g b ≡ Data data_of.0 = subst (λ (k : Geometry). role k b ≡ Data data_of.0) same data_of.1 in
    false≢true (sym (ap is_system place) ∙ system)
data_free (Err bad) g b is data_of system = data_of

marked_data : (found : Result Geometry BadSuper) (b : ℕ) (v : Volume) (P : Geometry → Type 0) → IsOkAnd found (λ g. ((c : ℕ) × (role g b ≡ Data c)) × P g) → IsOkAnd found (λ g. (c : ℕ) × (role g b ≡ Data c))
marked_data (Ok g) b v P h = h.0
marked_data (Err bad) b v P h = h

dead_loose : (l n : ℕ) (v : Volume) (g : Geometry) (b : ℕ) → (geometry_of l n v).value ≡ Ok g → (IsClaimed l n v b → ⊥)
    → IsMarkedFree l n v b → IsLoose l n v b
dead_loose l n v g b is unclaimed free = record {
  geometry = g;
  accepted = is;
  unused = unused;
}
  where
    unused : IsUsed l n v b → ⊥
    unused (of_system h other system) = data_free (geometry_on l n v) h b other (marked_data (geometry_on l n v) b v _ free) system
    unused (of_claim source claim) = unclaimed (source, claim)

-- ---- one volume and another, which differ by loose blocks

module _ (l n : ℕ) (v w : Volume) (g : Geometry) (is : (geometry_of l n v).value ≡ Ok g) (agree : AgreeOn l (λ b. IsLoose l n v b → ⊥) v w) (local : InodesAreLocal) (differ : DifferLoosely l n v w) where
  geometry_same : geometry_on l n w ≡ geometry_on l n v
  geometry_same = ap (λ (c : Consulted (Result Geometry BadSuper)). c.value) differ.structure.claims.geometry

  inode_same : (i : ℕ) → inode_at g w i ≡ inode_at g v i
  inode_same i = by_number (is_inode_number g i) refl
    where
      same : is_inode_number g i ≡ true → inode_of g i w ≡ inode_of g i v
      same number = (local g i).same v w (λ b h.
          let on = geometry_is l n v g is in
          let place = inode_needs g v i b h in
          let system : is_system (role g b) ≡ true = subst (λ (f : ℕ). is_system (role g f) ≡ true) (sym place) (inode_system g i on.tests (number_below g i number)) in
          subst (λ (k : ℕ). block_at k w b ≡ block_at k v b) (sym on.fsize) (agree b (λ loose. loose.unused (of_system g is system))))

      by_number : (number : Bool) → is_inode_number g i ≡ number → inode_at g w i ≡ inode_at g v i
      by_number true number = ap (λ (found : Option Inode). if is_inode_number g i then found else None) (ap (λ (c : Consulted (Option Inode)). c.value) (same number))
      by_number false number = rw number refl

  regular_same : (i : ℕ) → IsRegularFile l n w i ≡ IsRegularFile l n v i
  regular_same i =
      ap (λ (found : Result Geometry BadSuper). IsOkAnd found (λ h. MatchOption (inode_at h w i) ⊥ (λ inode. kind_of inode.mode ≡ Regular))) (geometry_same ∙ is)
      ∙ ap (λ (found : Option Inode). MatchOption found ⊥ (λ inode. kind_of inode.mode ≡ Regular)) (inode_same i)
      ∙ sym (ap (λ (found : Result Geometry BadSuper). IsOkAnd found (λ h. MatchOption (inode_at h v i) ⊥ (λ inode. kind_of inode.mode ≡ Regular))) is)

  system_same : (b : ℕ) → IsSystemBlock l n w b ≡ IsSystemBlock l n v b
  system_same b = ap (λ (found : Result Geometry BadSuper). IsOkAnd found (λ g. is_system (role g b) ≡ true)) geometry_same

  of_onto : (b i : ℕ) → IsOf l n v b i → IsOf l n w b i
  of_onto b i owner = (owner.0, (differ.structure.claims.owners b i owner.0).1 owner.1)

  of_back : (b i : ℕ) → IsOf l n w b i → IsOf l n v b i
  of_back b i owner = (owner.0, (differ.structure.claims.owners b i owner.0).0 owner.1)

  pub want_onto : (b : ℕ) (want : Want) → IsWant l n v b want → IsWant l n w b want
  want_onto b Kept (inl system) = inl (subst (λ (P : Type 0). P) (sym (system_same b)) system)
  want_onto b Kept (inr (i, owner, other)) = inr (i, of_onto b i owner, λ regular. other (subst (λ (P : Type 0). P) (regular_same i) regular))
  want_onto b (File i) (owner, regular) = (of_onto b i owner, subst (λ (P : Type 0). P) (sym (regular_same i)) regular)
  want_onto b Stray (other, none) = (λ system. other (subst (λ (P : Type 0). P) (system_same b) system), λ i owner. none i (of_back b i owner))

  pub sound_onto : IsSoundVolume l n v → IsSoundVolume l n w
  sound_onto sound kind number bad = sound kind number ((differ.structure.malformations kind number).0 bad)

-- ---- blocks that stay

same_block : (v w : Volume) (b l : ℕ) → length w ≡ length v → block_in w b ≡ block_in v b → block_at l w b ≡ block_at l v b
same_block v w b l size same = elim (cases_lt b (length v)) [
  | inl low ↦ get_or_default w b (replicate l 0) [] (omega arith) ∙ same ∙ get_or_default v b [] (replicate l 0) low
  | inr past ↦ get_or_past w b (replicate l 0) (omega arith) ∙ sym (get_or_past v b (replicate l 0) past)
]

-- the wants once blocks were reaped
pub wants_left : (ℕ → Bool) → List (Option Want) → List (Option Want)
wants_left reaped wants = map (λ b. if reaped b then None else want_of wants b) (range_with_len 0 (length wants))

left_is : (reaped : ℕ → Bool) (wants : List (Option Want)) (b : ℕ) → want_of (wants_left reaped wants) b ≡ (if reaped b then None else want_of wants b)
unfolding wants_left
left_is reaped wants b = elim (cases_lt b (length wants)) [
  | inl low ↦ get_or-map-range_with_len (λ b. if reaped b then None else want_of wants b) 0 (length wants) b b None low (omega arith)
  | inr past ↦
      let size = length-map-range_with_len (λ b. if reaped b then None else want_of wants b) 0 (length wants) in
      get_or_past (map (λ b. if reaped b then None else want_of wants b) (range_with_len 0 (length wants))) b None (omega arith)
      ∙ sym (nothing (reaped b) (want_of wants b) (get_or_past wants b None past))
]
  where
    nothing : (reap : Bool) (want : Option Want) → want ≡ None → (if reap then None else want) ≡ None
    nothing true want is = refl
    nothing false want is = is

left_length : (reaped : ℕ → Bool) (wants : List (Option Want)) → length (wants_left reaped wants) ≡ length wants
unfolding wants_left
left_length reaped wants = length-map-range_with_len (λ b. if reaped b then None else want_of wants b) 0 (length wants)

-- a block that still has a want isn't reaped
pub left_want : (reaped : ℕ → Bool) (wants : List (Option Want)) (b : ℕ) (want : Want) → want_of (wants_left reaped wants) b ≡ Some want → (reaped b ≡ false) × (want_of wants b ≡ Some want)
left_want reaped wants b want is = by_test (reaped b) refl (sym (left_is reaped wants b) ∙ is)
  where
    by_test : (reap : Bool) → reaped b ≡ reap → (if reap then None else want_of wants b) ≡ Some want → (reaped b ≡ false) × (want_of wants b ≡ Some want)
    by_test true same h = let no : None ≡ Some want = h in cc
    by_test false same h = (same, h)

pub want_left : (reaped : ℕ → Bool) (wants : List (Option Want)) (b : ℕ) → reaped b ≡ false → want_of (wants_left reaped wants) b ≡ want_of wants b
want_left reaped wants b stays = left_is reaped wants b ∙ ap (λ (reap : Bool). if reap then None else want_of wants b) stays

-- ---- what is reaped belongs to none

module _ (old new : Table) (v w : Volume) (marks : List Bool) (s low high : ℕ) (reaped : ℕ → Bool) (wants : List (Option Want)) (homes copies : List Home)
    (reaps : Reaps old v s low high reaped new w) (dead : (b : ℕ) → reaped b ≡ true → IsDead old v marks b)
    (fit : FitWants old wants) (are : AreWants old.shape.l old.shape.n v wants) (placed : IsPlaced wants old homes copies)
    (g : Geometry) (is : (geometry_of old.shape.l old.shape.n v).value ≡ Ok g) where
  loose : (b : ℕ) → reaped b ≡ true → IsLoose old.shape.l old.shape.n v b
  loose b reap = dead_loose old.shape.l old.shape.n v g b is (dead b reap).unclaimed (dead b reap).free

  pub agree : AgreeOn old.shape.l (λ b. IsLoose old.shape.l old.shape.n v b → ⊥) v w
  agree b tight = elim (cases_Bool (reaped b)) [
    | inl reap ↦ absurd (tight (loose b reap))
    | inr stays ↦ same_block v w b old.shape.l reaps.count (reaps.values b ∙ ap (λ (reap : Bool). if reap then zeros old.shape.l else block_in v b) stays)
  ]

  sites_stay : (b : ℕ) → reaped b ≡ false → sites_in new b ≡ sites_in old b
  sites_stay b stays = reaps.sites b ∙ ap (λ (reap : Bool). if reap then [] else sites_in old b) stays

  no_owner : (b i : ℕ) → reaped b ≡ true → IsOf old.shape.l old.shape.n v b i → ⊥
  no_owner b i reap owner = (dead b reap).unclaimed (owner_claim owner.1)

  file_stays : (b i : ℕ) → want_of wants b ≡ Some (File i) → reaped b ≡ false
  file_stays b i there = elim (cases_Bool (reaped b)) [
    | inl reap ↦ absurd (no_owner b i reap (are b (File i) there).0)
    | inr stays ↦ stays
  ]

  pub left_fit : FitWants new (wants_left reaped wants)
  left_fit = record {
    size = left_length reaped wants ∙ fit.size ∙ ap (λ (shape : Shape). shape.n) (sym reaps.shape);
    written = λ b. elim (cases_Bool (reaped b)) [
      | inl reap ↦
          ap is_some (left_is reaped wants b ∙ ap (λ (reap : Bool). if reap then None else want_of wants b) reap)
          ∙ sym (ap has_site (reaps.sites b ∙ ap (λ (reap : Bool). if reap then [] else sites_in old b) reap))
      | inr stays ↦ ap is_some (want_left reaped wants b stays) ∙ fit.written b ∙ sym (ap has_site (sites_stay b stays))
    ];
  }

  on_same : (b t : ℕ) → reaped b ≡ false → is_on new b t ≡ is_on old b t
  on_same b t stays = ap (λ (sites : List Site). nat_lt 0 (count_on t sites)) (sites_stay b stays)

  pub left_placed : IsPlaced (wants_left reaped wants) new homes copies
  left_placed = record {
    kept = λ b there t.
        let want = left_want reaped wants b Kept there in
        on_same b t want.0 ∙ placed.kept b want.1 t ∙ ap (λ (shape : Shape). list_any (λ u. u == t) (places_of shape b)) (sym reaps.shape);
    file = λ b i there t. let want = left_want reaped wants b (File i) there in on_same b t want.0 ∙ placed.file b i want.1 t;
    homes_are = λ i. (
      λ home. let block = some_block wants i ((placed.homes_are i).0 home) in block_counts (wants_left reaped wants) block.0 i (want_left reaped wants block.0 (file_stays block.0 i block.1) ∙ block.1),
      λ some. let block = some_block (wants_left reaped wants) i some in (placed.homes_are i).1 (block_counts wants block.0 i (left_want reaped wants block.0 (File i) block.1).1),
    );
    copies_are = placed.copies_are;
    homes_ascend = placed.homes_ascend;
    copies_ascend = placed.copies_ascend;
  }
