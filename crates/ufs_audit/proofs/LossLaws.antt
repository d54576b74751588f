-- Which blocks have a volume's structure, by marks of its directories and of what they claim.
use Rattle.std.proofs.Common.{◌≡◌, ◌⊎◌, ◌∙◌, ◌<◌, ◌≤◌, ◌-◌, ◌+◌, ◌*◌, inl, inr, ℕ, zero, suc, Bool, true, false, List, [], ◌∷◌, Contains, Option, None, Some, refl, sym, ap, subst, length, append-nil, arith}
use Rattle.std.specs.Prelude.{◌||◌, IfOk, IfSome, MatchOption, Result, Err, Ok, if◌then◌else◌}
use Rattle.std.specs.List.{list_any}
use Rattle.std.specs.Bool.{Decides}
use Rattle.std.proofs.lemmas.Bool.{cases_order, false≢true, true≢false}
use Rattle.std.proofs.lemmas.Bool.Decides.{nat_tests}
use Rattle.std.proofs.lemmas.List.{get_or_past}
use Rattle.std.proofs.lemmas.List.Elements.{Contains-append_cases, Contains-append_left, Contains-push}
use Rattle.dg_claims.specs.Kept.{size_in}
use Rattle.dg_claims.specs.Tables.{ClaimTable, HasClaims, IsSource, TableClaims}
use Rattle.dg_io.specs.declared.views.View.{Ghosts}
use Rattle.dg_model.specs.Marks.{is_marked}
use Rattle.ufs_audit.proofs.HoldLaws.{claimed_held, held_along, held_holder, held_structure, holder_held}
use Rattle.ufs_audit.specs.Holders.{AreHeld, AreMarks, HasMarkedHolder, leads_by}
use Rattle.ufs_audit.specs.Holds.{IsHeld, Leads}
use Rattle.ufs_audit.specs.Losses.{HasPart, LosesPart, IsBetween, IsPart, TellsGone}
use Rattle.ufs_audit.specs.Structures.{IsBehindSuper, IsDirectoryOf}
use Rattle.ufs_model.specs.Blocks.{Volume, area_of, bind}
use Rattle.ufs_model.specs.Claims.{level_of}
use Rattle.ufs_model.specs.GroupMaps.{group_bytes}
use Rattle.ufs_model.specs.Inodes.{inode_of, is_inode_number}
use Rattle.ufs_model.specs.Malformations.{Claims, FirstBlock, IsDirectory, IsInode}
use Rattle.ufs_model.specs.Metadata.{IsMetadataBy, IsStructure}
use Rattle.ufs_model.specs.Metadata.IsMetadata.{of_superblock, by_geometry}
use Rattle.ufs_model.specs.Metadata.IsMetadataBy.{of_group, of_inode, of_indirect}
use Rattle.ufs_model.specs.Metadata.IsStructure.{of_metadata, of_directory}
use Rattle.ufs_model.specs.Geometries.{cgstart}
use Rattle.ufs_model.specs.Superblocks.{geometry_of, superblock_of}
use Rattle.ufs_model.specs.declared.claims.ClaimSource.{ClaimSource}
use Rattle.ufs_model.specs.declared.claims.ClaimSource.TheVariants.{Slot, Pointer}
use Rattle.ufs_model.specs.Readings.{ReadsAs}
use Rattle.ufs_model.specs.declared.geometries.BadSuper.{BadSuper}
use Rattle.ufs_model.specs.declared.geometries.Geometry.{Geometry}
use Rattle.ufs_model.specs.declared.inodes.Inode.{Inode}

-- ---- the blocks of an area

just_one : (x y : ℕ) → Contains (x ∷ []) y → x ≡ y
just_one x y (zero, lt, is) = is
just_one x y (suc k, lt, is) = absurd (omega arith)

none_in : (y : ℕ) → Contains {X = ℕ} [] y → ⊥
none_in y (k, lt, is) = absurd (omega (arith, lt))

area_between : (l a k b : ℕ) (v : Volume) → Contains ((area_of l a k v).needs) b → IsBetween a (a + k) b
unfolding area_of bind
area_between l a zero b v needs = absurd (none_in b needs)
area_between l a (suc k) b v needs = elim (Contains-append_cases ((area_of l a k v).needs) ((a + k) ∷ []) b needs) [
  | inl front ↦ let is = area_between l a k b v front in record { low = is.low; high = let lt = is.high in omega (arith, lt) }
  | inr last ↦ let is = just_one (a + k) b last in record { low = omega (arith, is); high = omega (arith, is) }
]

area_needs : (l a k m : ℕ) (v : Volume) → m < k → Contains ((area_of l a k v).needs) (a + m)
unfolding area_of bind
area_needs l a zero m v low = absurd (omega arith)
area_needs l a (suc k) m v low = elim (cases_order m k) [
  | inl same ↦ rw same (Contains-push ((area_of l a k v).needs) (a + k))
  | inr other ↦ elim other [
    | inl less ↦ Contains-append_left ((area_of l a k v).needs) ((a + k) ∷ []) (a + m) (area_needs l a k m v less)
    | inr greater ↦ absurd (omega arith)
  ]
]

group_between : (g : Geometry) (v : Volume) (c b : ℕ) → Contains ((group_bytes g c v).needs) b → IsBetween (cgstart g c + g.cblkno) (cgstart g c + g.cblkno + g.frag) b
unfolding group_bytes
group_between g v c b needs = area_between g.fsize (cgstart g c + g.cblkno) g.frag b v needs

group_needs : (g : Geometry) (v : Volume) (c b : ℕ) → IsBetween (cgstart g c + g.cblkno) (cgstart g c + g.cblkno + g.frag) b → Contains ((group_bytes g c v).needs) b
unfolding group_bytes
group_needs g v c b is =
    let a = cgstart g c + g.cblkno in
    let low : a ≤ b = is.low in
    let high : b < a + g.frag = is.high in
    let back : a + (b - a) ≡ b = omega (arith, low) in
    subst (λ x. Contains ((area_of g.fsize a g.frag v).needs) x) back (area_needs g.fsize a g.frag (b - a) v (omega (arith, low, high)))

-- ---- marks

pub marked_within : (marks : List Bool) (n : ℕ) → is_marked marks n ≡ true → n < length marks
marked_within marks n is = elim (cases_order (length marks) n) [
  | inl same ↦ absurd (past (omega (arith, same)))
  | inr other ↦ elim other [
    | inl less ↦ absurd (past (omega (arith, less)))
    | inr greater ↦ greater
  ]
]
  where
    past : length marks ≤ n → ⊥
    past behind = false≢true (sym (get_or_past marks n false behind) ∙ is)

-- what a mark says, whatever its number
pub mark_holds : (holds : ℕ → Type 0) (bound : ℕ) (marks : List Bool) (n : ℕ) → AreMarks holds bound marks → is_marked marks n ≡ true → holds n
mark_holds holds bound marks n are is =
    let within = marked_within marks n is in
    ((are.each n (omega (arith, within, are.number))).0) is

-- ---- inodes

if_there : (b : Bool) (o : Option Inode) (holds : Inode → Type 0) → MatchOption (if b then o else None) ⊥ holds → b ≡ true
if_there true o holds h = refl
if_there false o holds h = absurd h

inode_number : (g : Geometry) (v : Volume) (i : ℕ) (holds : Inode → Type 0) → IsInode g v i holds → i < g.ncg * g.ipg
inode_number g v i holds h = let is = if_there (is_inode_number g i) ((inode_of g i v).value) holds h in grind (arith, nat_tests)

-- ---- levels of marks

-- what the table says of its sources
pub record HasBounds (table : ClaimTable) (size : ℕ) : Type 0 where
  pub inside : (f : ℕ) (source : ClaimSource) → TableClaims table f source → f < size
  pub levels : (f : ℕ) (source : ClaimSource) → TableClaims table f source → level_of source ≤ 3
  pub high : (f u height at : ℕ) → TableClaims table f (Pointer u height at) → 0 < height

module _ (table : ClaimTable) (inodes : List Bool) (size : ℕ) (bounds : HasBounds table size) where
  abbrev Owner : ℕ → Type 0
  Owner i = is_marked inodes i ≡ true

  -- marks of all that belongs to a marked inode at a level
  pub AreAllHeld : ℕ → List Bool → Type 0
  AreAllHeld level marks = (u : ℕ) → Decides (is_marked marks u) (AreHeld table inodes level u)

  held_inside : (level u : ℕ) → AreHeld table inodes level u → u < size
  held_inside level u held =
      let holder = held_holder (TableClaims table) Owner bounds.high level u held in
      bounds.inside u holder.source holder.claim

  -- nothing is claimed above level 3
  pub none_above : (marks : List Bool) → marks ≡ [] → AreAllHeld 4 marks
  unfolding AreAllHeld
  none_above [] none u = (
    λ is. absurd (false≢true is),
    λ held.
        let holder = held_holder (TableClaims table) Owner bounds.high 4 u held in
        absurd (omega (arith, bounds.levels u holder.source holder.claim, holder.is)),
  )
  none_above (x ∷ xs) none u = let no : x ∷ xs ≡ [] = none in cc

  leads_to : (above : List Bool) (level : ℕ) (source : ClaimSource) → AreAllHeld (level + 1) above → leads_by inodes above source ≡ true
      → Leads (TableClaims table) Owner (AreHeld table inodes (level + 1)) source
  unfolding AreAllHeld
  leads_to above level (Slot i slot) all is = is
  leads_to above level (Pointer u height at) all is = (all u).0 is

  leads_from : (above : List Bool) (level : ℕ) (source : ClaimSource) → AreAllHeld (level + 1) above
      → Leads (TableClaims table) Owner (AreHeld table inodes (level + 1)) source → leads_by inodes above source ≡ true
  unfolding AreAllHeld
  leads_from above level (Slot i slot) all is = is
  leads_from above level (Pointer u height at) all is = (all u).1 is

  level_held : (above : List Bool) (level f : ℕ) → AreAllHeld (level + 1) above → HasMarkedHolder table inodes above level f → AreHeld table inodes level f
  level_held above level f all holder =
      holder_held (TableClaims table) Owner bounds.high level f
      (record { source = holder.source; claim = holder.claim; is = holder.is; leads = leads_to above level holder.source all holder.leads })

  held_level : (above : List Bool) (level f : ℕ) → AreAllHeld (level + 1) above → AreHeld table inodes level f → HasMarkedHolder table inodes above level f
  held_level above level f all held =
      let holder = held_holder (TableClaims table) Owner bounds.high level f held in
      record { source = holder.source; claim = holder.claim; is = holder.is; leads = leads_from above level holder.source all holder.leads }

  -- by the marks of one level those of the next
  pub marks_below : (above marks : List Bool) (level : ℕ) → AreAllHeld (level + 1) above → AreMarks (HasMarkedHolder table inodes above level) size marks
      → AreMarks (AreHeld table inodes level) size marks
  marks_below above marks level all are = record {
    number = are.number;
    each = λ f low. (
      λ is. level_held above level f all ((are.each f low).0 is),
      λ held. (are.each f low).1 (held_level above level f all held),
    );
  }

  pub marks_all : (marks : List Bool) (level : ℕ) → AreMarks (AreHeld table inodes level) size marks → AreAllHeld level marks
  unfolding AreAllHeld
  marks_all marks level are u = (
    λ is. mark_holds (AreHeld table inodes level) size marks u are is,
    λ held. (are.each u (held_inside level u held)).1 held,
  )

not_both : (r : Result Geometry BadSuper) (g : Geometry) (bad : BadSuper) → r ≡ Ok g → r ≡ Err bad → ⊥
not_both r g bad ok err = let no : Ok g ≡ Err bad = sym ok ∙ err in cc

-- ---- the structure

module _ (g : Geometry) (v : Volume) (l n : ℕ) (table : ClaimTable) (inodes marks : List Bool) where
  -- what is known of the table and of the marks
  pub record AreRight : Type 0 where
    pub geometry : (geometry_of l n v).value ≡ Ok g
    pub claims : HasClaims table (Claims g v)
    pub inside : (f : ℕ) (source : ClaimSource) → TableClaims table f source → f < g.size
    pub directories : AreMarks (IsDirectoryOf g v) (g.ncg * g.ipg) inodes
    pub held : AreMarks (AreHeld table inodes 0) g.size marks

  pub are_right : (geometry_of l n v).value ≡ Ok g → HasClaims table (Claims g v) → HasBounds table g.size → AreMarks (IsDirectoryOf g v) (g.ncg * g.ipg) inodes
      → AreMarks (AreHeld table inodes 0) g.size marks → AreRight
  are_right is claims bounds directories held = record { geometry = is; claims = claims; inside = bounds.inside; directories = directories; held = held }

  module _ (right : AreRight) where
    by_table : (level f : ℕ) → AreHeld table inodes level f → IsHeld (Claims g v) (IsDirectoryOf g v) level f
    by_table level f held =
        held_along (TableClaims table) (Claims g v) (λ i. is_marked inodes i ≡ true) (IsDirectoryOf g v) (λ h source claim. (right.claims h source).0 claim)
        (λ i is. mark_holds (IsDirectoryOf g v) (g.ncg * g.ipg) inodes i right.directories is) level f held

    by_volume : (level f : ℕ) → IsHeld (Claims g v) (IsDirectoryOf g v) level f → AreHeld table inodes level f
    by_volume level f held =
        held_along (Claims g v) (TableClaims table) (IsDirectoryOf g v) (λ i. is_marked inodes i ≡ true) (λ h source claim. (right.claims h source).1 claim)
        (λ i is. (right.directories.each i (inode_number g v i _ is)).1 is) level f held

    -- each such block is one of the structure
    pub part_structure : (b : ℕ) → IsPart g table marks b → IsStructure l n v b
    part_structure b (inl group) = of_metadata (by_geometry g right.geometry (of_group group.c group.group (group_needs g v group.c b group.is)))
    part_structure b (inr (inl inode)) = of_metadata (by_geometry g right.geometry (of_inode inode.i inode.inode inode.is))
    part_structure b (inr (inr (inl indirect))) =
        of_metadata (by_geometry g right.geometry (of_indirect indirect.source ((right.claims b indirect.source).0 indirect.claim) indirect.above))
    part_structure b (inr (inr (inr mark))) =
        held_structure g v l n 0 b right.geometry (by_table 0 b (mark_holds (AreHeld table inodes 0) g.size marks b right.held mark))

    by_metadata : (b : ℕ) → IsMetadataBy g v b → IsPart g table marks b
    by_metadata b (of_group c low needs) = inl (record { c = c; group = low; is = group_between g v c b needs })
    by_metadata b (of_inode i low is) = inr (inl (record { i = i; inode = low; is = is }))
    by_metadata b (of_indirect source claim above) = inr (inr (inl (record { source = source; claim = (right.claims b source).1 claim; above = above })))

    by_level : (level b : ℕ) (source : ClaimSource) → level_of source ≡ level → Claims g v b source → IsHeld (Claims g v) (IsDirectoryOf g v) level b → IsPart g table marks b
    by_level zero b source is claim held =
        inr (inr (inr ((right.held.each b (right.inside b source ((right.claims b source).1 claim))).1 (by_volume 0 b held))))
    by_level (suc level) b source is claim held =
        inr (inr (inl (record { source = source; claim = (right.claims b source).1 claim; above = omega (arith, is) })))

    -- a claim of a directory, by some geometry
    by_directory : (h : Geometry) (b i first : ℕ) (source : ClaimSource) → h ≡ g → IsDirectory h v i (λ _. Unit {0}) → Claims h v b source → FirstBlock h v source i first
        → IsPart g table marks b
    by_directory h b i first source same own claim chain =
        let own' = subst (λ x. IsDirectory x v i (λ _. Unit {0})) same own in
        let claim' = subst (λ x. Claims x v b source) same claim in
        let chain' = subst (λ x. FirstBlock x v source i first) same chain in
        by_level (level_of source) b source refl claim' (claimed_held g v i first b source own' claim' chain')

    same_geometry : (h : Geometry) → (geometry_of l n v).value ≡ Ok h → h ≡ g
    same_geometry h is = let both : Ok h ≡ Ok g = sym is ∙ right.geometry in cc

    -- and each block of the structure is one of the superblock, or such a block
    pub structure_part : (b : ℕ) → IsStructure l n v b → (Contains ((superblock_of l n v).needs) b → ⊥) → IsPart g table marks b
    structure_part b (of_metadata (of_superblock needs)) behind = absurd (behind needs)
    structure_part b (of_metadata (by_geometry h is by)) behind = by_metadata b (subst (λ x. IsMetadataBy x v b) (same_geometry h is) by)
    structure_part b (of_directory h i first source is own claim chain) behind = by_directory h b i first source (same_geometry h is) own claim chain

-- ---- parts

-- of three kinds, of which no block of the first two is gone
pub tells_last : {S : Type 0} (view : Ghosts S) (s : S) (one two three : ℕ → Type 0) (gone : Bool) → HasPart view s one → HasPart view s two → TellsGone view s three gone
    → TellsGone view s (λ b. one b ⊎ (two b ⊎ three b)) gone
tells_last view s one two three true first second last = record { block = last.block; within = last.within; of_part = inr (inr last.of_part); lost = last.lost }
tells_last view s one two three false first second last = λ b low is. elim is [
  | inl here ↦ first b low here
  | inr more ↦ elim more [
    | inl here ↦ second b low here
    | inr here ↦ last b low here
  ]
]

-- what a table of this geometry says of its sources
pub bounds_of : (table : ClaimTable) (g : Geometry) → table.geometry ≡ Some g → ((f : ℕ) (source : ClaimSource) → TableClaims table f source → f < size_in table.geometry)
    → ((f : ℕ) (source : ClaimSource) → TableClaims table f source → level_of source ≤ 3) → ((f : ℕ) (source : ClaimSource) → TableClaims table f source → IsSource table.geometry source)
    → HasBounds table g.size
bounds_of table g is inside levels sources = record {
  inside = λ f source claim. subst (λ (o : Option Geometry). f < size_in o) is (inside f source claim);
  levels = levels;
  high = λ f u height at claim. let of = subst (λ (o : Option Geometry). IsSource o (Pointer u height at)) is (sources f (Pointer u height at) claim) in omega (arith, of.0);
}

pub lost_part : {S : Type 0} (view : Ghosts S) (s : S) (part : ℕ → Type 0) (gone : Bool) → TellsGone view s part gone → gone ≡ true → LosesPart view s part
lost_part view s part gone tells is = subst (TellsGone view s part) is tells

pub has_part : {S : Type 0} (view : Ghosts S) (s : S) (part : ℕ → Type 0) (gone : Bool) → TellsGone view s part gone → gone ≡ false → HasPart view s part
has_part view s part gone tells is = subst (TellsGone view s part) is tells

-- what isn't gone in the end wasn't gone before
pub was_there : (old new : Bool) → (old ≡ true → new ≡ true) → new ≡ false → old ≡ false
was_there true new stays is = absurd (false≢true (sym is ∙ stays refl))
was_there false new stays is = refl

-- ---- the superblock

-- a block of a list is gone
any_gone : (gone : ℕ → Bool) (list : List ℕ) (b : ℕ) → Contains list b → gone b ≡ true → list_any gone list ≡ true
any_gone gone [] b has is = absurd (none_in b has)
any_gone gone (x ∷ xs) b (zero, lt, same) is = rw (ap gone same ∙ is) refl
any_gone gone (x ∷ xs) b (suc k, lt, same) is = or_later (gone x) (list_any gone xs) (any_gone gone xs b (k, omega (arith, lt), same) is)
  where
    or_later : (p q : Bool) → q ≡ true → p || q ≡ true
    or_later true q h = refl
    or_later false q h = h

-- where the geometry is read, no block of the superblock was gone
pub super_there : {stands : Volume → Type 0} {before after : ℕ → Bool} {tells : Type 0} (l n : ℕ) (answer : Result Geometry BadSuper) → ReadsAs stands before tells after (geometry_of l n) (Some answer)
    → tells → (v : Volume) → stands v → (b : ℕ) → Contains ((superblock_of l n v).needs) b → before b ≡ true → ⊥
unfolding geometry_of bind
super_there {before = before} l n answer reads told v stands b needs gone =
    absurd (true≢false ((reads.rule told v stands).unavailable
    (any_gone before ((geometry_of l n v).needs) b (subst (λ (blocks : List ℕ). Contains blocks b) (sym (append-nil ((superblock_of l n v).needs))) needs) gone)))

-- without a geometry the superblock is all of the structure
pub refused_super : (l n : ℕ) (v : Volume) (bad : BadSuper) (b : ℕ) → (geometry_of l n v).value ≡ Err bad → IsStructure l n v b → Contains ((superblock_of l n v).needs) b
refused_super l n v bad b is (of_metadata (of_superblock needs)) = needs
refused_super l n v bad b is (of_metadata (by_geometry g ok by)) = absurd (not_both ((geometry_of l n v).value) g bad ok is)
refused_super l n v bad b is (of_directory g i first source ok own claim chain) = absurd (not_both ((geometry_of l n v).value) g bad ok is)

-- ---- answers

pub ok_along : {A E : Type 0} (r : Result A E) (P Q : A → Type 0) → ((a : A) → P a → Q a) → IfOk r P → IfOk r Q
ok_along (Ok a) P Q more h = more a h
ok_along (Err e) P Q more h = tt

pub there_behind : (gone : Bool) → (gone ≡ true → ⊥) → gone ≡ false
there_behind true not = absurd (not refl)
there_behind false not = refl

pub behind_then : {k m : ℕ} (l n : ℕ) (v : Volume) (b : ℕ) → k ≡ l → m ≡ n → IsBehindSuper l n v b → IsBehindSuper k m v b
behind_then l n v b size count is = rw (size, count) is

-- a block of the structure is one of the superblock, which were there, or isn't
pub was_behind : (l n : ℕ) (v : Volume) (b : ℕ) (old new : Bool) → (old ≡ true → new ≡ true) → IsStructure l n v b → (Contains ((superblock_of l n v).needs) b → old ≡ true → ⊥)
    → (IsBehindSuper l n v b → new ≡ false) → old ≡ false
was_behind l n v b false new stays of super behind = refl
was_behind l n v b true new stays of super behind =
    absurd (false≢true (sym (behind (record { of_structure = of; behind = λ needs. super needs refl })) ∙ stays refl))

pub some_always : {A E : Type 0} (r : Result (Option A) E) (P : Type 0) → P → IfOk r (λ answer. IfSome answer (λ _. P))
some_always (Ok (Some a)) P h = h
some_always (Ok None) P h = tt
some_always (Err e) P h = tt
