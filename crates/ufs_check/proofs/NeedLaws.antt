-- Which blocks weren't gone when the passes over a volume began.
use Rattle.std.proofs.Common.{◌≡◌, ◌∙◌, ◌⊎◌, ℕ, suc, ◌+◌, ◌<◌, ◌≤◌, List, [], ◌∷◌, Bool, true, false, Option, Some, Result, Ok, Err, inl, inr, refl, sym, subst, arith}
use Rattle.std.specs.Prelude.{◌&&◌, Contains}
use Rattle.std.proofs.lemmas.Bool.{cases_order}
use Rattle.std.proofs.lemmas.List.{append-nil}
use Rattle.ufs_model.specs.Audits.{AreAll}
use Rattle.ufs_model.specs.Blocks.{Volume, bind}
use Rattle.ufs_model.specs.Malformations.{IsBad, order_of}
use Rattle.ufs_model.specs.Metadata.{IsMetadata, IsMetadataBy}
use Rattle.ufs_model.specs.Metadata.IsMetadata.{by_geometry, of_superblock}
use Rattle.ufs_model.specs.Metadata.IsMetadataBy.{of_group, of_indirect, of_inode}
use Rattle.ufs_model.specs.Paths.{block_of}
use Rattle.ufs_model.specs.Readings.{Grows}
use Rattle.ufs_model.specs.Superblocks.{geometry_of, superblock_of}
use Rattle.ufs_model.specs.declared.claims.ClaimSource.{ClaimSource}
use Rattle.ufs_model.specs.declared.geometries.BadSuper.{BadSuper}
use Rattle.ufs_model.specs.declared.geometries.Geometry.{Geometry}
use Rattle.ufs_model.specs.declared.inodes.Inode.{Inode}
use Rattle.ufs_model.specs.declared.malformations.BadKind.{BadKind}
use Rattle.ufs_model.specs.declared.malformations.BadKind.TheVariants.{GroupMagic, GroupMap, WrongType, Filesize, Past, Wild, WildIn, Align, AlignIn, Run, Twice, PastIn, Free, Unused, Hole as HoleIn}
use Rattle.ufs_model.specs.declared.reads.PathRefusal.{PathRefusal}
use Rattle.ufs_pointer.specs.Fetches.{IsNeeded}
use Rattle.dg_claims.specs.Kept.{size_in}
use Rattle.dg_claims.specs.Scans.{HasInode, IsIndirect}
use Rattle.dg_claims.specs.Tables.{ClaimTable}
use Rattle.dg_claims.specs.There.{WasThere}
use Rattle.dg_claims.specs.ThereLaws.{not_before, there_both}
use Rattle.ufs_check.proofs.CheckLaws.{table_claims}
use Rattle.ufs_check.proofs.ClaimLaws.{claim_inside}
use Rattle.ufs_check.specs.Directories.{AreAlike}
use Rattle.ufs_check.specs.Fragments.{HasClaimsOf, IsClaimedBy, IsUpperIn}
use Rattle.ufs_check.specs.Needs.{HasBytes, IsBytesBlock, IsDirectoryBlock, IsGroupBlock, IsNeededBy, IsNeededOn}
use Rattle.ufs_check.specs.Needs.IsNeededBy.{of_directory, of_metadata}
use Rattle.ufs_check.specs.Needs.IsNeededOn.{by_geometry as needed_by, of_superblock as needed_super}
use Rattle.ufs_check.specs.Notes.{has_none}
use Rattle.ufs_check.specs.Verdicts.{AreFaults, AreMetadataFaults, IsTabled, no_metadata_fault}
use Rattle.ufs_check.specs.declared.faults.Faults.{Faults}
use Rattle.ufs_check.specs.declared.faults.MetadataFaults.{MetadataFaults}

-- ---- fragments of indirect blocks

pub uppers_there : (table : ClaimTable) (gone : ℕ → Bool) (f : ℕ) → ((m : ℕ) → m < f → IsUpperIn table m → gone m ≡ false) → (IsUpperIn table f → gone f ≡ false)
    → (m : ℕ) → m < suc f → IsUpperIn table m → gone m ≡ false
uppers_there table gone f below here m lt upper = elim (cases_order m f) [
  | inl same ↦ rw same (here (rw (← same) upper))
  | inr other ↦ elim other [ inl less ↦ below m less upper | inr greater ↦ absurd (omega arith) ]
]

pub indirects_there : (g : Geometry) (table : ClaimTable) (v : Volume) (gone : ℕ → Bool) (bound : ℕ) → HasClaimsOf g table v → table.geometry ≡ Some g
    → ((f : ℕ) (source : ClaimSource) → Contains (table.claimed source) f → f < size_in table.geometry) → g.size ≤ bound
    → ((m : ℕ) → m < bound → IsUpperIn table m → gone m ≡ false) → (b : ℕ) → IsIndirect g v b → gone b ≡ false
indirects_there g table v gone bound has is inside end below b above =
    let lt = claim_inside g table v b (above.0) has is inside (above.1) in
    below b (omega arith) (above.0, above.2, (has b (above.0)).1 (above.1))

-- ---- metadata

metadata_cases : (g : Geometry) (v : Volume) (b : ℕ) → IsMetadataBy g v b → IsGroupBlock g g.ncg v b ⊎ (HasInode g v b ⊎ IsIndirect g v b)
metadata_cases g v b (of_group c low needs) = inl (c, low, needs)
metadata_cases g v b (of_inode i high is) = inr (inl (i, high, is))
metadata_cases g v b (of_indirect source claim above) = inr (inr (source, claim, above))

pub metadata_there : {stands : Volume → Type 0} {tells : Type 0} {gone : ℕ → Bool} (g : Geometry) → WasThere stands tells (IsGroupBlock g g.ncg) gone → WasThere stands tells (HasInode g) gone
    → WasThere stands tells (IsIndirect g) gone → WasThere stands tells (IsMetadataBy g) gone
metadata_there g groups inodes indirects = record {
  each = λ told v stands b is. elim (metadata_cases g v b is) [
    | inl h ↦ groups.each told v stands b h
    | inr h ↦ elim h [ inl i ↦ inodes.each told v stands b i | inr f ↦ indirects.each told v stands b f ]
  ];
}

needed_cases : (g : Geometry) (v : Volume) (b : ℕ) → IsNeededBy g v b → IsMetadataBy g v b ⊎ IsDirectoryBlock g v b
needed_cases g v b (of_metadata is) = inl is
needed_cases g v b (of_directory is) = inr is

pub needed_there : {stands : Volume → Type 0} {tells : Type 0} {gone : ℕ → Bool} (g : Geometry) → WasThere stands tells (IsMetadataBy g) gone → WasThere stands tells (IsDirectoryBlock g) gone
    → WasThere stands tells (IsNeededBy g) gone
needed_there g one two = there_both (λ told v stands b is. needed_cases g v b is) one two

-- ---- file blocks

pub bytes_one : (g : Geometry) (inode : Inode) (n : ℕ) (v : Volume) (b : ℕ) → IsBytesBlock g inode n (n + 1) v b → IsNeeded (block_of g inode n) v b
bytes_one g inode n v b of = let low = of.low in let high = of.high in let same : of.number ≡ n = omega arith in subst (λ k. Contains ((block_of g inode k v).needs) b) same of.needs

pub bytes_cases : (g : Geometry) (inode : Inode) (n next : ℕ) (v : Volume) (b : ℕ) → IsBytesBlock g inode 0 next v b → IsBytesBlock g inode 0 n v b ⊎ IsBytesBlock g inode n next v b
bytes_cases g inode n next v b of = elim (cases_order of.number n) [
  | inl same ↦ inr (record { number = of.number; low = omega arith; high = of.high; bytes = of.bytes; needs = of.needs })
  | inr other ↦ elim other [
    | inl less ↦ inl (record { number = of.number; low = of.low; high = less; bytes = of.bytes; needs = of.needs })
    | inr more ↦ inr (record { number = of.number; low = omega arith; high = of.high; bytes = of.bytes; needs = of.needs })
  ]
]

-- no bytes are read of a file block from n on, where none are read of n
pub bytes_none : (g : Geometry) (inode : Inode) (n next : ℕ) (v : Volume) (b : ℕ) (said : Result (Option (List ℕ)) PathRefusal) → said ≡ (block_of g inode n v).value → (HasBytes said → ⊥)
    → AreAlike g inode v n next → IsBytesBlock g inode n next v b → ⊥
bytes_none g inode n next v b said is none alike of = none (subst HasBytes (alike of.number of.low of.high ∙ sym is) of.bytes)

-- ---- the superblock

super_read : (l n : ℕ) (v : Volume) (b : ℕ) → Contains ((superblock_of l n v).needs) b → IsNeeded (geometry_of l n) v b
unfolding geometry_of bind
super_read l n v b has = subst (λ (blocks : List ℕ). Contains blocks b) (sym (append-nil ((superblock_of l n v).needs))) has

pub needed_super_cases : (l n : ℕ) (v : Volume) (g : Geometry) (b : ℕ) → (geometry_of l n v).value ≡ Ok g → IsNeededOn l n v b → IsNeeded (geometry_of l n) v b ⊎ IsNeededBy g v b
needed_super_cases l n v g b is (needed_super has) = inl (super_read l n v b has)
needed_super_cases l n v g b is (needed_by h has by) = let same : h ≡ g = (let both : Ok h ≡ Ok g = sym has ∙ is in cc) in inr (subst (λ k. IsNeededBy k v b) same by)

pub needed_super_only : (l n : ℕ) (v : Volume) (bad : BadSuper) (b : ℕ) → (geometry_of l n v).value ≡ Err bad → IsNeededOn l n v b → IsNeeded (geometry_of l n) v b
needed_super_only l n v bad b is (needed_super has) = super_read l n v b has
needed_super_only l n v bad b is (needed_by h has by) = absurd (let both : Ok h ≡ Err bad = sym has ∙ is in cc)

pub metadata_super_cases : (l n : ℕ) (v : Volume) (g : Geometry) (b : ℕ) → (geometry_of l n v).value ≡ Ok g → IsMetadata l n v b → IsNeeded (geometry_of l n) v b ⊎ IsMetadataBy g v b
metadata_super_cases l n v g b is (of_superblock has) = inl (super_read l n v b has)
metadata_super_cases l n v g b is (by_geometry h has by) = let same : h ≡ g = (let both : Ok h ≡ Ok g = sym has ∙ is in cc) in inr (subst (λ k. IsMetadataBy k v b) same by)

pub metadata_super_only : (l n : ℕ) (v : Volume) (bad : BadSuper) (b : ℕ) → (geometry_of l n v).value ≡ Err bad → IsMetadata l n v b → IsNeeded (geometry_of l n) v b
metadata_super_only l n v bad b is (of_superblock has) = super_read l n v b has
metadata_super_only l n v bad b is (by_geometry h has by) = absurd (let both : Ok h ≡ Err bad = sym has ∙ is in cc)

-- ---- nothing is found

none_in : (holds : ℕ → Type 0) (numbers : List ℕ) → AreAll holds numbers → ((n : ℕ) → holds n → ⊥) → has_none numbers ≡ true
none_in holds [] all none = refl
none_in holds (n ∷ ns) all none = absurd (none n ((all.each n).0 (0, omega arith, refl)))

both : (a b : Bool) → a ≡ true → b ≡ true → (a && b) ≡ true
both true b one two = two
both false b one two = one

-- what the metadata has nothing of, nothing is found of
pub nothing_found : (g : Geometry) (v : Volume) (faults : MetadataFaults) → AreMetadataFaults g v faults
    → ((kind : BadKind) (n : ℕ) → order_of kind < order_of HoleIn → IsBad g v kind n → ⊥) → no_metadata_fault faults ≡ true
nothing_found g v faults are none =
    let groups = are.groups in
    let inodes = are.inodes in
    let fragments = are.fragments in
    let magic = none_in (IsBad g v GroupMagic) _ groups.magic (λ n h. none GroupMagic n (omega arith) h) in
    let map = none_in (IsBad g v GroupMap) _ groups.map (λ n h. none GroupMap n (omega arith) h) in
    let wrong_type = none_in (IsBad g v WrongType) _ inodes.wrong_type (λ n h. none WrongType n (omega arith) h) in
    let filesize = none_in (IsBad g v Filesize) _ inodes.filesize (λ n h. none Filesize n (omega arith) h) in
    let past = none_in (IsBad g v Past) _ inodes.past (λ n h. none Past n (omega arith) h) in
    let wild = none_in (IsBad g v Wild) _ inodes.wild (λ n h. none Wild n (omega arith) h) in
    let align = none_in (IsBad g v Align) _ inodes.align (λ n h. none Align n (omega arith) h) in
    let run = none_in (IsBad g v Run) _ inodes.run (λ n h. none Run n (omega arith) h) in
    let unused = none_in (IsBad g v Unused) _ inodes.unused (λ n h. none Unused n (omega arith) h) in
    let wild_in = none_in (IsBad g v WildIn) _ fragments.wild_in (λ n h. none WildIn n (omega arith) h) in
    let align_in = none_in (IsBad g v AlignIn) _ fragments.align_in (λ n h. none AlignIn n (omega arith) h) in
    let twice = none_in (IsBad g v Twice) _ fragments.twice (λ n h. none Twice n (omega arith) h) in
    let past_in = none_in (IsBad g v PastIn) _ fragments.past_in (λ n h. none PastIn n (omega arith) h) in
    let free = none_in (IsBad g v Free) _ fragments.free (λ n h. none Free n (omega arith) h) in
    both _ _ (both _ _ (both _ _ magic map) (both _ _ (both _ _ (both _ _ wrong_type filesize) (both _ _ (both _ _ (both _ _ past wild) align) run)) unused))
    (both _ _ (both _ _ (both _ _ (both _ _ wild_in align_in) twice) past_in) free)

-- All that is needed was there, where all passes were made: by the metadata nothing is wrong.
pub needed_all : {stands still : Volume → Type 0} {tells told : Type 0} {before now : ℕ → Bool} (l n : ℕ) (g : Geometry) (table : ClaimTable) (faults : Faults)
    → Grows before now → ((v : Volume) → stands v → still v) → (told → tells) → (told → (v : Volume) → stands v → (geometry_of l n v).value ≡ Ok g)
    → WasThere stands tells (IsNeeded (geometry_of l n)) before → (told → (v : Volume) → IsClaimedBy still g table v → AreFaults g v faults)
    → (told → (v : Volume) → IsTabled stands l n table v → (kind : BadKind) (k : ℕ) → order_of kind < order_of HoleIn → IsBad g v kind k → ⊥)
    → (no_metadata_fault faults.metadata ≡ true → WasThere (IsClaimedBy still g table) told (IsNeededBy g) now)
    → WasThere (IsTabled stands l n table) told (IsNeededOn l n) before
needed_all {still = still} {before = before} {now = now} l n g table faults grows keeps tell geometry super found none passes = record {
  each = λ is v tabled b of.
      let by = geometry is v (tabled.0) in
      let claimed : IsClaimedBy still g table v = (keeps v (tabled.0), table_claims l n g v table by (tabled.1)) in
      elim (needed_super_cases l n v g b by of) [
        | inl needs ↦ super.each (tell is) v (tabled.0) b needs
        | inr other ↦ not_before before now b grows
            ((passes (nothing_found g v faults.metadata (found is v claimed).metadata (none is v tabled))).each is v claimed b other)
      ];
}
