-- What the passes find is all that an audit tells.
use Rattle.std.proofs.Common.{◌≡◌, ◌↔◌, ℕ, zero, suc, List, [], ◌∷◌, Contains, Option, None, Some, Result, Ok, Err, IfNone, IfOk, IfSome, refl, sym, ap, subst, append-nil, arith}
use Rattle.ufs_model.specs.Audits.{AreAll, AreFindings, AreMalformations, IsNoted, IsNotedBy, IsUnclaimed, IsUnnamed}
use Rattle.ufs_model.specs.Blocks.{Volume, bind}
use Rattle.ufs_model.specs.Malformations.{Claims, IsBad, IsBadBy, IsMalformed}
use Rattle.ufs_model.specs.Metadata.{IsStructure}
use Rattle.ufs_model.specs.Metadata.IsMetadata.{of_superblock}
use Rattle.ufs_model.specs.Metadata.IsStructure.{of_metadata}
use Rattle.ufs_model.specs.Superblocks.{geometry_of, superblock_of}
use Rattle.ufs_model.specs.declared.geometries.BadSuper.{BadSuper}
use Rattle.ufs_model.specs.declared.geometries.Geometry.{Geometry}
use Rattle.ufs_model.specs.declared.malformations.BadKind.{BadKind}
use Rattle.ufs_model.specs.declared.malformations.BadKind.TheVariants.{Super, GroupMagic, GroupMap, WrongType, Filesize, Past, Wild, WildIn, Align, AlignIn, Run, Twice, PastIn, Free, Unused, Hole, Chunk, Entry, EntryType, Dots, Names, DirTwice, RootNamed}
use Rattle.dg_claims.specs.Tables.{ClaimTable, HasClaims}
use Rattle.ufs_check.specs.Surveys.{IsSurvey}
use Rattle.ufs_check.specs.Verdicts.{AreAllFaults, IsOnView, all_kinds, found_in}
use Rattle.ufs_check.specs.declared.faults.Faults.{Faults}
use Rattle.ufs_check.specs.declared.surveys.Notes.{Notes}
use Rattle.ufs_audit.specs.Listed.{listed}
use Rattle.ufs_audit.proofs.ListedLaws.{malformations_of}

-- ---- a superblock that gives a geometry

none_of : (numbers : List ℕ) → numbers ≡ [] → AreAll (λ n. ⊥) numbers
none_of [] is = record { each = λ n. (λ has. let lt = has.1 in absurd (omega arith), λ h. absurd h); ascend = λ i j d before lt. absurd (omega arith) }
none_of (n ∷ numbers) is = let no : n ∷ numbers ≡ [] = is in cc

found_all : (g : Geometry) (v : Volume) (faults : Faults) (kind : BadKind) → AreAllFaults g v faults → AreAll (IsBad g v kind) (found_in faults kind)
found_all g v faults (Super bad) are = none_of [] refl
found_all g v faults GroupMagic are = are.metadata.groups.magic
found_all g v faults GroupMap are = are.metadata.groups.map
found_all g v faults WrongType are = are.metadata.inodes.wrong_type
found_all g v faults Filesize are = are.metadata.inodes.filesize
found_all g v faults Past are = are.metadata.inodes.past
found_all g v faults Wild are = are.metadata.inodes.wild
found_all g v faults WildIn are = are.metadata.fragments.wild_in
found_all g v faults Align are = are.metadata.inodes.align
found_all g v faults AlignIn are = are.metadata.fragments.align_in
found_all g v faults Run are = are.metadata.inodes.run
found_all g v faults Twice are = are.metadata.fragments.twice
found_all g v faults PastIn are = are.metadata.fragments.past_in
found_all g v faults Free are = are.metadata.fragments.free
found_all g v faults Unused are = are.metadata.inodes.unused
found_all g v faults Hole are = are.tree.directories.hole
found_all g v faults Chunk are = are.tree.directories.chunk
found_all g v faults Entry are = are.tree.directories.entry
found_all g v faults EntryType are = are.tree.directories.entry_type
found_all g v faults Dots are = are.tree.links.dots
found_all g v faults Names are = are.tree.directories.names
found_all g v faults DirTwice are = are.tree.links.dir_twice
found_all g v faults RootNamed are = are.tree.directories.root_named

noted_all : (note : Geometry → Volume → ℕ → Type 0) (l n : ℕ) (v : Volume) (g : Geometry) (numbers : List ℕ) → (geometry_of l n v).value ≡ Ok g → AreAll (note g v) numbers
    → AreAll (IsNoted note l n v) numbers
noted_all note l n v g numbers is all = subst (λ r. AreAll (IsNotedBy note v r) numbers) (sym is) all

-- what a survey finds is all
pub survey_findings : (l n : ℕ) (v : Volume) (g : Geometry) (faults : Faults) (notes : Notes) (bad : List (BadKind × ℕ)) → (geometry_of l n v).value ≡ Ok g → IsSurvey g v faults notes
    → bad ≡ listed (found_in faults) all_kinds → AreFindings l n v bad notes.unnamed.items notes.unclaimed.items
survey_findings l n v g faults notes bad is survey bad_is = record {
  malformations = subst (AreMalformations l n v) (sym bad_is) (malformations_of l n v g (found_in faults) is (λ kind. found_all g v faults kind survey.faults));
  unnamed = noted_all IsUnnamed l n v g notes.unnamed.items is survey.notes.unnamed;
  unclaimed = noted_all IsUnclaimed l n v g notes.unclaimed.items is survey.notes.unclaimed;
}

-- ---- a superblock that is refused

one_pair : (x y : BadKind × ℕ) → Contains (x ∷ []) y → x ≡ y
one_pair x y (zero, lt, is) = is
one_pair x y (suc k, lt, is) = absurd (omega arith)

refused_malformed : (l n : ℕ) (v : Volume) (bad : BadSuper) (kind : BadKind) (m : ℕ) → (geometry_of l n v).value ≡ Err bad → IsMalformed l n v kind m ↔ ((kind ≡ Super bad) × (m ≡ 0))
unfolding IsMalformed
refused_malformed l n v bad kind m is = (λ h. subst (λ r. IsBadBy v r kind m) is h, λ h. subst (λ r. IsBadBy v r kind m) (sym is) h)

pair_of : (kind : BadKind) (m : ℕ) (bad : BadSuper) → ◌≡◌ {A = BadKind × ℕ} (Super bad, 0) (kind, m) → (kind ≡ Super bad) × (m ≡ 0)
pair_of kind m bad is = (sym (ap (λ (x : BadKind × ℕ). x.0) is), sym (ap (λ (x : BadKind × ℕ). x.1) is))

to_pair : (kind : BadKind) (m : ℕ) (bad : BadSuper) → kind ≡ Super bad → m ≡ 0 → ◌≡◌ {A = BadKind × ℕ} (Super bad, 0) (kind, m)
to_pair kind m bad one other =
    subst (λ k. ◌≡◌ {A = BadKind × ℕ} (Super bad, 0) (k, m)) (sym one) (subst (λ m. ◌≡◌ {A = BadKind × ℕ} (Super bad, 0) (Super bad, m)) (sym other) refl)

no_note : (note : Geometry → Volume → ℕ → Type 0) (l n : ℕ) (v : Volume) (bad : BadSuper) (numbers : List ℕ) → (geometry_of l n v).value ≡ Err bad → numbers ≡ []
    → AreAll (IsNoted note l n v) numbers
no_note note l n v bad numbers is none = subst (λ r. AreAll (IsNotedBy note v r) numbers) (sym is) (none_of numbers none)

pub refused_findings : (l n : ℕ) (v : Volume) (bad : BadSuper) (list : List (BadKind × ℕ)) (unnamed unclaimed : List ℕ) → (geometry_of l n v).value ≡ Err bad
    → list ≡ (Super bad, 0) ∷ [] → unnamed ≡ [] → unclaimed ≡ [] → AreFindings l n v list unnamed unclaimed
refused_findings l n v bad list unnamed unclaimed is list_is no_inode no_fragment = record {
  malformations = subst (AreMalformations l n v) (sym list_is) (record {
    each = λ kind m. (
      λ has. (refused_malformed l n v bad kind m is).1 (pair_of kind m bad (one_pair (Super bad, 0) (kind, m) has)),
      λ malformed. let parts = (refused_malformed l n v bad kind m is).0 malformed in (0, omega arith, to_pair kind m bad (parts.0) (parts.1)),
    );
    ordered = λ i j d before lt. absurd (omega arith);
  });
  unnamed = no_note IsUnnamed l n v bad unnamed is no_inode;
  unclaimed = no_note IsUnclaimed l n v bad unclaimed is no_fragment;
}

-- ---- readers, one after another

pub super_structure : (l n : ℕ) (v : Volume) (block : ℕ) → Contains ((geometry_of l n v).needs) block → IsStructure l n v block
unfolding geometry_of bind
super_structure l n v block needs = of_metadata (of_superblock (subst (λ (blocks : List ℕ). Contains blocks block) (append-nil ((superblock_of l n v).needs)) needs))

-- a volume with the claims of a table, on the view as it is then
pub on_table : (still : Volume → Type 0) {k m : ℕ} (l n : ℕ) (g : Geometry) (table : ClaimTable) (v : Volume) → k ≡ l → m ≡ n → still v
    → HasClaims table (Claims g v) → (geometry_of l n v).value ≡ Ok g → IsOnView still k m g table v
on_table still l n g table v size count stands claims is = (stands, claims, rw (size, count) is)

pub structure_then : {k m : ℕ} (l n : ℕ) (v : Volume) (block : ℕ) → k ≡ l → m ≡ n → IsStructure k m v block → IsStructure l n v block
structure_then l n v block size count is = rw (← size, ← count) is

-- ---- answers

pub some_along : {A E : Type 0} (r : Result (Option A) E) (P Q : A → Type 0) → ((a : A) → P a → Q a) → IfOk r (λ answer. IfSome answer P) → IfOk r (λ answer. IfSome answer Q)
some_along (Ok (Some a)) P Q more h = more a h
some_along (Ok None) P Q more h = tt
some_along (Err e) P Q more h = tt

pub none_along : {A E : Type 0} (r : Result (Option A) E) (P Q : Type 0) → (P → Q) → IfOk r (λ answer. IfNone answer P) → IfOk r (λ answer. IfNone answer Q)
none_along (Ok (Some a)) P Q more h = tt
none_along (Ok None) P Q more h = more h
none_along (Err e) P Q more h = tt

pub none_never : {A E : Type 0} (r : Result (Option A) E) (Q : Type 0) → IfOk r (λ answer. answer ≡ None → ⊥) → IfOk r (λ answer. IfNone answer Q)
none_never (Ok (Some a)) Q h = tt
none_never (Ok None) Q h = absurd (h refl)
none_never (Err e) Q h = tt
