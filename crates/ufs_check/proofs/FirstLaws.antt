-- The first of all kinds that are found.
use Rattle.std.proofs.Common.{◌≡◌, ◌∙◌, ℕ, suc, ◌-◌, ◌<◌, ◌≤◌, inl, inr, lit<, List, [], ◌∷◌, Option, Some, None, refl, sym, ap, true, subst, arith}
use Rattle.std.specs.Prelude.{MatchOption, slice_get}
use Rattle.std.proofs.lemmas.Bool.{cases_order}
use Rattle.ufs_model.specs.Blocks.{Volume}
use Rattle.ufs_model.specs.Malformations.{IsBad, order_of}
use Rattle.ufs_model.specs.declared.geometries.Geometry.{Geometry}
use Rattle.ufs_model.specs.declared.malformations.BadKind.{BadKind}
use Rattle.ufs_model.specs.declared.malformations.BadKind.TheVariants.{Super, GroupMagic, GroupMap, WrongType, Filesize, Past, Wild, WildIn, Align, AlignIn, Run, Twice, PastIn, Free, Unused, Hole, Chunk, Entry, EntryType, Dots, Names, DirTwice, RootNamed}
use Rattle.ufs_check.specs.Verdicts.{AreFaults, AreTreeFaults, Judges, all_kinds, first_by, first_found, later, no_metadata_fault}
use Rattle.ufs_check.specs.declared.faults.Faults.{Faults}
use Rattle.ufs_check.specs.declared.verdicts.Verdict.TheVariants.{Sound, Malformed}
use Rattle.ufs_check.specs.Notes.{IsLeast, first_in}
use Rattle.ufs_check.proofs.NoteLaws.{least_of}

-- ---- the order of the kinds

at_order : (kind : BadKind) → 0 < order_of kind → slice_get all_kinds (order_of kind - 1) ≡ Some kind
at_order (Super bad) above = absurd (omega arith)
at_order GroupMagic above = refl
at_order GroupMap above = refl
at_order WrongType above = refl
at_order Filesize above = refl
at_order Past above = refl
at_order Wild above = refl
at_order WildIn above = refl
at_order Align above = refl
at_order AlignIn above = refl
at_order Run above = refl
at_order Twice above = refl
at_order PastIn above = refl
at_order Free above = refl
at_order Unused above = refl
at_order Hole above = refl
at_order Chunk above = refl
at_order Entry above = refl
at_order EntryType above = refl
at_order Dots above = refl
at_order Names above = refl
at_order DirTwice above = refl
at_order RootNamed above = refl

order_most : (kind : BadKind) → order_of kind < 23
order_most (Super bad) = lit< tt
order_most GroupMagic = lit< tt
order_most GroupMap = lit< tt
order_most WrongType = lit< tt
order_most Filesize = lit< tt
order_most Past = lit< tt
order_most Wild = lit< tt
order_most WildIn = lit< tt
order_most Align = lit< tt
order_most AlignIn = lit< tt
order_most Run = lit< tt
order_most Twice = lit< tt
order_most PastIn = lit< tt
order_most Free = lit< tt
order_most Unused = lit< tt
order_most Hole = lit< tt
order_most Chunk = lit< tt
order_most Entry = lit< tt
order_most EntryType = lit< tt
order_most Dots = lit< tt
order_most Names = lit< tt
order_most DirTwice = lit< tt
order_most RootNamed = lit< tt

same_order : (kind other : BadKind) → 0 < order_of kind → order_of other ≡ order_of kind → other ≡ kind
same_order kind other above same =
    let here : slice_get all_kinds (order_of kind - 1) ≡ Some kind = at_order kind above in
    let there : slice_get all_kinds (order_of other - 1) ≡ Some other = at_order other (omega arith) in
    let both : Some other ≡ Some kind = sym there ∙ ap (λ order. slice_get all_kinds (order - 1)) same ∙ here in cc

-- ---- one kind after the other

-- no kind of a lower order is found
abbrev pub NoneBelow : (BadKind → Option ℕ) → ℕ → Type 0
NoneBelow number order = (kind : BadKind) → order_of kind < order → number kind ≡ None

pub record IsFirstOf (number : BadKind → Option ℕ) (kind : BadKind) (n : ℕ) : Type 0 where
  pub found : number kind ≡ Some n
  pub none : NoneBelow number (order_of kind)

-- what is kept of the kinds of lower orders
abbrev pub IsFirstBelow : (BadKind → Option ℕ) → ℕ → Option (BadKind × ℕ) → Type 0
IsFirstBelow number order None = NoneBelow number order
IsFirstBelow number order (Some first) = IsFirstOf number (first.0) (first.1)

-- kinds in their order, from one on up to another
abbrev pub AreInOrder : ℕ → ℕ → List BadKind → Type 0
AreInOrder order last [] = order ≡ last
AreInOrder order last (kind ∷ kinds) = (0 < order) × (order_of kind ≡ order) × AreInOrder (suc order) last kinds

none_more : (number : BadKind → Option ℕ) (order : ℕ) (kind : BadKind) → 0 < order → order_of kind ≡ order → NoneBelow number order → number kind ≡ None → NoneBelow number (suc order)
none_more number order kind above is none here other lt = elim (cases_order (order_of other) order) [
  | inl same ↦ ap number (same_order kind other (omega arith) (same ∙ sym is)) ∙ here
  | inr apart ↦ elim apart [ inl less ↦ none other less | inr greater ↦ absurd (omega arith) ]
]

later_first : (number : BadKind → Option ℕ) (order : ℕ) (kind : BadKind) (first : Option (BadKind × ℕ)) (found : Option ℕ) → 0 < order → order_of kind ≡ order → number kind ≡ found
    → IsFirstBelow number order first → IsFirstBelow number (suc order) (later first kind found)
later_first number order kind (Some first) found above is at so_far = so_far
later_first number order kind None (Some n) above is at so_far = record { found = at; none = subst (NoneBelow number) (sym is) so_far }
later_first number order kind None None above is at so_far = none_more number order kind above is so_far at

pub firsts : (number : BadKind → Option ℕ) (kinds : List BadKind) (order last : ℕ) (first : Option (BadKind × ℕ)) → AreInOrder order last kinds
    → IsFirstBelow number order first → IsFirstBelow number last (first_by number first kinds)
firsts number [] order last first ordered so_far = subst (λ order. IsFirstBelow number order first) ordered so_far
firsts number (kind ∷ kinds) order last first ordered so_far =
    firsts number kinds (suc order) last (later first kind (number kind)) (ordered.2) (later_first number order kind first (number kind) (ordered.0) (ordered.1) refl so_far)

-- no kind has the order 0 but those of the superblock, which no pass finds
pub first_none : (faults : Faults) → IsFirstBelow (first_found faults) 1 None
first_none faults (Super bad) lt = refl
first_none faults GroupMagic lt = absurd (omega arith)
first_none faults GroupMap lt = absurd (omega arith)
first_none faults WrongType lt = absurd (omega arith)
first_none faults Filesize lt = absurd (omega arith)
first_none faults Past lt = absurd (omega arith)
first_none faults Wild lt = absurd (omega arith)
first_none faults WildIn lt = absurd (omega arith)
first_none faults Align lt = absurd (omega arith)
first_none faults AlignIn lt = absurd (omega arith)
first_none faults Run lt = absurd (omega arith)
first_none faults Twice lt = absurd (omega arith)
first_none faults PastIn lt = absurd (omega arith)
first_none faults Free lt = absurd (omega arith)
first_none faults Unused lt = absurd (omega arith)
first_none faults Hole lt = absurd (omega arith)
first_none faults Chunk lt = absurd (omega arith)
first_none faults Entry lt = absurd (omega arith)
first_none faults EntryType lt = absurd (omega arith)
first_none faults Dots lt = absurd (omega arith)
first_none faults Names lt = absurd (omega arith)
first_none faults DirTwice lt = absurd (omega arith)
first_none faults RootNamed lt = absurd (omega arith)

-- of all kinds, in four steps
pub whole_first : (faults : Faults) (slots claims entries links : Option (BadKind × ℕ)) → slots ≡ first_by (first_found faults) None (GroupMagic ∷ GroupMap ∷ WrongType ∷ Filesize ∷ Past ∷ Wild ∷ [])
    → claims ≡ first_by (first_found faults) slots (WildIn ∷ Align ∷ AlignIn ∷ Run ∷ Twice ∷ PastIn ∷ [])
    → entries ≡ first_by (first_found faults) claims (Free ∷ Unused ∷ Hole ∷ Chunk ∷ Entry ∷ EntryType ∷ [])
    → links ≡ first_by (first_found faults) entries (Dots ∷ Names ∷ DirTwice ∷ RootNamed ∷ []) → IsFirstBelow (first_found faults) 23 links
whole_first faults slots claims entries links first second third fourth =
    let number = first_found faults in
    let one = subst (IsFirstBelow number 7) (sym first) (firsts number (GroupMagic ∷ GroupMap ∷ WrongType ∷ Filesize ∷ Past ∷ Wild ∷ []) 1 7 None (lit< tt, refl, (lit< tt, refl, (lit< tt, refl, (lit< tt, refl, (lit< tt, refl, (lit< tt, refl, refl)))))) (first_none faults)) in
    let two = subst (IsFirstBelow number 13) (sym second) (firsts number (WildIn ∷ Align ∷ AlignIn ∷ Run ∷ Twice ∷ PastIn ∷ []) 7 13 slots (lit< tt, refl, (lit< tt, refl, (lit< tt, refl, (lit< tt, refl, (lit< tt, refl, (lit< tt, refl, refl)))))) one) in
    let three = subst (IsFirstBelow number 19) (sym third) (firsts number (Free ∷ Unused ∷ Hole ∷ Chunk ∷ Entry ∷ EntryType ∷ []) 13 19 claims (lit< tt, refl, (lit< tt, refl, (lit< tt, refl, (lit< tt, refl, (lit< tt, refl, (lit< tt, refl, refl)))))) two) in
    subst (IsFirstBelow number 23) (sym fourth) (firsts number (Dots ∷ Names ∷ DirTwice ∷ RootNamed ∷ []) 19 23 entries (lit< tt, refl, (lit< tt, refl, (lit< tt, refl, (lit< tt, refl, refl)))) three)

-- ---- what is found is the least

not_there : (holds : ℕ → Type 0) (r : Option ℕ) → r ≡ None → IsLeast holds r → (n : ℕ) → holds n → ⊥
not_there holds r none least = subst (IsLeast holds) none least

-- where nothing of a lower order is found, nothing is found of the metadata
no_metadata : (faults : Faults) (order : ℕ) → 15 ≤ order → NoneBelow (first_found faults) order → no_metadata_fault faults.metadata ≡ true
no_metadata faults order high none =
    let magic : first_in faults.metadata.groups.magic.items ≡ None = none GroupMagic (omega arith) in
    let map : first_in faults.metadata.groups.map.items ≡ None = none GroupMap (omega arith) in
    let wrong_type : first_in faults.metadata.inodes.wrong_type.items ≡ None = none WrongType (omega arith) in
    let filesize : first_in faults.metadata.inodes.filesize.items ≡ None = none Filesize (omega arith) in
    let past : first_in faults.metadata.inodes.past.items ≡ None = none Past (omega arith) in
    let wild : first_in faults.metadata.inodes.wild.items ≡ None = none Wild (omega arith) in
    let wild_in : first_in faults.metadata.fragments.wild_in.items ≡ None = none WildIn (omega arith) in
    let align : first_in faults.metadata.inodes.align.items ≡ None = none Align (omega arith) in
    let align_in : first_in faults.metadata.fragments.align_in.items ≡ None = none AlignIn (omega arith) in
    let run : first_in faults.metadata.inodes.run.items ≡ None = none Run (omega arith) in
    let twice : first_in faults.metadata.fragments.twice.items ≡ None = none Twice (omega arith) in
    let past_in : first_in faults.metadata.fragments.past_in.items ≡ None = none PastIn (omega arith) in
    let free : first_in faults.metadata.fragments.free.items ≡ None = none Free (omega arith) in
    let unused : first_in faults.metadata.inodes.unused.items ≡ None = none Unused (omega arith) in
    rw (magic, map, wrong_type, filesize, past, wild, align, run, unused, wild_in, align_in, twice, past_in, free) refl

-- so directories are told
tree_told : (g : Geometry) (v : Volume) (faults : Faults) (order : ℕ) → 15 ≤ order → AreFaults g v faults → NoneBelow (first_found faults) order → AreTreeFaults g v faults.tree
tree_told g v faults order high are none = are.tree (no_metadata faults order high none)

-- of each kind, where none of a lower order is found
least_found : (g : Geometry) (v : Volume) (faults : Faults) (kind : BadKind) → AreFaults g v faults → NoneBelow (first_found faults) (order_of kind)
    → IsLeast (IsBad g v kind) (first_found faults kind)
least_found g v faults (Super bad) are none = λ m h. absurd h
least_found g v faults GroupMagic are none = least_of _ _ are.metadata.groups.magic
least_found g v faults GroupMap are none = least_of _ _ are.metadata.groups.map
least_found g v faults WrongType are none = least_of _ _ are.metadata.inodes.wrong_type
least_found g v faults Filesize are none = least_of _ _ are.metadata.inodes.filesize
least_found g v faults Past are none = least_of _ _ are.metadata.inodes.past
least_found g v faults Wild are none = least_of _ _ are.metadata.inodes.wild
least_found g v faults WildIn are none = least_of _ _ are.metadata.fragments.wild_in
least_found g v faults Align are none = least_of _ _ are.metadata.inodes.align
least_found g v faults AlignIn are none = least_of _ _ are.metadata.fragments.align_in
least_found g v faults Run are none = least_of _ _ are.metadata.inodes.run
least_found g v faults Twice are none = least_of _ _ are.metadata.fragments.twice
least_found g v faults PastIn are none = least_of _ _ are.metadata.fragments.past_in
least_found g v faults Free are none = least_of _ _ are.metadata.fragments.free
least_found g v faults Unused are none = least_of _ _ are.metadata.inodes.unused
least_found g v faults Hole are none = least_of _ _ (tree_told g v faults 15 (lit< tt) are none).directories.hole
least_found g v faults Chunk are none = least_of _ _ (tree_told g v faults 16 (lit< tt) are none).directories.chunk
least_found g v faults Entry are none = least_of _ _ (tree_told g v faults 17 (lit< tt) are none).directories.entry
least_found g v faults EntryType are none = least_of _ _ (tree_told g v faults 18 (lit< tt) are none).directories.entry_type
least_found g v faults Dots are none = least_of _ _ (tree_told g v faults 19 (lit< tt) are none).links.dots
least_found g v faults Names are none = least_of _ _ (tree_told g v faults 20 (lit< tt) are none).directories.names
least_found g v faults DirTwice are none = least_of _ _ (tree_told g v faults 21 (lit< tt) are none).links.dir_twice
least_found g v faults RootNamed are none = least_of _ _ (tree_told g v faults 22 (lit< tt) are none).directories.root_named

-- ---- the verdict

pub sound_judges : (g : Geometry) (v : Volume) (faults : Faults) → AreFaults g v faults → IsFirstBelow (first_found faults) 23 None → Judges g v Sound
sound_judges g v faults are none = λ kind n h.
    not_there (IsBad g v kind) (first_found faults kind) (none kind (order_most kind))
    (least_found g v faults kind are (λ other lt. none other (order_most other))) n h

pub malformed_judges : (g : Geometry) (v : Volume) (faults : Faults) (kind : BadKind) (n : ℕ) → AreFaults g v faults → IsFirstBelow (first_found faults) 23 (Some (kind, n))
    → Judges g v (Malformed kind n)
malformed_judges g v faults kind n are one =
    let least = subst (IsLeast (IsBad g v kind)) one.found (least_found g v faults kind are one.none) in record {
      here = least.0;
      least = least.1;
      first = λ other m lt h.
          not_there (IsBad g v other) (first_found faults other) (one.none other lt)
          (least_found g v faults other are (λ lower below. one.none lower (omega arith))) m h;
    }
