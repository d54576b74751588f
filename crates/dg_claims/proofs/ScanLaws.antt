-- What a scan of a volume has claimed so far.
use Rattle.std.proofs.Common.{◌≡◌, ◌∙◌, ℕ, ◌+◌, ◌-◌, ◌*◌, ◌<◌, ◌≤◌, ◌⊎◌, ◌↔◌, List, [], ◌∷◌, true, false, inl, inr, Option, Some, None, refl, sym, ap, subst, arith, take, drop, length, Contains, get_or, take_all}
use Rattle.std.proofs.lemmas.Bool.{cases_eq}
use Rattle.std.proofs.lemmas.Bool.Decides.{nat_tests}
use Rattle.std.proofs.lemmas.List.{take_more}
use Rattle.std.proofs.lemmas.List.Elements.{Contains-push_cases}
use Rattle.ufs_model.specs.Blocks.{Volume, bind, block_at}
use Rattle.ufs_model.specs.Claims.{IsClaim, IsClaimedAt, by_pointer, by_slot, level_of, pointer_fragments, slot_fragments, slot_fragments_in, source_fragments}
use Rattle.ufs_model.specs.Inodes.{inode_block, inode_byte, inode_in, inode_of, is_inode_number}
use Rattle.ufs_model.specs.declared.claims.ClaimSource.{ClaimSource}
use Rattle.ufs_model.specs.declared.claims.ClaimSource.TheVariants.{Slot, Pointer}
use Rattle.ufs_model.specs.declared.geometries.Geometry.{Geometry}
use Rattle.ufs_model.specs.declared.inodes.Inode.{Inode}
use Rattle.dg_claims.proofs.ListLaws.{cond_false, cond_true, contains_cons, contains_none}
use Rattle.dg_claims.proofs.SourceLaws.{in_range}
use Rattle.dg_claims.specs.Scans.{HasInode, HasNoPointers, IsIndirect, IsRightAbove, stored_fragments}
use Rattle.dg_claims.specs.Tables.{fragment_pointers, inode_fragments}

-- ---- inodes

past_range : (g : Geometry) (number : ℕ) → g.ncg * g.ipg ≤ number → is_inode_number g number ≡ false
past_range g number le = grind (arith, nat_tests)

below_range : (g : Geometry) (number : ℕ) → number < 2 → is_inode_number g number ≡ false
below_range g number lt = grind (arith, nat_tests)

stored : (g : Geometry) (number slot : ℕ) (found : Option Inode) → is_inode_number g number ≡ true → stored_fragments (Some g) number found slot ≡ slot_fragments_in g slot found
unfolding inode_fragments
stored g number slot None within = refl
stored g number slot (Some inode) within = cond_true (is_inode_number g number) (slot_fragments g inode slot) [] within

source_in : (g : Geometry) (v : Volume) (number slot : ℕ) → is_inode_number g number ≡ true
    → source_fragments g v (Slot number slot) ≡ slot_fragments_in g slot (inode_in g.endian (take 128 (drop (inode_byte g number) (block_at g.fsize v (inode_block g number)))))
unfolding source_fragments inode_of bind
source_in g v number slot within = cond_true (is_inode_number g number) _ [] within

no_source : (g : Geometry) (v : Volume) (number slot : ℕ) → is_inode_number g number ≡ false → source_fragments g v (Slot number slot) ≡ []
unfolding source_fragments inode_of bind
no_source g v number slot out = cond_false (is_inode_number g number) _ [] out

pub stored_source : (g : Geometry) (geometry : Option Geometry) (v : Volume) (number slot block byte l : ℕ) (bytes : List ℕ) → geometry ≡ Some g → 2 ≤ number → number < g.ncg * g.ipg
    → block ≡ inode_block g number → byte ≡ inode_byte g number → g.fsize ≡ l → bytes ≡ block_at l v block
    → stored_fragments geometry number (inode_in g.endian (take 128 (drop byte bytes))) slot ≡ source_fragments g v (Slot number slot)
stored_source g geometry v number slot block byte l bytes is low high here at size has =
    let within = in_range g number low high in
    let whole : bytes ≡ block_at g.fsize v (inode_block g number) = has ∙ ap (λ b. block_at l v b) here ∙ ap (λ n. block_at n v (inode_block g number)) (sym size) in
    let read : inode_in g.endian (take 128 (drop byte bytes)) ≡ inode_in g.endian (take 128 (drop (inode_byte g number) (block_at g.fsize v (inode_block g number)))) =
    ap (λ n. inode_in g.endian (take 128 (drop n bytes))) at ∙ ap (λ xs. inode_in g.endian (take 128 (drop (inode_byte g number) xs))) whole in
    ap (λ o. stored_fragments o number (inode_in g.endian (take 128 (drop byte bytes))) slot) is
    ∙ stored g number slot (inode_in g.endian (take 128 (drop byte bytes))) within
    ∙ ap (slot_fragments_in g slot) read
    ∙ sym (source_in g v number slot within)

pub has_inode : (g : Geometry) (number block b : ℕ) → number < g.ncg * g.ipg → block ≡ inode_block g number → (v : Volume) → b ≡ block → HasInode g v b
has_inode g number block b high here v is = (number, high, is ∙ here)

pub low_source : (g : Geometry) (v : Volume) (number slot : ℕ) → number < 2 → source_fragments g v (Slot number slot) ≡ []
low_source g v number slot lt = no_source g v number slot (below_range g number lt)

pub past_source : (g : Geometry) (v : Volume) (number slot : ℕ) → g.ncg * g.ipg ≤ number → source_fragments g v (Slot number slot) ≡ []
past_source g v number slot le = no_source g v number slot (past_range g number le)

pub slot_apart : (i j : ℕ) (s t : ℕ) → Slot i s ≡ Slot j t → i ≡ j
slot_apart i j s t e = cc

pub pointer_no_slot : (u l a i s : ℕ) → Pointer u l a ≡ Slot i s → ⊥
pointer_no_slot u l a i s e = cc

-- the slots of all inodes before this one
pub slots_more : (g : Geometry) (v : Volume) (old new : ClaimSource → List ℕ) (at count : ℕ) → count ≡ at + 1
    → ((source : ClaimSource) → ((slot : ℕ) → source ≡ Slot at slot → ⊥) → new source ≡ old source)
    → ((slot : ℕ) → new (Slot at slot) ≡ source_fragments g v (Slot at slot))
    → ((number slot : ℕ) → number < at → old (Slot number slot) ≡ source_fragments g v (Slot number slot))
    → (number slot : ℕ) → number < count → new (Slot number slot) ≡ source_fragments g v (Slot number slot)
slots_more g v old new at count more others here before number slot lt = elim (cases_eq number at) [
  | inl same ↦ subst (λ n. new (Slot n slot) ≡ source_fragments g v (Slot n slot)) (sym same) (here slot)
  | inr apart ↦ others (Slot number slot) (λ s e. apart (slot_apart number at slot s e)) ∙ before number slot (omega (arith, lt, apart, more))
]

-- ---- pointers

pub pointer_source : (g : Geometry) (geometry : Option Geometry) (v : Volume) (fragment level at l : ℕ) (bytes : List ℕ) → geometry ≡ Some g → g.fsize ≡ l → bytes ≡ block_at l v fragment
    → fragment_pointers geometry bytes at ≡ source_fragments g v (Pointer fragment level at)
unfolding fragment_pointers source_fragments
pointer_source g geometry v fragment level at l bytes is size has =
    let whole : bytes ≡ block_at g.fsize v fragment = has ∙ ap (λ n. block_at n v fragment) (sym size) in
    ap (λ o. fragment_pointers o bytes at) is ∙ ap (λ xs. pointer_fragments g xs at) whole

pub fragment_apart : (f h : ℕ) (k l : ℕ) (a b : ℕ) → Pointer f k a ≡ Pointer h l b → f ≡ h
fragment_apart f h k l a b e = cc

pub level_apart : (f h : ℕ) (k l : ℕ) (a b : ℕ) → Pointer f k a ≡ Pointer h l b → k ≡ l
level_apart f h k l a b e = cc

-- ---- levels

claim_level : (t : ClaimSource → List ℕ) (fragment upper level at : ℕ) → IsClaim t fragment (Pointer upper level at) → 0 < level
claim_level t fragment upper level at (by_pointer above is low has) = low

-- a fragment has a claim at a level, by what each source claims
abbrev pub HasLevel : (ClaimSource → List ℕ) → ℕ → ℕ → Type 0
HasLevel claimed level fragment = IsClaimedAt (λ f source. Contains (claimed source) f) level fragment

claim_of : (t claimed : ClaimSource → List ℕ) (level fragment : ℕ) (source : ClaimSource) → 1 ≤ level → IsRightAbove t claimed level → level_of source ≡ level → Contains (claimed source) fragment → IsClaim t fragment source
claim_of t claimed level fragment (Slot inode slot) low right is has = by_slot ((right.slots fragment inode slot).0 has)
claim_of t claimed level fragment (Pointer upper above at) low right is has = (right.pointers fragment upper above at (omega (arith, is, low))).0 has

-- the fragments with a claim at a level are those of the volume, where all above is right
pub indirect_of : (t claimed : ClaimSource → List ℕ) (level fragment : ℕ) → 1 ≤ level → IsRightAbove t claimed level → HasLevel claimed level fragment
    → (source : ClaimSource) × (level_of source ≡ level) × IsClaim t fragment source
indirect_of t claimed level fragment low right at = (at.source, at.is, claim_of t claimed level fragment at.source low right at.is at.claim)

pub is_indirect : (g : Geometry) (v : Volume) (claimed : ClaimSource → List ℕ) (level fragment : ℕ) → 1 ≤ level → IsRightAbove (source_fragments g v) claimed level → HasLevel claimed level fragment
    → IsIndirect g v fragment
is_indirect g v claimed level fragment low right at =
    let some = indirect_of (source_fragments g v) claimed level fragment low right at in (some.0, some.2, omega (arith, some.1, low))

pub claimed_of : (t claimed : ClaimSource → List ℕ) (level fragment : ℕ) (source : ClaimSource) → IsRightAbove t claimed level → 0 < level → level_of source ≡ level → IsClaim t fragment source → HasLevel claimed level fragment
claimed_of t claimed level fragment (Slot inode slot) right low is (by_slot has) = record { source = Slot inode slot; claim = (right.slots fragment inode slot).1 has; is = is }
claimed_of t claimed level fragment (Pointer upper above at) right low is claim =
    record { source = Pointer upper above at; claim = (right.pointers fragment upper above at (omega (arith, is, low))).1 claim; is = is }

pointer_claim : (t : ClaimSource → List ℕ) (fragment upper level at : ℕ) → IsClaim t fragment (Pointer upper level at) → Contains (t (Pointer upper level at)) fragment
pointer_claim t fragment upper level at (by_pointer above is low has) = has

slot_claim : (t : ClaimSource → List ℕ) (fragment inode slot : ℕ) → IsClaim t fragment (Slot inode slot) → Contains (t (Slot inode slot)) fragment
slot_claim t fragment inode slot (by_slot has) = has

upper_listed : (t claimed : ClaimSource → List ℕ) (level : ℕ) (fragments : List ℕ) (fragment upper at : ℕ) → 0 < level → ((f : ℕ) → Contains fragments f ↔ HasLevel claimed level f)
    → IsRightAbove t claimed level → IsClaim t fragment (Pointer upper level at) → Contains fragments upper
upper_listed t claimed level fragments fragment upper at low listed right (by_pointer {source = source} above is positive has) =
    (listed upper).1 (claimed_of t claimed level upper source right low is above)

-- one level more is right
pub right_below : (t old new : ClaimSource → List ℕ) (level : ℕ) (fragments : List ℕ) → 1 ≤ level → HasNoPointers old level
    → ((fragment : ℕ) → Contains fragments fragment ↔ HasLevel old level fragment)
    → ((fragment at : ℕ) → Contains fragments fragment → new (Pointer fragment level at) ≡ t (Pointer fragment level at))
    → ((source : ClaimSource) → ((fragment at : ℕ) → Contains fragments fragment → source ≡ Pointer fragment level at → ⊥) → new source ≡ old source)
    → ((upper : ℕ) → Contains fragments upper ⊎ (Contains fragments upper → ⊥))
    → IsRightAbove t old level → IsRightAbove t new (level - 1)
right_below t old new level fragments low none listed here others decide right = record {
  slots = λ fragment inode slot. subst (λ xs. Contains xs fragment ↔ Contains (t (Slot inode slot)) fragment) (sym (others (Slot inode slot) (λ f a in_list e. pointer_no_slot f level a inode slot (sym e)))) (right.slots fragment inode slot);
  pointers = λ fragment upper above at high. elim (cases_eq above level) [
    | inl same ↦ subst (λ k. Contains (new (Pointer upper k at)) fragment ↔ IsClaim t fragment (Pointer upper k at)) (sym same) (elim (decide upper) [
      | inl in_list ↦
          let some = indirect_of t old level upper low right ((listed upper).0 in_list) in (
            λ has. by_pointer (some.2) (some.1) low (subst (λ xs. Contains xs fragment) (here upper at in_list) has),
            λ claim. subst (λ xs. Contains xs fragment) (sym (here upper at in_list)) (pointer_claim t fragment upper level at claim),
          )
      | inr off ↦
          let bare : new (Pointer upper level at) ≡ [] = others (Pointer upper level at) (λ f a in_list e. off (subst (λ x. Contains fragments x) (sym (fragment_apart upper f level level at a e)) in_list)) ∙ none upper level at (omega arith) in (
            λ has. absurd (contains_none fragment (subst (λ xs. Contains xs fragment) bare has)),
            λ claim. absurd (off (upper_listed t old level fragments fragment upper at low listed right claim)),
          )
    ])
    | inr apart ↦
        subst (λ xs. Contains xs fragment ↔ IsClaim t fragment (Pointer upper above at)) (sym (others (Pointer upper above at) (λ f a in_list e. apart (level_apart upper f above level at a e))))
        (right.pointers fragment upper above at (omega (arith, high, apart, low)))
  ];
}

-- no level is left, so all is right
pub right_in_the_end : (t claimed : ClaimSource → List ℕ) → HasNoPointers claimed 0 → IsRightAbove t claimed 0 → (fragment : ℕ) (source : ClaimSource) → Contains (claimed source) fragment ↔ IsClaim t fragment source
right_in_the_end t claimed none right fragment (Slot inode slot) = (
  λ has. by_slot ((right.slots fragment inode slot).0 has),
  λ claim. (right.slots fragment inode slot).1 (slot_claim t fragment inode slot claim),
)
right_in_the_end t claimed none right fragment (Pointer upper level at) = elim (cases_eq level 0) [
  | inl same ↦ (
    λ has. absurd (contains_none fragment (subst (λ xs. Contains xs fragment) (none upper level at (omega (arith, same))) has)),
    λ claim. let low = claim_level t fragment upper level at claim in absurd (omega (arith, low, same)),
  )
  | inr apart ↦ right.pointers fragment upper level at (omega (arith, apart))
]

-- ---- a list of fragments

pub in_taken : (fragments : List ℕ) (i fragment : ℕ) → i < length fragments → (fragment ≡ get_or fragments i 0 → ⊥) → Contains (take (i + 1) fragments) fragment → Contains (take i fragments) fragment
in_taken fragments i fragment lt apart has =
    elim (Contains-push_cases (take i fragments) (get_or fragments i 0) fragment (subst (λ xs. Contains xs fragment) (take_more fragments i 0 lt) has)) [
      | inl h ↦ h
      | inr e ↦ absurd (apart (sym e))
    ]

pub in_whole : (fragments : List ℕ) (i fragment : ℕ) → length fragments ≤ i → Contains fragments fragment → Contains (take i fragments) fragment
in_whole fragments i fragment le has = subst (λ xs. Contains xs fragment) (sym (take_all i fragments le)) has

-- a list has a number, or it hasn't
pub decided : (fragments : List ℕ) (x : ℕ) → Contains fragments x ⊎ (Contains fragments x → ⊥)
decided [] x = inr (contains_none x)
decided (f ∷ fs) x = elim (cases_eq x f) [
  | inl same ↦ inl (0, omega arith, sym same)
  | inr apart ↦ elim (decided fs x) [
    | inl has ↦ inl ((contains_cons f fs x).1 (inr has))
    | inr none ↦ inr (λ has. elim ((contains_cons f fs x).0 has) [ inl e ↦ apart e | inr h ↦ none h ])
  ]
]
