-- Marks of pending blocks: whether a block is known can be told, so some marks are always the next ones. A library for the crates above.
use Rattle.std.proofs.Common.{◌≡◌, ◌<◌, ◌≤◌, ◌*◌, ◌/◌, inl, inr, ℕ, Bool, true, false, cond, not, ◌&&◌, ◌||◌, Ok, Err, List, [], length, map, refl, sym, ◌∙◌, ap, arith}
use Rattle.std.specs.Prelude.{Option, Some, None, Result}
use Rattle.std.specs.List.{Contains, range_with_len}
use Rattle.std.proofs.lemmas.Bool.{and_from, and_parts, both_ways, cases_Bool, cases_lt, false≢true, ltb-true, not-true, or_cases}
use Rattle.std.proofs.lemmas.List.{get_or_past}
use Rattle.std.proofs.lemmas.List.FromFn.{get_or-map-range_with_len, length-map-range_with_len}
use Rattle.ufs_model.specs.Blocks.{Volume}
use Rattle.ufs_model.specs.Claims.{IsClaim, pointer_fragments, slot_fragments, slot_fragments_in, source_fragments, source_fragments_in, volume_fragments}
use Rattle.ufs_model.specs.Inodes.{inode_of, is_inode_number}
use Rattle.ufs_model.specs.Roles.{is_system, role}
use Rattle.ufs_model.specs.declared.claims.ClaimSource.{ClaimSource}
use Rattle.ufs_model.specs.declared.claims.ClaimSource.TheVariants.{Slot, Pointer}
use Rattle.ufs_model.specs.declared.geometries.BadSuper.{BadSuper}
use Rattle.ufs_model.specs.declared.geometries.Geometry.{Geometry}
use Rattle.ufs_model.specs.declared.inodes.Inode.{Inode}
use Rattle.dg_model.specs.Marks.{AreLeft, AreNext, IsKnown, is_marked}
use Rattle.dg_model.specs.Volumes.{IsClaimed, IsSystemBlock, geometry_on}
use Rattle.dg_model.proofs.ClaimSearch.{IsBounded, all_claimed, claimed_found, found_claimed, has_number}

-- ---- what a volume claims is bounded

abbrev inodes_by : Result Geometry BadSuper → ℕ
inodes_by (Ok g) = g.ncg * g.ipg
inodes_by (Err bad) = 0

abbrev pointers_by : Result Geometry BadSuper → ℕ
pointers_by (Ok g) = g.fsize / 4
pointers_by (Err bad) = 0

none_there : {X : Type 0} (x : X) → Contains [] x → ⊥
none_there x (k, low, at) = omega (arith, low)

only_where : {X : Type 0} (b : Bool) (xs : List X) (x : X) → Contains (cond b xs []) x → (b ≡ true) × Contains xs x
only_where true xs x h = (refl, h)
only_where false xs x h = absurd (none_there x h)

slot_by : (g : Geometry) (slot f : ℕ) (inode : Option Inode) → Contains (slot_fragments_in g slot inode) f → slot < 15
unfolding slot_fragments
slot_by g slot f None h = absurd (none_there f h)
slot_by g slot f (Some inode) h = ltb-true slot 15 (and_parts _ _ (only_where _ _ f h).0).1

inode_below : (v : Volume) (r : Result Geometry BadSuper) (i slot f : ℕ) → Contains (source_fragments_in v r (Slot i slot)) f → i < inodes_by r
unfolding source_fragments
inode_below v (Ok g) i slot f h = ltb-true i (g.ncg * g.ipg) (and_parts _ _ (only_where (is_inode_number g i) _ f h).0).1
inode_below v (Err bad) i slot f h = absurd (none_there f h)

slot_below : (v : Volume) (r : Result Geometry BadSuper) (i slot f : ℕ) → Contains (source_fragments_in v r (Slot i slot)) f → slot < 15
unfolding source_fragments
slot_below v (Ok g) i slot f h = slot_by g slot f ((inode_of g i v).value) (only_where (is_inode_number g i) _ f h).1
slot_below v (Err bad) i slot f h = absurd (none_there f h)

pointer_below : (v : Volume) (r : Result Geometry BadSuper) (u level at f : ℕ) → Contains (source_fragments_in v r (Pointer u level at)) f → at < pointers_by r
unfolding source_fragments pointer_fragments
pointer_below v (Ok g) u level at f h = ltb-true at (g.fsize / 4) (only_where _ _ f h).0
pointer_below v (Err bad) u level at f h = absurd (none_there f h)

pub volume_bounded : (l n : ℕ) (v : Volume) → IsBounded (volume_fragments l n v) (inodes_by (geometry_on l n v)) (pointers_by (geometry_on l n v))
unfolding volume_fragments
volume_bounded l n v = record {
  inode = inode_below v (geometry_on l n v);
  slot = slot_below v (geometry_on l n v);
  at = pointer_below v (geometry_on l n v);
}

-- without a geometry no block is claimed
pub unclaimed_without : (l n : ℕ) (v : Volume) (bad : BadSuper) (b : ℕ) → geometry_on l n v ≡ Err bad → IsClaimed l n v b → ⊥
unclaimed_without l n v bad b none (source, claim) = by_source source claim
  where
    no_inode : (i slot : ℕ) → Contains (volume_fragments l n v (Slot i slot)) b → ⊥
    no_inode i slot h = let low = (volume_bounded l n v).inode i slot b h in let zero' = ap inodes_by none in omega (arith, low, zero')

    no_pointer : (u level at : ℕ) → Contains (volume_fragments l n v (Pointer u level at)) b → ⊥
    no_pointer u level at h = let low = (volume_bounded l n v).at u level at b h in let zero' = ap pointers_by none in omega (arith, low, zero')

    by_source : (source : ClaimSource) → IsClaim (volume_fragments l n v) b source → ⊥
    by_source (Slot i slot) (IsClaim.by_slot h) = no_inode i slot h
    by_source (Pointer u level at) (IsClaim.by_pointer upper is above h) = no_pointer u level at h

-- ---- whether a block is known

abbrev is_system_by : Result Geometry BadSuper → ℕ → Bool
is_system_by (Ok g) b = is_system (role g b)
is_system_by (Err bad) b = false

-- whether a block of a volume is claimed
unfoldable pub is_claimed : ℕ → ℕ → Volume → ℕ → Bool
is_claimed l n v b = has_number (all_claimed (volume_fragments l n v) (inodes_by (geometry_on l n v)) (pointers_by (geometry_on l n v))) b

-- whether it is one of the file system itself
unfoldable pub is_system_block : ℕ → ℕ → Volume → ℕ → Bool
is_system_block l n v b = is_system_by (geometry_on l n v) b

-- whether it is known
abbrev pub is_known : ℕ → ℕ → Volume → ℕ → Bool
is_known l n v b = is_system_block l n v b || is_claimed l n v b

pub claimed_is : (l n : ℕ) (v : Volume) (b : ℕ) → is_claimed l n v b ≡ true → IsClaimed l n v b
unfolding is_claimed
claimed_is l n v b e = found_claimed (volume_fragments l n v) (inodes_by (geometry_on l n v)) (pointers_by (geometry_on l n v)) b e

pub is_claimed_there : (l n : ℕ) (v : Volume) (b : ℕ) → IsClaimed l n v b → is_claimed l n v b ≡ true
unfolding is_claimed
is_claimed_there l n v b claim =
    claimed_found (volume_fragments l n v) (inodes_by (geometry_on l n v)) (pointers_by (geometry_on l n v)) (volume_bounded l n v) b claim.0 claim.1

pub system_is : (l n : ℕ) (v : Volume) (b : ℕ) → is_system_block l n v b ≡ true → IsSystemBlock l n v b
unfolding is_system_block
system_is l n v b e = by_geometry (geometry_on l n v) refl e
  where
    by_geometry : (r : Result Geometry BadSuper) → geometry_on l n v ≡ r → is_system_by r b ≡ true → IsSystemBlock l n v b
    by_geometry (Ok g) at h = rw at h
    by_geometry (Err bad) at h = absurd (false≢true h)

pub is_system_there : (l n : ℕ) (v : Volume) (b : ℕ) → IsSystemBlock l n v b → is_system_block l n v b ≡ true
unfolding is_system_block
is_system_there l n v b h = by_geometry (geometry_on l n v) refl h
  where
    by_geometry : (r : Result Geometry BadSuper) → geometry_on l n v ≡ r → IsSystemBlock l n v b → is_system_by r b ≡ true
    by_geometry (Ok g) at h = rw at at h
    by_geometry (Err bad) at h = absurd (rw at at h)

pub known_is : (l n : ℕ) (v : Volume) (b : ℕ) → is_known l n v b ≡ true → IsKnown l n v b
known_is l n v b e = elim (or_cases (is_system_block l n v b) (is_claimed l n v b) e) [
  | inl system ↦ inl (system_is l n v b system)
  | inr claim ↦ inr (claimed_is l n v b claim)
]

pub is_known_there : (l n : ℕ) (v : Volume) (b : ℕ) → IsKnown l n v b → is_known l n v b ≡ true
is_known_there l n v b h = elim h [
  | inl system ↦ ap (λ t. t || is_claimed l n v b) (is_system_there l n v b system)
  | inr claim ↦ or_right (is_system_block l n v b) (is_claimed l n v b) (is_claimed_there l n v b claim)
]
  where
    or_right : (x y : Bool) → y ≡ true → (x || y) ≡ true
    or_right true y e = refl
    or_right false y e = e

-- ---- the next marks

-- the marks that are left of some on a volume, computed
abbrev pub marks_left : ℕ → ℕ → Volume → List Bool → List Bool
marks_left l n v old = map (λ b. is_marked old b && not (is_known l n v b)) (range_with_len 0 (length old))

marks_below : (l n : ℕ) (v : Volume) (old : List Bool) (b : ℕ) → b < length old → is_marked (marks_left l n v old) b ≡ (is_marked old b && not (is_known l n v b))
marks_below l n v old b low = get_or-map-range_with_len (λ c. is_marked old c && not (is_known l n v c)) 0 (length old) b b false low (omega arith)

marks_above : (l n : ℕ) (v : Volume) (old : List Bool) (b : ℕ) → length old ≤ b → is_marked (marks_left l n v old) b ≡ false
marks_above l n v old b high =
    get_or_past (marks_left l n v old) b false
    (omega (arith, high, length-map-range_with_len (λ c. is_marked old c && not (is_known l n v c)) 0 (length old)))

left_from : (l n : ℕ) (v : Volume) (old : List Bool) (b : ℕ) → is_marked (marks_left l n v old) b ≡ true → (is_marked old b ≡ true) × (IsKnown l n v b → ⊥)
left_from l n v old b e = elim (cases_lt b (length old)) [
  | inl low ↦
      let parts = and_parts (is_marked old b) (not (is_known l n v b)) (sym (marks_below l n v old b low) ∙ e) in
      (parts.0, λ known. both_ways (is_known l n v b) (not-true (is_known l n v b) parts.1) (is_known_there l n v b known))
  | inr high ↦ absurd (false≢true (sym (marks_above l n v old b high) ∙ e))
]

unknown : (l n : ℕ) (v : Volume) (b : ℕ) → (IsKnown l n v b → ⊥) → not (is_known l n v b) ≡ true
unknown l n v b none = elim (cases_Bool (is_known l n v b)) [
  | inl known ↦ absurd (none (known_is l n v b known))
  | inr e ↦ ap not e
]

left_to : (l n : ℕ) (v : Volume) (old : List Bool) (b : ℕ) → (is_marked old b ≡ true) × (IsKnown l n v b → ⊥) → is_marked (marks_left l n v old) b ≡ true
left_to l n v old b h = elim (cases_lt b (length old)) [
  | inl low ↦ marks_below l n v old b low ∙ and_from (is_marked old b) (not (is_known l n v b)) h.0 (unknown l n v b h.1)
  | inr high ↦ absurd (false≢true (sym (get_or_past old b false high) ∙ h.0))
]

pub left_are : (Known : Type 0) (l n : ℕ) (v : Volume) (old : List Bool) → AreLeft Known l n v old (marks_left l n v old)
left_are Known l n v old = record {
  size = length-map-range_with_len (λ c. is_marked old c && not (is_known l n v c)) 0 (length old);
  fewer = λ b e. (left_from l n v old b e).0;
  are = λ known b. (left_from l n v old b, left_to l n v old b);
}

-- the next marks, computed
abbrev pub next_marks : Bool → ℕ → ℕ → Volume → List Bool → List Bool
next_marks true l n v old = old
next_marks false l n v old = marks_left l n v old

-- Whatever the volume and the marks, some are the next ones.
pub next_are : (broken : Bool) (Known : Type 0) (l n : ℕ) (v : Volume) (old : List Bool) → AreNext broken Known l n v old (next_marks broken l n v old)
next_are true Known l n v old = refl
next_are false Known l n v old = left_are Known l n v old
