-- What a call on a disk leaves of a rack of the boundaries in use, by what it left of the rack below.
use Rattle.std.proofs.Common.{◌≡◌, ◌≢◌, ◌≤◌, ◌<◌, ℕ, Bool, true, false, List, Option, None, Some, IfSome, nat_lt, ◌↔◌, length, slice_index, if◌then◌else◌, refl, sym, ap, subst, arith}
use Rattle.std.specs.List.Sorted.{IsStrictlyIncreasing}
use Rattle.std.proofs.lemmas.Bool.{false≢true}
use Rattle.std.proofs.lemmas.Bool.Decides.{nat_tests}
use Rattle.dg_io.specs.DiskAnswers.{MendsDisk, OneDisk, is_group_lost}
use Rattle.dg_io.specs.Disks.{DiskStates}
use Rattle.dg_io.specs.declared.disks.MendAnswer.{MendAnswer}
use Rattle.dg_io.specs.declared.disks.MendAnswer.TheVariants.{Lost, NotOut}
use Rattle.dg_model.specs.Causes.{Rose}
use Rattle.dg_model.specs.Lives.{boundary_at}
use Rattle.dg_regroup.specs.LivePlaces.{by_there, few_pass, first_groups, live_differs}
use Rattle.dg_regroup.specs.LiveRacks.{live_groups}
use Rattle.dg_regroup.specs.declared.live_racks.LiveRack.{LiveRack}

-- ---- groups

-- a place behind the last boundary in use is excluded where the rack has disks
pub not_in_use : {R : Type 0} (width : Option ℕ) (it : LiveRack R) (groups : R → ℕ) (s j : ℕ) → IfSome width (λ n. (s < live_groups groups it) × (j < n)) → length it.live.items ≤ s → width ≡ None
not_in_use None it groups s j place high = refl
not_in_use (Some n) it groups s j place high = absurd (omega (arith, place.0, high, few_pass (λ t. nat_lt t (groups it.rack)) it.live.items))

pub none_says : (P : ℕ → Type 0) (width : Option ℕ) → width ≡ None → IfSome width P
none_says P width is = subst (λ (w : Option ℕ). IfSome w P) (sym is) tt

-- and one of a boundary in use is a group of the rack below
pub group_below : {R : Type 0} (width : Option ℕ) (it : LiveRack R) (groups : R → ℕ) (s j group : ℕ) → group ≡ slice_index it.live.items s
    → IfSome width (λ n. (s < live_groups groups it) × (j < n)) → IfSome width (λ n. (group < groups it.rack) × (j < n))
group_below None it groups s j group is place = tt
group_below (Some n) it groups s j group is place = (omega (arith, is, first_groups (groups it.rack) it.live.items s it.ascend (place.0)), place.1)

-- ---- one disk

-- the disks of the boundaries in use, by places
abbrev by_live : List ℕ → DiskStates → DiskStates
by_live live disks = record {
  out = λ s j. if nat_lt s (length live) then disks.out (boundary_at live s) j else false;
  faults = λ s j. if nat_lt s (length live) then disks.faults (boundary_at live s) j else 0;
}

pub one_disk_through : (live : List ℕ) (s j : ℕ) (old new : DiskStates) → IsStrictlyIncreasing live → s < length live → OneDisk (boundary_at live s) j old new
    → OneDisk s j (by_live live old) (by_live live new)
one_disk_through live s j old new rise within one = record {
  rise = λ t i. by_there ◌≤◌ (nat_lt t (length live)) _ _ _ _ (λ h. one.rise (boundary_at live t) i) (λ gone. omega arith);
  cause = λ t i differ. went (nat_lt t (length live)) _ _ _ _ (λ h. one.cause (boundary_at live t) i (apart t i differ h));
  stays = λ t i differ. stay (nat_lt t (length live)) _ _ (λ h. one.stays (boundary_at live t) i (apart t i differ h));
} where
  apart : (t i : ℕ) → (t ≡ s → i ≢ j) → nat_lt t (length live) ≡ true → boundary_at live t ≡ boundary_at live s → i ≢ j
  apart t i differ h e level = live_differs live t s rise (grind (arith, nat_tests)) within (λ is. differ is level) e

  went : (there : Bool) (o n : Bool) (f g : ℕ) → (there ≡ true → o ≡ false → n ≡ true → Rose f g)
      → (if there then o else false) ≡ false → (if there then n else false) ≡ true → Rose (if there then f else 0) (if there then g else 0)
  went true o n f g h was is = h refl was is
  went false o n f g h was is = absurd (false≢true is)

  stay : (there : Bool) (o n : Bool) → (there ≡ true → o ≡ true → n ≡ true) → (if there then o else false) ≡ true → (if there then n else false) ≡ true
  stay true o n h was = h refl was
  stay false o n h was = was

pub mends_through : (live : List ℕ) (width : Option ℕ) (s j : ℕ) (answer : MendAnswer) (old new : DiskStates) → s < length live
    → IfSome width (λ n. MendsDisk n (boundary_at live s) j old new answer) → IfSome width (λ n. MendsDisk n s j (by_live live old) (by_live live new) answer)
mends_through live None s j answer old new within mends = tt
mends_through live (Some n) s j answer old new within mends = record {
  lost = subst (λ (p : ℕ → Bool). (answer ≡ Lost) ↔ (is_group_lost n (λ t. p) s ≡ true)) (sym (out_at new)) mends.lost;
  not_out = subst (λ (p : ℕ → Bool). (answer ≡ NotOut) ↔ ((is_group_lost n (λ t. p) s ≡ false) × (by_live live old).out s j ≡ false)) (sym (out_at new))
      (subst (λ (p : ℕ → Bool). (answer ≡ NotOut) ↔ ((is_group_lost n new.out (boundary_at live s) ≡ false) × p j ≡ false)) (sym (out_at old)) mends.not_out);
  idle = λ is. ap (by_live live) (mends.idle is);
  failed = λ is. rw there (mends.failed is);
  mended = λ stripes is. rw there (mends.mended stripes is);
  cause = rw there mends.cause;
} where
  there : nat_lt s (length live) ≡ true
  there = grind (arith, nat_tests, within)

  out_at : (disks : DiskStates) → (by_live live disks).out s ≡ disks.out (boundary_at live s)
  out_at disks = ap (λ (b : Bool). λ (i : ℕ). if b then disks.out (boundary_at live s) i else false) there
