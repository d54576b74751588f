-- What calls leave of volumes over racks of groups of disks, and what calls on single disks ask of them.
use Rattle.std.proofs.Common.{◌≡◌, ◌≢◌, ◌≤◌, ◌+◌, ◌*◌, ◌/◌, ◌==◌, ℕ, List, [], ap, arith, refl, subst}
use Rattle.std.specs.Prelude.{Option, Some, None, IfSome, if◌then◌else◌, length, slice_get}
use Rattle.std.proofs.Math.Nat.{mul-add-mod_self_left}
use Rattle.dg_io.specs.declared.outside.Rack.{Ghosts}
use Rattle.dg_model.specs.Saves.{member_length}
use Rattle.dg_model.specs.declared.members.MemberState.{MemberState}
use Rattle.dg_model.specs.declared.members.MemberState.TheVariants.{Filling, Good, Out}
use Rattle.dg_model.specs.Tables.{Table}
use Rattle.dg_model.specs.declared.shapes.Shape.{Shape}
use Rattle.dg_parity.specs.Arrays.{Grouped, group_at, grouped_bytes, told_of}
use Rattle.dg_parity.specs.ParityLaws.{shape_stays}
use Rattle.dg_parity.specs.ParityRacks.{IsNew, groups_in, parity_bytes, parity_words, width_in}
use Rattle.dg_parity.specs.declared.groups.Group.{Group}
use Rattle.dg_parity.specs.declared.parity_racks.ParityRack.{ParityRack}
use Rattle.dg_parity.specs.declared.parity_racks.ParityRack.TheVariants.{OfGroups, Plain}
use Rattle.dg_store.specs.Leaves.{IsCallBelow, IsCallOrBlankBelow}
use Rattle.dg_store.specs.Stores.{members_of}
use Rattle.dg_volume.specs.Disks.{AreSingle, LeavesDisks}
use Rattle.dg_volume.specs.Regroups.{GoesOn}
use Rattle.dg_volume.specs.Volumes.{IsBlankVolume, Leaves, loose_phase, rack_of, shape_of}
use Rattle.dg_volume.specs.declared.phases.InPhase as phases
use Rattle.dg_volume.specs.declared.phases.Loose.{Loose}
use Rattle.dg_volume.specs.declared.volumes.Volume.{Volume}
use Rattle.dg_volume_tests.specs.Grouped.{IsOfGroups}

-- ---- what calls leave

pub new_groups : {R : Type 0} (rack : Ghosts R) (below : R) (groups n : ℕ) (it : ParityRack R) → IsNew rack below groups n it → groups_in it ≡ groups
new_groups rack below groups n (Plain it) new = absurd new
new_groups rack below groups n (OfGroups it) new = new.count

-- a blank volume over a rack of so many new groups
pub blank_grouped : {R : Type 0} (rack : Ghosts R) (shape : Shape) (below : R) (groups n : ℕ) (before : ParityRack R) (volume : Volume Loose (ParityRack R))
    → IsNew rack below groups n before → shape.b ≤ groups → IsBlankVolume (parity_words rack) shape before volume → IsOfGroups loose_phase rack volume
blank_grouped rack shape below groups n before volume new few blank =
    let stays = shape_stays rack (parity_words rack) (λ a b calls made. made) (IsCallOrBlankBelow shape.b) before (rack_of volume) blank.own.made in
    record {
      well = blank.well;
      groups = omega (arith, few, new_groups rack below groups n before new, stays.groups, ap (λ (s : Shape). s.b) blank.shape_is);
    }

-- any call but those on single disks
pub stays_grouped : {S T R : Type 0} (from : phases.Ghosts S) (to : phases.Ghosts T) (rack : Ghosts R) (old : Volume S (ParityRack R)) (new : Volume T (ParityRack R))
    → Leaves from to (parity_words rack) old new → IsOfGroups from rack old → IsOfGroups to rack new
stays_grouped from to rack old new leaves was =
    let stays = shape_stays rack (parity_words rack) (λ a b calls made. made) (IsCallBelow (shape_of old).b) (rack_of old) (rack_of new) leaves.own.made in
    record {
      well = leaves.well;
      groups = omega (arith, was.groups, stays.groups, ap (λ (s : Shape). s.b) leaves.shape);
    }

-- a call on a single disk
pub handled_grouped : {S R : Type 0} (phase : phases.Ghosts S) (rack : Ghosts R) (s j : ℕ) (old new : Volume S (ParityRack R))
    → GoesOn phase (parity_words rack) old new → LeavesDisks (parity_words rack) width_in groups_in s j old new → IsOfGroups phase rack old → IsOfGroups phase rack new
handled_grouped phase rack s j old new on leaves was = record {
  well = on.well;
  groups = omega (arith, was.groups, leaves.array.groups_is, ap (λ (t : Table). t.shape.b) leaves.array.table);
}

-- ---- what calls on single disks ask for

-- the rack has a group for each boundary
pub has_groups : {S R : Type 0} (phase : phases.Ghosts S) (rack : Ghosts R) (volume : Volume S (ParityRack R)) → IsOfGroups phase rack volume
    → IfSome (width_in (rack_of volume)) (λ n. (shape_of volume).b ≤ groups_in (rack_of volume))
has_groups phase rack volume is = if_some (width_in (rack_of volume)) is.groups where
  if_some : (o : Option ℕ) → (shape_of volume).b ≤ groups_in (rack_of volume) → IfSome o (λ n. (shape_of volume).b ≤ groups_in (rack_of volume))
  if_some None few = tt
  if_some (Some n) few = few

pub out_by : (m : MemberState) → ((m ≢ Out) → ⊥) → m ≡ Out
out_by Good not = absurd (not (λ e. absurd (cc e)))
out_by (Filling n) not = absurd (not (λ e. absurd (cc e)))
out_by Out not = refl

-- the second member of a group has no byte
pub second_bytes : {R : Type 0} (rack : Ghosts R) (it : Grouped R) (x : ℕ) → grouped_bytes rack it (2 * x + 1) ≡ Some []
second_bytes rack it x = ap (λ (o : Option Group). told_of rack it.rack o) at where
  at : group_at it.groups (2 * x + 1) ≡ None
  at = ap (λ (r : ℕ). if r == 0 then slice_get it.groups ((2 * x + 1) / 2) else None) (mul-add-mod_self_left 2 x 1)

-- so it is out, since one that isn't has room for a label
single_of : {S R : Type 0} (phase : phases.Ghosts S) (rack : Ghosts R) (volume : Volume S (ParityRack R)) → IsOfGroups phase rack volume
    → (r : ParityRack R) → rack_of volume ≡ r → AreSingle volume
single_of phase rack volume is (Plain it) same x = absurd (omega (arith, is.groups, ap groups_in same, is.well.array.table.shape.least_boundaries))
single_of {R = R} phase rack volume is (OfGroups it) same x = out_by (members_of volume.store (2 * x + 1)) (λ not.
    let long : IfSome (grouped_bytes rack it (2 * x + 1)) (λ all. member_length 1 (shape_of volume) ≤ length all) =
    subst (λ (now : ParityRack R). IfSome (parity_bytes rack now (2 * x + 1)) (λ all. member_length 1 (shape_of volume) ≤ length all)) same (is.well.array.long (2 * x + 1) not) in
    let short : member_length 1 (shape_of volume) ≤ 0 =
    subst (λ (told : Option (List ℕ)). IfSome told (λ all. member_length 1 (shape_of volume) ≤ length all)) (second_bytes rack it x) long in
    absurd (omega (arith, short)))

-- no boundary has a second member
pub has_single : {S R : Type 0} (phase : phases.Ghosts S) (rack : Ghosts R) (volume : Volume S (ParityRack R)) → IsOfGroups phase rack volume
    → IfSome (width_in (rack_of volume)) (λ n. AreSingle volume)
has_single phase rack volume is = if_some (width_in (rack_of volume)) where
  if_some : (o : Option ℕ) → IfSome o (λ n. AreSingle volume)
  if_some None = tt
  if_some (Some n) = single_of phase rack volume is (rack_of volume) refl
