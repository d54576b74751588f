-- A volume over a rack of the boundaries in use: the rack's name tells how many there are.
use Rattle.std.proofs.Common.{◌≡◌, ◌≤◌, ◌<◌, ℕ, All, List, length, ap, arith, subst, sym}
use Rattle.std.proofs.lemmas.List.FromFn.{length-range_with_len}
use Rattle.dg_io.specs.declared.outside.Rack.{Ghosts}
use Rattle.dg_model.specs.Lives.{all_live}
use Rattle.dg_model.specs.Shapes.{IsShape}
use Rattle.dg_model.specs.declared.shapes.Shape.{Shape}
use Rattle.dg_regroup.specs.LiveGhosts.{live}
use Rattle.dg_regroup.specs.LiveRacks.{live_count, live_in, live_name, named}
use Rattle.dg_regroup.specs.declared.live_racks.LiveRack.{LiveRack}
use Rattle.dg_volume.specs.Volumes.{IsBlankVolume, loose_phase, rack_of}
use Rattle.dg_volume.specs.declared.phases.Loose.{Loose}
use Rattle.dg_volume.specs.declared.volumes.Volume.{Volume}
use Rattle.dg_volume_tests.specs.Ready.{IsReady}

-- the law of `dg_regroup` on names
abbrev pub TellNames : Type 0
TellNames = (one other : List ℕ) (n m : ℕ) → All (λ s. s < 16) one → All (λ s. s < 16) other → named n one ≡ named m other → (one ≡ other) × (n ≡ m)

same_count : {R : Type 0} (rack : Ghosts R) → TellNames → (r s : LiveRack R) → live_name rack r ≡ live_name rack s → live_count r ≡ live_count s
same_count rack law r s same =
    let both = law r.live.items s.live.items (rack.name r.rack) (rack.name s.rack) r.few s.few same in
    ap length both.0

-- a blank volume over a rack with as many boundaries in use
live_ready : {R : Type 0} (rack : Ghosts R) → TellNames → (shape : Shape) (before : LiveRack R) (volume : Volume Loose (LiveRack R))
    → IsBlankVolume (live rack) shape before volume → shape.b ≤ live_count before → IsReady loose_phase (live rack) live_count volume
live_ready rack law shape before volume blank room = record {
  well = blank.well;
  names = same_count rack law;
  enough = omega (arith, room, same_count rack law (rack_of volume) before blank.same_rack, ap (λ (s : Shape). s.b) blank.shape_is);
}

-- a blank volume over a rack of all boundaries that there may be
pub all_ready : {R : Type 0} (rack : Ghosts R) → TellNames → (shape : Shape) → IsShape shape → (before : LiveRack R) → live_in before ≡ all_live 16
    → (volume : Volume Loose (LiveRack R)) → IsBlankVolume (live rack) shape before volume → IsReady loose_phase (live rack) live_count volume
all_ready rack law shape well before all volume blank =
    live_ready rack law shape before volume blank
    (subst (λ (l : List ℕ). shape.b ≤ length l) (sym all) (omega (arith, well.most_boundaries, length-range_with_len 0 16)))
