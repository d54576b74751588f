-- What calls leave of volumes of which `commit` may be called.
use Rattle.std.proofs.Common.{◌≡◌, ◌∙◌, ◌≤◌, ◌+◌, ◌*◌, ℕ, List, ap, refl, subst, sym}
use Rattle.std.specs.Prelude.{IfSome, Option, Some}
use Rattle.dg_io.specs.Makes.{Makes}
use Rattle.dg_io.specs.Makes.Makes.{nothing as made_nothing, after as made_after}
use Rattle.dg_io.specs.RackCalls.{RackCall}
use Rattle.dg_io.specs.declared.checkpoints.CommitAnswer.{CommitAnswer}
use Rattle.dg_io.specs.declared.outside.Rack.{Ghosts}
use Rattle.dg_model.specs.Tables.{Table}
use Rattle.dg_model.specs.declared.shapes.Shape.{Shape}
use Rattle.dg_stop.specs.StopRacks.{IsNew, stop_room, stop_words}
use Rattle.dg_stop.specs.Ties.{calls_room}
use Rattle.dg_stop.specs.declared.stop_racks.StopRack.{StopRack}
use Rattle.dg_stop.specs.declared.stop_racks.StopRack.TheVariants.{Doubled, Plain}
use Rattle.dg_volume.specs.Besides.{AnswersOpenKept}
use Rattle.dg_volume.specs.Commits.{Commits}
use Rattle.dg_volume.specs.Regroups.{GoesOn}
use Rattle.dg_volume.specs.Volumes.{IsBlankVolume, LeavesBy, any_phase, loose_phase, rack_of, shape_of}
use Rattle.dg_volume.specs.declared.opens.OpenAnswer.TheVariants.{Opened}
use Rattle.dg_volume.specs.declared.phases.AnyPhase.{AnyPhase}
use Rattle.dg_volume.specs.declared.phases.InPhase as phases
use Rattle.dg_volume.specs.declared.phases.Loose.{Loose}
use Rattle.dg_volume.specs.declared.volumes.Volume.{Volume}
use Rattle.dg_volume_tests.specs.Rooms.{HasRoom}

-- the law of a rack that no call takes its room away
abbrev LeavesRoom : {R : Type 0} → Ghosts R → (R → Option ℕ) → Type 0
LeavesRoom {R = R} rack room = (a b : R) (made : List RackCall) → rack.made a made b → room b ≡ room a

room_stays : {R : Type 0} (rack : Ghosts R) (room : R → Option ℕ) → LeavesRoom rack room → (may : RackCall → Type 0) (a b : R) → Makes rack may a b → room b ≡ room a
room_stays rack room law may a b (made_nothing same) = ap room same
room_stays rack room law may a b (made_after {b = mid} first only) = law mid b only.calls only.made ∙ room_stays rack room law may a mid first

enough_for : (n m : ℕ) (was now : Option ℕ) → now ≡ was → m ≡ n → IfSome was (λ bytes. 30 + 4 * n ≤ bytes) → IfSome now (λ bytes. 30 + 4 * m ≤ bytes)
enough_for n m was now same number enough =
    subst (λ (o : Option ℕ). IfSome o (λ bytes. 30 + 4 * m ≤ bytes)) (sym same) (subst (λ (k : ℕ). IfSome was (λ bytes. 30 + 4 * k ≤ bytes)) (sym number) enough)

-- any call but a commit
pub stays_roomy : {S T R : Type 0} (from : phases.Ghosts S) (to : phases.Ghosts T) (rack : Ghosts R) (room : R → Option ℕ) (may : ℕ → RackCall → Type 0) (old : Volume S R) (new : Volume T R)
    → LeavesBy from to rack may old new → HasRoom from rack room old → HasRoom to rack room new
stays_roomy from to rack room may old new leaves was = record {
  well = leaves.well;
  stays = was.stays;
  enough = enough_for (shape_of old).n (shape_of new).n _ _ (room_stays rack room was.stays _ (rack_of old) (rack_of new) leaves.own.made) (ap (λ (s : Shape). s.n) leaves.shape) was.enough;
}

pub committed_roomy : {S R : Type 0} (phase : phases.Ghosts S) (rack : Ghosts R) (room : R → Option ℕ) (goes : R → R → Type 0) (old new : Volume S R) (answer : CommitAnswer)
    → GoesOn phase rack old new → Commits phase rack room goes old answer new → HasRoom phase rack room old → HasRoom phase rack room new
committed_roomy phase rack room goes old new answer on commits was = record {
  well = on.well;
  stays = was.stays;
  enough = enough_for (shape_of old).n (shape_of new).n _ _ commits.array.leaves.room_is (ap (λ (t : Table). t.shape.n) commits.array.table) was.enough;
}

new_room : {R : Type 0} (below : R) (members most room : ℕ) (it : StopRack R) → IsNew below members most room it → stop_room it ≡ Some room
new_room below members most room (Plain it) new = absurd new
new_room below members most room (Doubled it) new = ap (λ (n : ℕ). Some n) new.1.room_is

-- a blank volume over a new double rack
pub blank_roomy : {R : Type 0} (rack : Ghosts R) (shape : Shape) (below : R) (members most room : ℕ) (before : StopRack R) (volume : Volume Loose (StopRack R))
    → IsNew below members most room before → 30 + 4 * shape.n ≤ room → IsBlankVolume (stop_words rack) shape before volume
    → HasRoom loose_phase (stop_words rack) stop_room volume
blank_roomy rack shape below members most room before volume new few blank = record {
  well = blank.well;
  stays = calls_room rack;
  enough = enough_for shape.n (shape_of volume).n (Some room) (stop_room (rack_of volume))
      (room_stays (stop_words rack) stop_room (calls_room rack) _ before (rack_of volume) blank.own.made ∙ new_room below members most room before new)
      (ap (λ (s : Shape). s.n) blank.shape_is) few;
}

-- a volume that was opened with what its rack keeps beside its state
pub kept_roomy : {R : Type 0} (rack : Ghosts R) (room : R → Option ℕ) → LeavesRoom rack room → (before : R) (bytes : List ℕ) (volume : Volume AnyPhase R) (hot : List ℕ)
    → AnswersOpenKept rack room before bytes (Opened volume hot) → HasRoom any_phase rack room volume
kept_roomy rack room law before bytes volume hot opens =
    let n = (shape_of volume).n in
    let opened = opens.answers.opened in record {
      well = opened.well;
      stays = law;
      enough = enough_for n n (room before) (room (rack_of volume)) (room_stays rack room law _ before (rack_of volume) opened.made) refl opens.answers.enough;
    }
