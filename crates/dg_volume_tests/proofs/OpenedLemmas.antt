-- Volumes that were opened with what a rack keeps beside a state.
use Rattle.std.proofs.Common.{ℕ, List}
use Rattle.std.specs.Prelude.{Option}
use Rattle.dg_io.specs.declared.outside.Rack.{Ghosts}
use Rattle.dg_volume.specs.Besides.{AnswersOpenKept}
use Rattle.dg_volume.specs.Volumes.{IsWell, any_phase}
use Rattle.dg_volume.specs.declared.opens.OpenAnswer.TheVariants.{Opened}
use Rattle.dg_volume.specs.declared.phases.AnyPhase.{AnyPhase}
use Rattle.dg_volume.specs.declared.volumes.Volume.{Volume}

-- all is well with them
pub kept_well : {R : Type 0} (rack : Ghosts R) (room : R → Option ℕ) (before : R) (bytes : List ℕ) (volume : Volume AnyPhase R) (hot : List ℕ)
    → AnswersOpenKept rack room before bytes (Opened volume hot) → IsWell any_phase rack volume
kept_well rack room before bytes volume hot opens = opens.answers.opened.well
