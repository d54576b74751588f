-- What a drill does to an array, and how it ends.
use Rattle.std.specs.Prelude.{◌≡◌, ◌<◌, ◌≤◌, ◌/◌, ℕ, List, [], ◌∷◌, ◌++◌, Option, map, length, count_by}
use Rattle.std.specs.List.{range_with_len}
use Rattle.dg_drill.specs.Calls.{Facts}
use Rattle.ufs_drill.specs.Items.{file_path}
use Rattle.dg_drill.specs.Reports.{boundary_of, report_text}
use Rattle.dg_drill.specs.Volumes.{IsDrillVolume, drill_shape}
use Rattle.dg_drill.specs.declared.drills.DrillEnd.{DrillEnd}
use Rattle.dg_drill.specs.declared.drills.DrillEnd.TheVariants.{Done, WriteFault}
use Rattle.dg_io.specs.Told.{IsSame, Told, Took, TookPart}
use Rattle.dg_model.specs.Runs.{Run, Trace}
use Rattle.dg_model.specs.Sites.{has_site}
use Rattle.dg_model.specs.States.{HoldsAll, State}
use Rattle.dg_model.specs.Tables.{Table}
use Rattle.dg_model.specs.declared.events.Event.{Event}
use Rattle.dg_model.specs.declared.events.Event.TheVariants.{Cat, Fail, Settle}
use Rattle.dg_model.specs.declared.replies.Reply.{Reply}
use Rattle.dg_trace.specs.Traces.{trace_events}
use Rattle.dg_words.specs.declared.commands.Order.TheVariants.{Late}
use Rattle.ufs_model.specs.declared.geometries.Geometry.{Geometry}

-- ---- events

-- the array is made, and each block of the volume that isn't all zero is written, those of files first
abbrev pub write_events : Geometry → List ℕ → List Event
write_events g image = trace_events Late g drill_shape image

-- both members of a boundary fail
abbrev pub loss_events : ℕ → List Event
loss_events seed = Fail (boundary_of seed) 0 ∷ Fail (boundary_of seed) 1 ∷ []

abbrev pub read_event : ℕ → Event
read_event k = Cat (file_path k)

-- each file is read
abbrev pub read_events : ℕ → List Event
read_events files = map read_event (range_with_len 0 files)

-- what comes behind the writes
abbrev pub later_events : ℕ → ℕ → List Event
later_events seed files = Settle ∷ (loss_events seed ++ read_events files)

-- how many blocks are written
abbrev pub written_count : Table → ℕ
written_count table = count_by has_site table.rows

-- ---- what was done

-- of each member of a state's boundaries the rack tells the bytes as long as the member stands
abbrev pub TellsBoundaries : (ℕ → Type 0) → State → Type 0
TellsBoundaries tells state = (q : ℕ) → q / 2 < state.table.shape.b → tells q

-- each member behind those of the drill's array has the bytes that it had, where it tells them
abbrev pub OthersKept : (ℕ → Option (List ℕ)) → (ℕ → Option (List ℕ)) → Type 0
OthersKept images bytes = (q : ℕ) → drill_shape.b ≤ q / 2 → Told IsSame (images q) (bytes q)

-- The volume was made, and the array went by a chain of steps, whatever the replies were: from nothing to where each block was written, and
-- on to where each file was read. The last state has the counts of the rack. Where the rack still tells each of its members in the end
-- (`tells`), the steps are known in their bytes too, and the members hold the last state. The rack's other members have the bytes that they had.
-- `text` is what is printed of it.
pub record HasDrilled (tells : ℕ → Type 0) (facts : Facts) (seed files : ℕ) (text : List ℕ) : Type 0 where
  pub image : List ℕ
  pub geometry : Geometry
  pub volume : IsDrillVolume seed files image geometry
  pub written : State
  pub final : State
  pub writes : List Reply
  pub settled : Reply
  pub losses : List Reply
  pub cats : List Reply
  pub number : length losses ≡ 2
  pub led : Trace (TellsBoundaries tells final) facts.before (write_events geometry image) writes written
  pub on : Run (TellsBoundaries tells final) written (later_events seed files) (settled ∷ (losses ++ cats)) final
  pub counts : final.counts ≡ facts.now
  pub holds : TellsBoundaries tells final → HoldsAll facts.bytes final
  pub others : OthersKept facts.images facts.bytes
  pub text_is : text ≡ report_text seed files (written_count written.table) settled cats

-- ---- how it ends

-- it was done, and its text was printed, whole (`Took`) or in part (`TookPart`)
abbrev pub Prints : (ℕ → Type 0) → Facts → ℕ → ℕ → (List ℕ → List ℕ → List ℕ → Type 0) → Type 0
Prints tells facts seed files printed =
    (text : List ℕ) × HasDrilled tells facts seed files text × Told (printed text) facts.taken facts.given

-- by the end
abbrev pub EndsDrill : (ℕ → Type 0) → Facts → ℕ → ℕ → DrillEnd → Type 0
EndsDrill tells facts seed files Done = Prints tells facts seed files Took
EndsDrill tells facts seed files WriteFault = Prints tells facts seed files TookPart
