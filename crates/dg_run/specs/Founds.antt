-- A rack whose members hold a saved array, when headers had been read, and what a command leaves of the sink.
use Rattle.std.specs.Prelude.{◌≡◌, ◌≢◌, ◌<◌, ℕ, Bool, true, List, None, Option, Some}
use Rattle.dg_io.specs.SinkLines.{LeavesLines}
use Rattle.dg_io.specs.declared.outside.Rack.{Ghosts}
use Rattle.dg_io.specs.declared.outside.Sink as sinks
use Rattle.dg_model.specs.Causes.{Rose}
use Rattle.dg_regroup.specs.FrontRacks.{HasNoneRefused, front_length, is_front, rack_behind}
use Rattle.dg_regroup.specs.LiveRacks.{HasNoneAbsent, live_in, rack_in}
use Rattle.dg_regroup.specs.declared.extras.Extra.{Extra}
use Rattle.dg_regroup.specs.declared.live_racks.LiveRack.{LiveRack}
use Rattle.dg_run.specs.Bases.{Base}
use Rattle.dg_run.specs.Finds.{IsSaid, live_said}
use Rattle.dg_saved.specs.declared.ends.SavedEnd.{SavedEnd}
use Rattle.dg_saved.specs.declared.ends.SavedEnd.TheVariants.{WriteFault}
use Rattle.dg_stop.specs.DoubleOpenings.{AreFailed, Opens}
use Rattle.dg_stop.specs.Phases.{flag_in}
use Rattle.dg_stop.specs.StopCalls.{behind}

-- Members show as many of their first bytes as is said; or those with a mark nothing, and the others all.
abbrev pub ShowsBy : {R : Type 0} → Option Extra → List Bool → Base R → Type 0
ShowsBy None failed it = (front_length it ≡ None) × ((q : ℕ) → is_front it q ≡ flag_in failed q)
ShowsBy (Some extra) failed it = (front_length it ≡ Some extra.length) × ((q : ℕ) → q < 256 → is_front it q ≡ true)

pub record ShowsSaid {R : Type 0} (said : Option Extra) (failed : List Bool) (it : Base R) : Type 0 where
  pub by : ShowsBy said failed it
  pub refused : HasNoneRefused it

-- A rack was opened by its headers, with these extra bytes; the boundaries in use are those that they say.
pub record OpensRack {R : Type 0} (rack : Ghosts R) (before : R) (start : LiveRack (Base R)) (extra : List ℕ) : Type 0 where
  pub opens : Opens rack before (rack_behind (rack_in start)) extra
  pub failed : List Bool
  pub are_failed : AreFailed rack failed before (behind (rack_behind (rack_in start)))
  pub said : Option Extra
  pub is_said : IsSaid extra said
  pub live_is : live_in start ≡ live_said said
  pub none : HasNoneAbsent start
  pub shows : ShowsSaid said failed (rack_in start)

-- What a command on a saved array leaves of the sink, by its end: its faults, and calls that each give whole lines, at most so many bytes without one.
pub record Prints {K : Type 0} (w : ℕ) (out_ghosts : sinks.Ghosts K) (old new : K) (end : SavedEnd) : Type 0 where
  pub write : end ≡ WriteFault → Rose (out_ghosts.faults old) (out_ghosts.faults new)
  pub kept : end ≢ WriteFault → out_ghosts.faults new ≡ out_ghosts.faults old
  pub lines : end ≢ WriteFault → LeavesLines w out_ghosts.whole out_ghosts.calls out_ghosts.taken old new
