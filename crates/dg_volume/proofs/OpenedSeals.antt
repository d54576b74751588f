-- A volume of which the seal was opened, and that is all.
use Rattle.std.specs.Prelude.{Option}
use Rattle.std.proofs.Common.{refl}
use Rattle.dg_io.specs.declared.outside.Rack.{Ghosts}
use Rattle.dg_label.specs.Seals.{KeepsArray}
use Rattle.dg_label.specs.declared.labels.KeptLabel.{KeptLabel}
use Rattle.dg_store.specs.declared.store.Store.{Store}
use Rattle.dg_volume.proofs.RebuildSteps.{HasOpened}
use Rattle.dg_volume.specs.Seals.{Relabels}
use Rattle.dg_volume.specs.Volumes.{IsWell, line_of}
use Rattle.dg_volume.specs.declared.phases.InPhase as phases
use Rattle.dg_volume.specs.declared.volumes.Volume.{Volume}

pub opened_by : {S R : Type 0} (phase : phases.Ghosts S) (rack : Ghosts R) (a : Volume S R) (store : Store R) (label : Option KeptLabel) → IsWell phase rack a → KeepsArray rack a.store store
    → Relabels rack (line_of a) a.store store a.label label → HasOpened phase rack a (record a { store = store; label = label })
opened_by phase rack a store label well opening labels = record {
  labeled = well.labeled;
  beside = record { phase_is = refl; pending = refl; homes = refl; copies = refl; in_use = refl };
  levels = refl;
  opening = opening;
  labels = labels;
}
