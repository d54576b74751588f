use Rattle.std.proofs.Common.{refl}
use Rattle.dg_volume.proofs.LostSteps.{has_marked, lost_runs, lost_wanting}
use Rattle.dg_volume.proofs.MoveSteps.{has_read}
use Rattle.dg_volume.proofs.VolumeLaws.{leaves_none, reads_leave}
use Rattle.dg_volume.proofs.volumes.Volume.list_lost.Goals as goal

pub returns-in_err-marks-clause-leaves : goal.returns-in_err-marks-clause-leaves
returns-in_err-marks-clause-leaves g c = leaves_none g.S.InPhase g.R.Rack c.args.self.now c.requires.well

pub returns-clause-steps : goal.returns-clause-steps
returns-clause-steps g c =
    let a = c.args.self.now in
    let b = record a { store = c.cut_marked.new.store; levels = c.cut_marked.new.levels } in
    let m = has_marked g.S.InPhase a c.in-Some.inference.now c.deref.result.now c.in_ok-marks.marks.items c.deref-2.result.now c.requires.settled
    c.in-Some.ensures.kept c.requires.well.inferred c.deref.ensures.value c.deref-2.ensures.value c.in_ok-marks.ensures in
    lost_runs g.S.InPhase g.R.Rack a b c.deref-2.result.now m
    (has_read g.S.InPhase g.R.Rack a b c.requires.well (record { phase_is = refl; pending = refl; homes = refl; copies = refl; in_use = refl }) c.cut_marked.ensures.levels refl c.cut_marked.ensures.reads)
    {C = g.row.O.Denot} g.O.PathList.took g.O.PathList.took_part g.O.PathList.faults c.args.out.now c.cut_marked.new.out c.cut_marked.result c.cut_marked.ensures.cause c.cut_marked.ensures.rule

pub returns-clause-part : goal.returns-clause-part
returns-clause-part g c =
    let a = c.args.self.now in
    let b = record a { store = c.cut_marked.new.store; levels = c.cut_marked.new.levels } in
    let m = has_marked g.S.InPhase a c.in-Some.inference.now c.deref.result.now c.in_ok-marks.marks.items c.deref-2.result.now c.requires.settled
    c.in-Some.ensures.kept c.requires.well.inferred c.deref.ensures.value c.deref-2.ensures.value c.in_ok-marks.ensures in
    lost_wanting g.S.InPhase g.R.Rack a b c.deref-2.result.now m
    (has_read g.S.InPhase g.R.Rack a b c.requires.well (record { phase_is = refl; pending = refl; homes = refl; copies = refl; in_use = refl }) c.cut_marked.ensures.levels refl c.cut_marked.ensures.reads)
    {C = g.row.O.Denot} g.O.PathList.took c.args.out.now c.cut_marked.new.out c.cut_marked.result c.cut_marked.ensures.part

pub returns-clause-leaves : goal.returns-clause-leaves
returns-clause-leaves g c =
    let a = c.args.self.now in
    let b = record a { store = c.cut_marked.new.store; levels = c.cut_marked.new.levels } in
    reads_leave g.S.InPhase g.R.Rack a b c.requires.well
    (has_read g.S.InPhase g.R.Rack a b c.requires.well (record { phase_is = refl; pending = refl; homes = refl; copies = refl; in_use = refl }) c.cut_marked.ensures.levels refl c.cut_marked.ensures.reads)
