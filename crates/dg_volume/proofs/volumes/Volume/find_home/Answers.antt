use Rattle.std.proofs.Common.{◌∙◌, true, false, refl, sym}
use Rattle.dg_volume.proofs.MoveSteps.{has_read}
use Rattle.dg_volume.proofs.SettledSteps.{file_found, file_missed, home_fault, home_irregular, home_steps}
use Rattle.dg_volume.proofs.VolumeLaws.{reads_leave}
use Rattle.dg_volume.specs.Volumes.{shape_of}
use Rattle.dg_volume.proofs.volumes.Volume.find_home.Goals as goal

pub returns-then-is_regular-clause-steps : goal.returns-then-is_regular-clause-steps
returns-then-is_regular-clause-steps g c =
    let a = c.args.self.now in
    rw c.home_in.ensures
    (home_steps g.S.InPhase g.R.Rack c.args.path.now c.in-Ok.found.0 a (record a { store = c.cut_look.new.store; levels = c.cut_look.new.levels }) c.requires.settled
    (has_read g.S.InPhase g.R.Rack a (record a { store = c.cut_look.new.store; levels = c.cut_look.new.levels }) c.requires.well (record { phase_is = refl; pending = refl; homes = refl; copies = refl; in_use = refl }) c.cut_look.ensures.levels refl c.cut_look.ensures.reads)
    (file_found (shape_of a).l (shape_of a).n c.args.path.now c.cut_look.ensures.stays c.in-Ok.found true (sym c.is_regular.ensures ∙ c.if-is_regular.true) c.in-Ok.ensures.rule)
    c.requires.well.in_use c.requires.well.homes_are c.requires.well.copies_are)

pub returns-else-is_regular-clause-steps : goal.returns-else-is_regular-clause-steps
returns-else-is_regular-clause-steps g c =
    let a = c.args.self.now in
    home_irregular g.S.InPhase g.R.Rack c.args.path.now a (record a { store = c.cut_look.new.store; levels = c.cut_look.new.levels }) c.requires.settled
    (has_read g.S.InPhase g.R.Rack a (record a { store = c.cut_look.new.store; levels = c.cut_look.new.levels }) c.requires.well (record { phase_is = refl; pending = refl; homes = refl; copies = refl; in_use = refl }) c.cut_look.ensures.levels refl c.cut_look.ensures.reads)
    (file_found (shape_of a).l (shape_of a).n c.args.path.now c.cut_look.ensures.stays c.in-Ok.found false (sym c.is_regular.ensures ∙ c.if-is_regular.false) c.in-Ok.ensures.rule)

pub returns-in-Err-clause-steps : goal.returns-in-Err-clause-steps
returns-in-Err-clause-steps g c =
    let a = c.args.self.now in
    home_fault g.S.InPhase g.R.Rack c.args.path.now c.in-Err.fault a (record a { store = c.cut_look.new.store; levels = c.cut_look.new.levels }) c.requires.settled
    (has_read g.S.InPhase g.R.Rack a (record a { store = c.cut_look.new.store; levels = c.cut_look.new.levels }) c.requires.well (record { phase_is = refl; pending = refl; homes = refl; copies = refl; in_use = refl }) c.cut_look.ensures.levels refl c.cut_look.ensures.reads)
    (file_missed (shape_of a).l (shape_of a).n c.args.path.now c.cut_look.ensures.stays c.in-Err.fault c.in-Err.ensures.rule)
    c.in-Err.ensures.cause

pub returns-then-is_regular-clause-leaves : goal.returns-then-is_regular-clause-leaves
returns-then-is_regular-clause-leaves g c =
    let a = c.args.self.now in
    reads_leave g.S.InPhase g.R.Rack a (record a { store = c.cut_look.new.store; levels = c.cut_look.new.levels }) c.requires.well
    (has_read g.S.InPhase g.R.Rack a (record a { store = c.cut_look.new.store; levels = c.cut_look.new.levels }) c.requires.well (record { phase_is = refl; pending = refl; homes = refl; copies = refl; in_use = refl }) c.cut_look.ensures.levels refl c.cut_look.ensures.reads)

pub returns-else-is_regular-clause-leaves : goal.returns-else-is_regular-clause-leaves
returns-else-is_regular-clause-leaves g c =
    let a = c.args.self.now in
    reads_leave g.S.InPhase g.R.Rack a (record a { store = c.cut_look.new.store; levels = c.cut_look.new.levels }) c.requires.well
    (has_read g.S.InPhase g.R.Rack a (record a { store = c.cut_look.new.store; levels = c.cut_look.new.levels }) c.requires.well (record { phase_is = refl; pending = refl; homes = refl; copies = refl; in_use = refl }) c.cut_look.ensures.levels refl c.cut_look.ensures.reads)

pub returns-in-Err-clause-leaves : goal.returns-in-Err-clause-leaves
returns-in-Err-clause-leaves g c =
    let a = c.args.self.now in
    reads_leave g.S.InPhase g.R.Rack a (record a { store = c.cut_look.new.store; levels = c.cut_look.new.levels }) c.requires.well
    (has_read g.S.InPhase g.R.Rack a (record a { store = c.cut_look.new.store; levels = c.cut_look.new.levels }) c.requires.well (record { phase_is = refl; pending = refl; homes = refl; copies = refl; in_use = refl }) c.cut_look.ensures.levels refl c.cut_look.ensures.reads)
