use Rattle.std.proofs.Common.{refl}
use Rattle.dg_volume.proofs.MoveSteps.{has_read}
use Rattle.dg_volume.proofs.PathSteps.{ls_answers}
use Rattle.dg_volume.proofs.VolumeLaws.{reads_leave}
use Rattle.dg_volume.proofs.volumes.Volume.ls.Goals as goal

pub returns-clause-leaves : goal.returns-clause-leaves
returns-clause-leaves g c =
    let a = c.args.self.now in
    let b = record a { store = c.cut_ls.new.store; levels = c.cut_ls.new.levels } in
    reads_leave g.S.InPhase g.R.Rack a b c.requires.well
    (has_read g.S.InPhase g.R.Rack a b c.requires.well (record { phase_is = refl; pending = refl; homes = refl; copies = refl; in_use = refl }) c.cut_ls.ensures.levels refl c.cut_ls.ensures.reads)

pub returns-clause-steps : goal.returns-clause-steps
returns-clause-steps g c =
    let a = c.args.self.now in
    let b = record a { store = c.cut_ls.new.store; levels = c.cut_ls.new.levels } in
    ls_answers g.S.InPhase g.R.Rack {C = g.row.O.Denot} g.O.Listing.took g.O.Listing.took_part g.O.Listing.faults c.args.out.now c.cut_ls.new.out c.args.path.now a b c.cut_ls.result
    (has_read g.S.InPhase g.R.Rack a b c.requires.well (record { phase_is = refl; pending = refl; homes = refl; copies = refl; in_use = refl }) c.cut_ls.ensures.levels refl c.cut_ls.ensures.reads)
    c.cut_ls.ensures.cause c.cut_ls.ensures.rule
