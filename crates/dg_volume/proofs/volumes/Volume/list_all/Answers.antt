use Rattle.std.proofs.Common.{refl}
use Rattle.dg_volume.proofs.MoveSteps.{has_read}
use Rattle.dg_volume.proofs.SettledSteps.{tree_runs, tree_wanting}
use Rattle.dg_volume.proofs.VolumeLaws.{reads_leave}
use Rattle.dg_volume.proofs.volumes.Volume.list_all.Goals as goal

pub returns-clause-steps : goal.returns-clause-steps
returns-clause-steps g c =
    let a = c.args.self.now in
    let b = record a { store = c.cut_tree.new.store; levels = c.cut_tree.new.levels } in
    tree_runs g.S.InPhase g.R.Rack {C = g.row.O.Denot} g.O.Listing.took g.O.Listing.took_part g.O.Listing.faults c.args.out.now c.cut_tree.new.out a b
    c.cut_tree.result c.requires.settled
    (has_read g.S.InPhase g.R.Rack a b c.requires.well (record { phase_is = refl; pending = refl; homes = refl; copies = refl; in_use = refl }) c.cut_tree.ensures.levels refl c.cut_tree.ensures.reads)
    c.cut_tree.ensures.cause c.cut_tree.ensures.rule

pub returns-clause-part : goal.returns-clause-part
returns-clause-part g c =
    let a = c.args.self.now in
    let b = record a { store = c.cut_tree.new.store; levels = c.cut_tree.new.levels } in
    tree_wanting g.S.InPhase g.R.Rack {C = g.row.O.Denot} g.O.Listing.took c.args.out.now c.cut_tree.new.out a b
    c.cut_tree.result c.requires.settled
    (has_read g.S.InPhase g.R.Rack a b c.requires.well (record { phase_is = refl; pending = refl; homes = refl; copies = refl; in_use = refl }) c.cut_tree.ensures.levels refl c.cut_tree.ensures.reads)
    c.cut_tree.ensures.part

pub returns-clause-leaves : goal.returns-clause-leaves
returns-clause-leaves g c =
    let a = c.args.self.now in
    let b = record a { store = c.cut_tree.new.store; levels = c.cut_tree.new.levels } in
    reads_leave g.S.InPhase g.R.Rack a b c.requires.well
    (has_read g.S.InPhase g.R.Rack a b c.requires.well (record { phase_is = refl; pending = refl; homes = refl; copies = refl; in_use = refl }) c.cut_tree.ensures.levels refl c.cut_tree.ensures.reads)
