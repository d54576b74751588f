use Rattle.std.proofs.Common.{refl}
use Rattle.dg_volume.proofs.ArrayLaws.{told_by}
use Rattle.dg_volume.proofs.FileAnswers.{map_inode}
use Rattle.dg_volume.proofs.MoveSteps.{has_read}
use Rattle.dg_volume.proofs.PathSteps.{cat_answers, has_file}
use Rattle.dg_volume.proofs.VolumeLaws.{reads_leave}
use Rattle.dg_volume.proofs.volumes.Volume.cat.Goals as goal

pub returns-clause-leaves : goal.returns-clause-leaves
returns-clause-leaves g c =
    let a = c.args.self.now in
    let read = c.cut_cat-answer in
    let b = record a { store = read.new.store; levels = read.new.levels; given = read.result.1 } in
    reads_leave g.S.InPhase g.R.Rack a b c.requires.well
    (has_read g.S.InPhase g.R.Rack a b c.requires.well (record { phase_is = refl; pending = refl; homes = refl; copies = refl; in_use = refl }) read.ensures.levels refl read.ensures.reads)

pub returns-clause-inode : goal.returns-clause-inode
returns-clause-inode g c =
    let a = c.args.self.now in
    let read = c.cut_cat-answer in
    let b = record a { store = read.new.store; levels = read.new.levels; given = read.result.1 } in
    map_inode a.given read.result.1 read.result.0
    (λ i is. has_file g.S.InPhase g.R.Rack c.args.path.now a b i (told_by g.R.Rack a.store read.new.store read.ensures.reads.reads.keeps) is)
    read.ensures.inode

pub returns-clause-steps : goal.returns-clause-steps
returns-clause-steps g c =
    let a = c.args.self.now in
    let read = c.cut_cat-answer in
    let b = record a { store = read.new.store; levels = read.new.levels; given = read.result.1 } in
    cat_answers g.S.InPhase g.R.Rack {C = g.row.O.Denot} g.O.Pieces.took g.O.Pieces.took_part g.O.Pieces.faults c.args.out.now read.new.out c.args.path.now a b read.result.0
    (has_read g.S.InPhase g.R.Rack a b c.requires.well (record { phase_is = refl; pending = refl; homes = refl; copies = refl; in_use = refl }) read.ensures.levels refl read.ensures.reads)
    read.ensures.cause read.ensures.rule (returns-clause-inode g c)
